-- Why one pass over the nodes is enough for a round. A put rule changes what a part sees only at nodes of a greater rank than its own, and the channels' rules
-- stand in node order: so a node's value and met needs stay as they are from the time when the channels of the nodes before it were tried. Finish of one part
-- changes nothing that another part sees.
use mathlib.Core.Path.{◌≡◌, refl, sym, ap, ap₂, ◌∙◌, subst}
use mathlib.Core.Logic.{◌≢◌, inl, ⊎_elim}
use mathlib.Core.Bool.{Bool, true, false, cond, ◌&&◌, and-false}
use mathlib.Core.List.{[], ◌∷◌, ◌++◌, tail}
use Prim.Native.Nat.{ℕ, zero, suc, ◌+◌, ◌-◌, ◌≤◌, ◌<◌}
use native.Mathlib.Omega.{arith}
use native.Mathlib.Nat.{le_refl, le-suc, le_of_suc-le-suc, eq-or-lt_of_le, add-zero, add-suc}
use borrow.Author.Tests.{eqb-true, ne_eqb}
use lib.Dec.{eqb, ltb}
use lib.ListN.{get_or}
use Rattle.base.specs.Checks.{every}
use Rattle.nets.specs.Lists.{implies}
use Rattle.nets.specs.Net.{Net, Seen, Good}
use Rattle.nets.specs.State.{State, View, token, kept, calc, view, some_token, value_in, met_in, eval, met, present, needs_met}
use Rattle.nets.specs.Actions.{put, finish, ready, done_at, tests, within, next_of, done, step}
use Rattle.nets.specs.Rounds.{rule, after_rules}
use Rattle.nets.proofs.Facts.{split-on, map_same, all_same}
use Rattle.nets.proofs.Sight.{Sound, view_sound}
use Rattle.nets.proofs.Rounds.{play-next, rule-low, rule-finish}

-- ---- two states that a part sees alike, at a node and below

module _ (N : Net) (G : Good N) (s t : State) (p r : ℕ)
    (queues : (q : ℕ) → N.into q ≡ p → (N.from q < N.parts → N.draw.rank (N.node q) < r) → s.queue q ≡ t.queue q)
    (regs : (i : ℕ) → i < N.draw.nodes → N.part i ≡ p → s.held i ≡ t.held i) where
  eval-frame : (f i : ℕ) → Seen N p i → N.draw.rank i < f → (N.part i ≢ p → N.draw.rank i < r) → N.draw.rank i ≤ r → eval N s p f i ≡ eval N t p f i
  unfolding eval
  eval-frame zero i S h b c = refl
  eval-frame (suc f) i S h b c = go (eval-frame f) (view N p i) (view_sound N G p i S)
    where
      go : ((a : ℕ) → Seen N p a → N.draw.rank a < f → (N.part a ≢ p → N.draw.rank a < r) → N.draw.rank a ≤ r → eval N s p f a ≡ eval N t p f a)
          → (w : View) → Sound N p i w → value_in s i (eval N s p f) w ≡ value_in t i (eval N t p f) w
      go ih (token q) o = ap (λ x. get_or x 0 0) (queues q o.0 (λ l. subst (λ x. N.draw.rank x < r) (sym o.1) (b (o.2 l))))
      go ih kept o = regs i S.is_node o.0
      go ih (calc g xs) o = ap g (map_same (eval N s p f) (eval N t p f) xs (λ a u. let d = o.2 a u in ih a (o.1 a u) (omega arith) (λ _. omega arith) (omega arith)))

  met-frame : (f i : ℕ) → Seen N p i → N.draw.rank i < f → (N.part i ≢ p → N.draw.rank i < r) → N.draw.rank i ≤ r → met N s p f i ≡ met N t p f i
  unfolding met
  met-frame zero i S h b c = refl
  met-frame (suc f) i S h b c = go (met-frame f) (view N p i) (view_sound N G p i S)
    where
      go : ((a : ℕ) → Seen N p a → N.draw.rank a < f → (N.part a ≢ p → N.draw.rank a < r) → N.draw.rank a ≤ r → met N s p f a ≡ met N t p f a)
          → (w : View) → Sound N p i w → met_in s (met N s p f) w ≡ met_in t (met N t p f) w
      go ih (token q) o = ap some_token (queues q o.0 (λ l. subst (λ x. N.draw.rank x < r) (sym o.1) (b (o.2 l))))
      go ih kept o = refl
      go ih (calc g xs) o = all_same (met N s p f) (met N t p f) xs (λ a u. let d = o.2 a u in ih a (o.1 a u) (omega arith) (λ _. omega arith) (omega arith))

  pub present-frame : (i : ℕ) → Seen N p i → (N.part i ≢ p → N.draw.rank i < r) → N.draw.rank i ≤ r → present N s p i ≡ present N t p i
  unfolding present
  present-frame i S b c = eval-frame (suc (N.draw.rank i)) i S (le_refl (suc (N.draw.rank i))) b c

  pub needs-frame : (i : ℕ) → Seen N p i → (N.part i ≢ p → N.draw.rank i < r) → N.draw.rank i ≤ r → needs_met N s p i ≡ needs_met N t p i
  unfolding needs_met
  needs-frame i S b c = met-frame (suc (N.draw.rank i)) i S (le_refl (suc (N.draw.rank i))) b c

-- ---- one rule

-- a node has the same value and the same met needs in its own part, in two states
pub record Alike (N : Net) (s t : State) (i : ℕ) : Type 0 where
  pub value : present N s (N.part i) i ≡ present N t (N.part i) i
  pub needs : needs_met N s (N.part i) i ≡ needs_met N t (N.part i) i

pub alike-join : (N : Net) (s t u : State) (i : ℕ) → Alike N s t i → Alike N t u i → Alike N s u i
alike-join N s t u i A B = record { value = A.value ∙ B.value; needs = A.needs ∙ B.needs }

module _ (N : Net) (G : Good N) (s : State) where
  -- a put rule, at a node whose rank is not above its own, or where it puts for another part
  put-alike : (q i : ℕ) → i < N.draw.nodes → (N.into q ≡ N.part i → N.draw.rank i ≤ N.draw.rank (N.node q)) → N.from q < N.parts → Alike N s (done N s (put q)) i
  unfolding done
  put-alike q i l h inside =
      let S : Seen N (N.part i) i = record { is_node = l; where_is = inl refl } in
      let same : (k : ℕ) → N.into k ≡ N.part i → (N.from k < N.parts → N.draw.rank (N.node k) < N.draw.rank i) → s.queue k ≡ (done N s (put q)).queue k =
      λ k e b. sym (ap (λ t. cond t (s.queue q ++ (present N s (N.from q) (N.node q) ∷ [])) (s.queue k)) (ne_eqb k q (λ z.
      let o : N.draw.rank i ≤ N.draw.rank (N.node q) = h (ap N.into (sym z) ∙ e) in
      let y : N.draw.rank (N.node q) < N.draw.rank i = subst (λ x. N.draw.rank (N.node x) < N.draw.rank i) z (b (subst (λ x. N.from x < N.parts) (sym z) inside)) in
      omega arith))) in
      record {
        value = present-frame N G s (done N s (put q)) (N.part i) (N.draw.rank i) same (λ _ _ _. refl) i S (λ ne. absurd (ne refl)) (le_refl (N.draw.rank i));
        needs = needs-frame N G s (done N s (put q)) (N.part i) (N.draw.rank i) same (λ _ _ _. refl) i S (λ ne. absurd (ne refl)) (le_refl (N.draw.rank i));
      }

  -- tried, ready or not
  pub put-tried : (q i : ℕ) → i < N.draw.nodes → N.from q < N.parts → (N.into q ≡ N.part i → N.draw.rank i ≤ N.draw.rank (N.node q)) → Alike N s (step N s (put q)) i
  unfolding step
  put-tried q i l inside h = split-on (λ b. Alike N s (cond b (done N s (put q)) s) i) (ready N s (put q)) (λ _. put-alike q i l h inside) (λ _. record { value = refl; needs = refl })

-- ---- the put rules of a round

-- from rule r to rule r', where each put rule between them that puts for the node's part has a node of its rank or above
pub steady : (N : Net) → Good N → (s : State) (i r r' : ℕ) → i < N.draw.nodes
    → ((q : ℕ) → N.ins + r ≤ q → q < N.queues → N.into q ≡ N.part i → N.draw.rank i ≤ N.draw.rank (N.node q))
    → r ≤ r' → N.ins + r' ≤ N.queues → Alike N (after_rules N s r) (after_rules N s r') i
steady N G s i r zero l h le u = let e : r ≡ 0 = omega arith in subst (λ k. Alike N (after_rules N s k) (after_rules N s 0) i) (sym e) (record { value = refl; needs = refl })
steady N G s i r (suc r') l h le u =
    ⊎_elim
    (λ (e : r ≡ suc r'). subst (λ k. Alike N (after_rules N s k) (after_rules N s (suc r')) i) (sym e) (record { value = refl; needs = refl }))
    (λ (m : r < suc r').
    let o : N.ins + r' < N.queues = omega arith in
    let t : State = after_rules N s r' in
    let e : after_rules N s (suc r') ≡ step N t (put (N.ins + r')) = play-next N s r' (rule N) ∙ ap (step N t) (rule-low N r' o) in
    alike-join N (after_rules N s r) t (after_rules N s (suc r')) i (steady N G s i r r' l h (le_of_suc-le-suc m) (omega arith))
    (subst (λ x. Alike N t x i) (sym e) (put-tried N G t (N.ins + r') i l (G.after_put (N.ins + r') (omega arith) o) (h (N.ins + r') (omega (arith, le_of_suc-le-suc m)) o))))
    (eq-or-lt_of_le le)

-- ---- Finish of another part

-- all that part p looks at is the same in two states
pub record Apart (N : Net) (s t : State) (p : ℕ) : Type 0 where
  pub queue : (q : ℕ) → N.into q ≡ p → s.queue q ≡ t.queue q
  pub flag : (q : ℕ) → N.from q ≡ p → s.flag q ≡ t.flag q
  pub held : (i : ℕ) → i < N.draw.nodes → N.part i ≡ p → s.held i ≡ t.held i
  pub count : s.count p ≡ t.count p

pub apart-join : (N : Net) (s t u : State) (p : ℕ) → Apart N s t p → Apart N t u p → Apart N s u p
apart-join N s t u p A B =
    record {
      queue = λ q e. A.queue q e ∙ B.queue q e;
      flag = λ q e. A.flag q e ∙ B.flag q e;
      held = λ i l e. A.held i l e ∙ B.held i l e;
      count = A.count ∙ B.count;
    }

every-same : (f g : ℕ → Bool) (n : ℕ) → ((k : ℕ) → f k ≡ g k) → every f n ≡ every g n
every-same f g zero h = refl
every-same f g (suc n) h = ap₂ ◌&&◌ (h n) (every-same f g n h)

module _ (N : Net) (G : Good N) (s t : State) (p : ℕ) (A : Apart N s t p) where
  pub apart-present : (i : ℕ) → Seen N p i → present N s p i ≡ present N t p i
  apart-present i S =
      present-frame N G s t p (suc (N.draw.rank i)) (λ q e _. A.queue q e) A.held i S (λ _. le_refl (suc (N.draw.rank i))) (le-suc (N.draw.rank i))

  pub apart_ready : ready N s (finish p) ≡ ready N t (finish p)
  unfolding ready tests
  apart_ready =
      ap₂ (λ c b. ltb p N.parts && (ltb c N.limit && (b && true))) A.count
      (every-same (done_at N s p) (done_at N t p) N.queues
      (λ q. ap₂ ◌&&◌
      (split-on (λ b. eqb (N.from q) p ≡ b → implies b (s.flag q) ≡ implies b (t.flag q)) (eqb (N.from q) p) (λ _ e. A.flag q (eqb-true (N.from q) p e)) (λ _ _. refl) refl)
      (split-on (λ b. eqb (N.into q) p ≡ b → implies b (some_token (s.queue q)) ≡ implies b (some_token (t.queue q))) (eqb (N.into q) p) (λ _ e. ap some_token (A.queue q (eqb-true (N.into q) p e))) (λ _ _. refl) refl)))

module _ (N : Net) (s : State) (k p : ℕ) (ne : k ≢ p) where
  within-other : (i : ℕ) → N.part i ≡ p → within N k i ≡ false
  within-other i e = ap (λ b. ltb i N.draw.nodes && b) (ne_eqb (N.part i) k (λ z. ne (sym z ∙ e))) ∙ and-false (ltb i N.draw.nodes)

  finish-apart : Apart N s (done N s (finish k)) p
  unfolding done
  finish-apart =
      record {
        queue = λ q e. sym (ap (λ b. cond b (tail (s.queue q)) (s.queue q)) (ne_eqb (N.into q) k (λ z. ne (sym z ∙ e))));
        flag = λ q e. sym (ap (λ b. cond b false (s.flag q)) (ne_eqb (N.from q) k (λ z. ne (sym z ∙ e))));
        held = λ i l e. sym (ap (λ b. cond b (next_of N s k i (N.draw.kind i)) (s.held i)) (within-other i e));
        count = sym (ap (λ b. cond b (suc (s.count k)) (s.count p)) (ne_eqb p k (λ z. ne (sym z))));
      }

  pub finish-tried : Apart N s (step N s (finish k)) p
  unfolding step
  finish-tried =
      split-on (λ b. Apart N s (cond b (done N s (finish k)) s) p) (ready N s (finish k)) (λ _. finish-apart)
      (λ _. record { queue = λ _ _. refl; flag = λ _ _. refl; held = λ _ _ _. refl; count = refl })

-- from the first Finish to that of part p
pub apart_until : (N : Net) → Good N → (s : State) (p k : ℕ) → k ≤ p → Apart N (after_rules N s (N.queues - N.ins)) (after_rules N s (N.queues - N.ins + k)) p
apart_until N G s p zero h =
    let e : N.queues - N.ins + 0 ≡ N.queues - N.ins = add-zero (N.queues - N.ins) in
    subst (λ m. Apart N (after_rules N s (N.queues - N.ins)) (after_rules N s m) p) (sym e) (record { queue = λ _ _. refl; flag = λ _ _. refl; held = λ _ _ _. refl; count = refl })
apart_until N G s p (suc k) h =
    let first : State = after_rules N s (N.queues - N.ins) in
    let t : State = after_rules N s (N.queues - N.ins + k) in
    let e : after_rules N s (N.queues - N.ins + suc k) ≡ step N t (finish k) =
    ap (after_rules N s) (add-suc (N.queues - N.ins) k) ∙ play-next N s (N.queues - N.ins + k) (rule N) ∙ ap (step N t) (rule-finish N G k) in
    apart-join N first t (after_rules N s (N.queues - N.ins + suc k)) p (apart_until N G s p k (omega arith))
    (subst (λ x. Apart N t x p) (sym e) (finish-tried N t k p (λ z. let y : k ≡ p = z in omega arith)))
