-- A part's values and met needs are the one solution of their equations: whatever solves them, up to a rank, is `present` and `needsMet` up to there.
-- By induction on the rank, since a view's operands have smaller ones.
use mathlib.Core.Path.{◌≡◌, refl, sym, ap, ◌∙◌, subst}
use mathlib.Core.Logic.{inl}
use mathlib.Core.Bool.{Bool, false, cond}
use Prim.Native.Nat.{ℕ, zero, suc, ◌<◌}
use native.Mathlib.Omega.{arith}
use native.Mathlib.Nat.{not-suc-le-zero, le_refl}
use lib.Dec.{eqb}
use lib.ListN.{get_or}
use borrow.Author.Tests.{eqb-true, eq-eqb}
use Rattle.nets.specs.Net.{Net, Good, Seen}
use Rattle.nets.specs.State.{State, View, token, kept, calc, own, view, some_token, value_in, met_in, eval, met, present, needs_met, read_in, own_value, there_in, own_met}
use Rattle.nets.proofs.Facts.{split-on, map_same, all_same}
use Rattle.nets.proofs.Sight.{Sound, view_sound}

module _ (N : Net) (G : Good N) (s : State) (p : ℕ) where
  -- views agree where operands do
  same-value : (i : ℕ) (w w' : ℕ → ℕ) (x : View) → Sound N p i x → ((a : ℕ) → Seen N p a → N.draw.rank a < N.draw.rank i → w a ≡ w' a)
      → value_in s i w x ≡ value_in s i w' x
  same-value i w w' (token q) o h = refl
  same-value i w w' kept o h = refl
  same-value i w w' (calc f xs) o h = ap f (map_same w w' xs (λ a m. h a (o.1 a m) (o.2 a m)))

  same_met : (i : ℕ) (t t' : ℕ → Bool) (x : View) → Sound N p i x → ((a : ℕ) → Seen N p a → N.draw.rank a < N.draw.rank i → t a ≡ t' a)
      → met_in s t x ≡ met_in s t' x
  same_met i t t' (token q) o h = refl
  same_met i t t' kept o h = refl
  same_met i t t' (calc f xs) o h = all_same t t' xs (λ a m. h a (o.1 a m) (o.2 a m))

  -- w, and t, solve the equations at the nodes of rank below r
  abbrev pub Values : ℕ → (ℕ → ℕ) → Type 0
  Values r w = (i : ℕ) → Seen N p i → N.draw.rank i < r → w i ≡ value_in s i w (view N p i)

  abbrev pub Needs : ℕ → (ℕ → Bool) → Type 0
  Needs r t = (i : ℕ) → Seen N p i → N.draw.rank i < r → t i ≡ met_in s t (view N p i)

  only-eval : (r : ℕ) (w : ℕ → ℕ) → Values r w → (f i : ℕ) → Seen N p i → N.draw.rank i < r → N.draw.rank i < f → w i ≡ eval N s p f i
  unfolding eval
  only-eval r w e zero i S l h = absurd (not-suc-le-zero h)
  only-eval r w e (suc f) i S l h =
      e i S l ∙ same-value i w (eval N s p f) (view N p i) (view_sound N G p i S) (λ a T b. only-eval r w e f a T (omega arith) (omega arith))

  only-met : (r : ℕ) (t : ℕ → Bool) → Needs r t → (f i : ℕ) → Seen N p i → N.draw.rank i < r → N.draw.rank i < f → t i ≡ met N s p f i
  unfolding met
  only-met r t e zero i S l h = absurd (not-suc-le-zero h)
  only-met r t e (suc f) i S l h =
      e i S l ∙ same_met i t (met N s p f) (view N p i) (view_sound N G p i S) (λ a T b. only-met r t e f a T (omega arith) (omega arith))

  pub below-present : (r : ℕ) (w : ℕ → ℕ) → Values r w → (i : ℕ) → Seen N p i → N.draw.rank i < r → w i ≡ present N s p i
  unfolding present
  below-present r w e i S l = only-eval r w e (suc (N.draw.rank i)) i S l (le_refl (suc (N.draw.rank i)))

  pub below-needs : (r : ℕ) (t : ℕ → Bool) → Needs r t → (i : ℕ) → Seen N p i → N.draw.rank i < r → t i ≡ needs_met N s p i
  unfolding needs_met
  below-needs r t e i S l = only-met r t e (suc (N.draw.rank i)) i S l (le_refl (suc (N.draw.rank i)))

  -- at every rank
  pub only-present : (w : ℕ → ℕ) → ((i : ℕ) → Seen N p i → w i ≡ value_in s i w (view N p i)) → (i : ℕ) → Seen N p i → w i ≡ present N s p i
  only-present w e i S = below-present (suc (N.draw.rank i)) w (λ j T _. e j T) i S (le_refl (suc (N.draw.rank i)))

  pub only-needs : (t : ℕ → Bool) → ((i : ℕ) → Seen N p i → t i ≡ met_in s t (view N p i)) → (i : ℕ) → Seen N p i → t i ≡ needs_met N s p i
  only-needs t e i S = below-needs (suc (N.draw.rank i)) t (λ j T _. e j T) i S (le_refl (suc (N.draw.rank i)))

  -- ---- and `present` and `needsMet` solve them: more steps than the rank change nothing

  eval-same : (f g i : ℕ) → Seen N p i → N.draw.rank i < f → N.draw.rank i < g → eval N s p f i ≡ eval N s p g i
  unfolding eval
  eval-same zero g i S h k = absurd (not-suc-le-zero h)
  eval-same (suc f) zero i S h k = absurd (not-suc-le-zero k)
  eval-same (suc f) (suc g) i S h k =
      same-value i (eval N s p f) (eval N s p g) (view N p i) (view_sound N G p i S) (λ a T r. eval-same f g a T (omega arith) (omega arith))

  met-same : (f g i : ℕ) → Seen N p i → N.draw.rank i < f → N.draw.rank i < g → met N s p f i ≡ met N s p g i
  unfolding met
  met-same zero g i S h k = absurd (not-suc-le-zero h)
  met-same (suc f) zero i S h k = absurd (not-suc-le-zero k)
  met-same (suc f) (suc g) i S h k =
      same_met i (met N s p f) (met N s p g) (view N p i) (view_sound N G p i S) (λ a T r. met-same f g a T (omega arith) (omega arith))

  pub present-solves : (i : ℕ) → Seen N p i → present N s p i ≡ value_in s i (present N s p) (view N p i)
  unfolding present eval
  present-solves i S =
      same-value i (eval N s p (N.draw.rank i)) (present N s p) (view N p i) (view_sound N G p i S)
      (λ a T r. eval-same (N.draw.rank i) (suc (N.draw.rank a)) a T r (le_refl (suc (N.draw.rank a))))

  pub needs-solve : (i : ℕ) → Seen N p i → needs_met N s p i ≡ met_in s (needs_met N s p) (view N p i)
  unfolding needs_met met
  needs-solve i S =
      same_met i (met N s p (N.draw.rank i)) (needs_met N s p) (view N p i) (view_sound N G p i S)
      (λ a T r. met-same (N.draw.rank i) (suc (N.draw.rank a)) a T r (le_refl (suc (N.draw.rank a))))

-- ---- each node in its own part, one pass for all parts

module _ (N : Net) (G : Good N) (s : State) where
  here : (i : ℕ) → i < N.draw.nodes → Seen N (N.part i) i
  here i l = record { is_node = l; where_is = inl refl }

  -- what is read of the other parts' nodes are their tokens, so it solves a part's equations
  part-values : (r p : ℕ) (w : ℕ → ℕ) → ((i : ℕ) → i < N.draw.nodes → N.draw.rank i < r → w i ≡ own_value N s w i) → Values N G s p r (read_in N s w p)
  unfolding view
  part-values r p w e i S l =
      split-on (λ b. cond b (w i) (get_or (s.queue (N.via p i)) 0 0) ≡ value_in s i (read_in N s w p) (cond b (own (N.via p i) (N.draw.kind i)) (token (N.via p i)))) (eqb (N.part i) p)
      (λ t. subst (λ x. w i ≡ value_in s i (read_in N s w x) (own (N.via x i) (N.draw.kind i))) (eqb-true (N.part i) p t) (e i S.is_node l))
      (λ t. refl)

  part-needs : (r p : ℕ) (t : ℕ → Bool) → ((i : ℕ) → i < N.draw.nodes → N.draw.rank i < r → t i ≡ own_met N s t i) → Needs N G s p r (there_in N s t p)
  unfolding view
  part-needs r p t e i S l =
      split-on (λ b. cond b (t i) (some_token (s.queue (N.via p i))) ≡ met_in s (there_in N s t p) (cond b (own (N.via p i) (N.draw.kind i)) (token (N.via p i)))) (eqb (N.part i) p)
      (λ d. subst (λ x. t i ≡ met_in s (there_in N s t x) (own (N.via x i) (N.draw.kind i))) (eqb-true (N.part i) p d) (e i S.is_node l))
      (λ d. refl)

  -- as part p reads node i, or has it
  pub read-present : (r p : ℕ) (w : ℕ → ℕ) → ((i : ℕ) → i < N.draw.nodes → N.draw.rank i < r → w i ≡ own_value N s w i) → (i : ℕ) → Seen N p i → N.draw.rank i < r → read_in N s w p i ≡ present N s p i
  read-present r p w e i S l = below-present N G s p r (read_in N s w p) (part-values r p w e) i S l

  pub there-needs : (r p : ℕ) (t : ℕ → Bool) → ((i : ℕ) → i < N.draw.nodes → N.draw.rank i < r → t i ≡ own_met N s t i) → (i : ℕ) → Seen N p i → N.draw.rank i < r → there_in N s t p i ≡ needs_met N s p i
  there-needs r p t e i S l = below-needs N G s p r (there_in N s t p) (part-needs r p t e) i S l

  pub own-present : (r : ℕ) (w : ℕ → ℕ) → ((i : ℕ) → i < N.draw.nodes → N.draw.rank i < r → w i ≡ own_value N s w i) → (i : ℕ) → i < N.draw.nodes → N.draw.rank i < r → w i ≡ present N s (N.part i) i
  own-present r w e i n l =
      ap (λ b. cond b (w i) (get_or (s.queue (N.via (N.part i) i)) 0 0)) (sym (eq-eqb (N.part i) (N.part i) refl)) ∙ read-present r (N.part i) w e i (here i n) l

  pub own-needs : (r : ℕ) (t : ℕ → Bool) → ((i : ℕ) → i < N.draw.nodes → N.draw.rank i < r → t i ≡ own_met N s t i) → (i : ℕ) → i < N.draw.nodes → N.draw.rank i < r → t i ≡ needs_met N s (N.part i) i
  own-needs r t e i n l =
      ap (λ b. cond b (t i) (some_token (s.queue (N.via (N.part i) i)))) (sym (eq-eqb (N.part i) (N.part i) refl)) ∙ there-needs r (N.part i) t e i (here i n) l

  -- ---- one node more: where the nodes of smaller rank are right, so is what its equation says of it

  view-own : (i : ℕ) → view N (N.part i) i ≡ own (N.via (N.part i) i) (N.draw.kind i)
  unfolding view
  view-own i = rw (eq-eqb (N.part i) (N.part i) refl)

  view-other : (p a : ℕ) → eqb (N.part a) p ≡ false → view N p a ≡ token (N.via p a)
  unfolding view
  view-other p a e = rw e

  -- what part p sees of node a: its own value where it is there, else its channel's token
  pub read-seen : (w : ℕ → ℕ) (p a : ℕ) → Seen N p a → (N.part a ≡ p → w a ≡ present N s p a) → read_in N s w p a ≡ present N s p a
  read-seen w p a S h =
      split-on (λ b. eqb (N.part a) p ≡ b → cond b (w a) (get_or (s.queue (N.via p a)) 0 0) ≡ present N s p a) (eqb (N.part a) p)
      (λ _ e. h (eqb-true (N.part a) p e))
      (λ _ e. sym (present-solves N G s p a S ∙ ap (value_in s a (present N s p)) (view-other p a e))) refl

  there-seen : (t : ℕ → Bool) (p a : ℕ) → Seen N p a → (N.part a ≡ p → t a ≡ needs_met N s p a) → there_in N s t p a ≡ needs_met N s p a
  there-seen t p a S h =
      split-on (λ b. eqb (N.part a) p ≡ b → cond b (t a) (some_token (s.queue (N.via p a))) ≡ needs_met N s p a) (eqb (N.part a) p)
      (λ _ e. h (eqb-true (N.part a) p e))
      (λ _ e. sym (needs-solve N G s p a S ∙ ap (met_in s (needs_met N s p)) (view-other p a e))) refl

  pub next-present : (w : ℕ → ℕ) (i : ℕ) → i < N.draw.nodes → ((a : ℕ) → a < N.draw.nodes → N.draw.rank a < N.draw.rank i → w a ≡ present N s (N.part a) a)
      → own_value N s w i ≡ present N s (N.part i) i
  next-present w i l h =
      let p : ℕ = N.part i in
      ap (value_in s i (read_in N s w p)) (sym (view-own i))
      ∙ same-value N G s p i (read_in N s w p) (present N s p) (view N p i) (view_sound N G p i (here i l))
      (λ a T r. read-seen w p a T (λ e. h a T.is_node r ∙ ap (λ x. present N s x a) e))
      ∙ sym (present-solves N G s p i (here i l))

  pub next-needs : (t : ℕ → Bool) (i : ℕ) → i < N.draw.nodes → ((a : ℕ) → a < N.draw.nodes → N.draw.rank a < N.draw.rank i → t a ≡ needs_met N s (N.part a) a)
      → own_met N s t i ≡ needs_met N s (N.part i) i
  next-needs t i l h =
      let p : ℕ = N.part i in
      ap (met_in s (there_in N s t p)) (sym (view-own i))
      ∙ same_met N G s p i (there_in N s t p) (needs_met N s p) (view N p i) (view_sound N G p i (here i l))
      (λ a T r. there-seen t p a T (λ e. h a T.is_node r ∙ ap (λ x. needs_met N s x a) e))
      ∙ sym (needs-solve N G s p i (here i l))
