-- Faithful: what a network puts and drains is what the drawing's run has. With c the finished cycles of a part, its registers hold the values of cycle c + 1,
-- and what its queues were given are the values of cycles 1 to c, and one more with the flag on. Streams are fixed only at the end, so each step asks that
-- they begin with what was fed so far.
use mathlib.Core.Path.{◌≡◌, refl, sym, ap, ◌∙◌, subst}
use mathlib.Core.Logic.{◌≢◌, inl, by_cases}
use mathlib.Core.Bool.{true, cond}
use mathlib.Core.List.{List, [], ◌∷◌, ◌++◌, append-nil, Memᴰ}
use Prim.Native.Nat.{ℕ, suc, ◌+◌, ◌≤◌, ◌<◌}
use native.Mathlib.Omega.{arith}
use native.Mathlib.Nat.{not-suc-le-zero, not-le_of_lt, le_refl, le-suc, add-zero}
use native.Mathlib.Decide.{dec_lt}
use lib.ListN.{length, get_or, length-append, get_or-append}
use lib.Seq.{get_or-append-add, get_or-append_seam}
use lib.Dec.{eqb}
use borrow.Author.Tests.{eqb-true, eqb-false, lt-ltb}
use Rattle.cycles.specs.Drawings.{register, operands, value, given, Runs}
use Rattle.nets.specs.Lists.{bit}
use Rattle.nets.specs.Net.{Net, Seen, Good}
use Rattle.nets.specs.State.{State, first_of, fresh, some_token, present, needs_met}
use Rattle.nets.specs.Actions.{Action, feed, drain, put, finish, ready, next_of, done, step, play}
use Rattle.nets.proofs.Facts.{split-on, pick, token-length}
use Rattle.nets.proofs.Sight.{sees, eval_is, met-from}
use Rattle.nets.proofs.Ready.{Feeds, Puts, Finishes, feeds, puts, finishes}
use Rattle.demand.specs.History.{Past, nothing, noted, note, story, state_after, past_after}
use Rattle.demand.specs.Demands.{Follows}
use Rattle.demand.proofs.Keep.{Lanes, lengths, keep-step, keep-fresh}

-- the streams begin with the fed tokens, inputs told by their ends
abbrev pub Starts : Net → (ℕ → ℕ → ℕ) → Past → Type 0
Starts N st h = (q : ℕ) → N.parts ≤ N.from q → N.into q < N.parts → Follows (h.came q) (st (N.node q))

-- registers and put tokens are the run's
pub record Says (N : Net) (v : ℕ → ℕ → ℕ) (s : State) (h : Past) : Type 0 where
  pub regs : (i k a : ℕ) → i < N.draw.nodes → N.draw.kind i ≡ register k a → s.held i ≡ v (suc (s.count (N.part i))) i
  pub tokens : (q : ℕ) → N.from q < N.parts → Follows (h.came q) (λ m. v m (N.node q))

abbrev pub Faith : Net → State → Past → Type 0
Faith N s h = (st v : ℕ → ℕ → ℕ) → Runs N.draw st v → Starts N st h → Says N v s h

follows_snoc : (xs : List ℕ) (x : ℕ) (w : ℕ → ℕ) → Follows xs w → x ≡ w (suc (length xs)) → Follows (xs ++ (x ∷ [])) w
follows_snoc xs x w f e j h =
    let l : j < length xs + 1 = rw length-append at h in
    split-on (λ _. get_or (xs ++ (x ∷ [])) j 0 ≡ w (suc j)) (eqb j (length xs))
    (λ t. let d : j ≡ length xs = eqb-true j (length xs) t in rw d (get_or-append_seam xs x [] 0 ∙ e))
    (λ t. let ne : j ≢ length xs = eqb-false j (length xs) t in
    let b : j < length xs = omega arith in get_or-append xs (x ∷ []) 0 j b ∙ f j b)

follows_front : (xs ys : List ℕ) (w : ℕ → ℕ) → Follows (xs ++ ys) w → Follows xs w
follows_front xs ys w f j h = sym (get_or-append xs ys 0 j h) ∙ f j (rw length-append (omega arith))

module _ (N : Net) (G : Good N) (s : State) where
  -- where Finish is ready, the needs of every node are met
  pub all-met : (p : ℕ) → Finishes N s p → (a : ℕ) → Seen N p a → needs_met N s p a ≡ true
  unfolding needs_met
  all-met p F a S =
      met-from N G p s (suc (N.draw.rank a)) (λ q e _. F.full q (G.take_queue q (rw e F.inside)) e) (suc (N.draw.rank a)) a S (le_refl (suc (N.draw.rank a)))
      (λ _. le_refl (suc (N.draw.rank a))) (le-suc (N.draw.rank a))

module _ (N : Net) (G : Good N) (s : State) (h : Past) where
  -- what came stays in front
  grows : (b : Action) (q : ℕ) → (ys : List ℕ) × ((noted N s b h).came q ≡ h.came q ++ ys)
  unfolding noted
  grows (feed q x) = pick (λ k b. (ys : List ℕ) × (cond b (h.came q ++ (x ∷ [])) (h.came k) ≡ h.came k ++ ys)) q (x ∷ [], refl) (λ k. ([], sym (append-nil (h.came k))))
  grows (drain q) = λ k. ([], sym (append-nil (h.came k)))
  grows (put q) =
      pick (λ k b. (ys : List ℕ) × (cond b (h.came q ++ (present N s (N.from q) (N.node q) ∷ [])) (h.came k) ≡ h.came k ++ ys)) q
      (present N s (N.from q) (N.node q) ∷ [], refl) (λ k. ([], sym (append-nil (h.came k))))
  grows (finish p) = λ k. ([], sym (append-nil (h.came k)))

  begins_before : (b : Action) (st : ℕ → ℕ → ℕ) → Starts N st (noted N s b h) → Starts N st h
  begins_before b st B q o i =
      let g = grows b q in follows_front (h.came q) g.0 (st (N.node q)) (subst (λ l. Follows l (st (N.node q))) g.1 (B q o i))

  module _ (L : Lanes N s h) (st v : ℕ → ℕ → ℕ) (R : Runs N.draw st v) (B : Starts N st h) (Y : Says N v s h) where
    -- every incoming queue's tokens
    incoming : (q : ℕ) → N.into q < N.parts → Follows (h.came q) (λ m. v m (N.node q))
    incoming q i =
        by_cases (dec_lt (N.from q) N.parts) (Y.tokens q)
        (λ o j l.
        let u : N.parts ≤ N.from q = omega arith in
        B q u i j l ∙ sym (R j (N.node q) (G.source_node q u i) ∙ ap (λ k. value k (given k (st (N.node q) (suc j)) v j) (v (suc j))) (G.source_kind q u i)))

    module _ (p : ℕ) (inside : p < N.parts) where
      heads : (q : ℕ) → N.into q ≡ p → some_token (s.queue q) ≡ true → get_or (s.queue q) 0 0 ≡ v (suc (s.count p)) (N.node q)
      heads q e t =
          let i : N.into q < N.parts = rw e inside in
          let c : length (h.went q) ≡ s.count p = (L q).took i ∙ ap s.count e in
          sym (get_or-append-add (h.went q) (s.queue q) 0 0)
          ∙ ap (λ x. get_or x (length (h.went q) + 0) 0) (sym (L q).split)
          ∙ ap (λ x. get_or (h.came q) x 0) (add-zero (length (h.went q)) ∙ c)
          ∙ incoming q i (s.count p) (omega (arith, lengths N s h L q, token-length (s.queue q) t))

      -- a node whose needs are met has the run's value
      present_is : (i : ℕ) → Seen N p i → needs_met N s p i ≡ true → present N s p i ≡ v (suc (s.count p)) i
      unfolding present needs_met
      present_is i S m =
          eval_is N G p s (v (suc (s.count p))) heads
          (λ j k a l e o. Y.regs j k a l o ∙ ap (λ x. v (suc (s.count x)) j) e)
          (λ j f xs l e. R (s.count p) j l ∙ ap (λ k. value k (given k (st j (suc (s.count p))) v (s.count p)) (v (suc (s.count p)))) e)
          (suc (N.draw.rank i)) i S (le_refl (suc (N.draw.rank i))) m

    says-put : (q : ℕ) → Puts N s q → Says N v (done N s (put q)) (noted N s (put q) h)
    unfolding done noted
    says-put q P =
        let p : ℕ = N.from q in
        let x : ℕ = present N s p (N.node q) in
        record {
          regs = Y.regs;
          tokens =
              pick (λ k b. N.from k < N.parts → Follows (cond b (h.came q ++ (x ∷ [])) (h.came k)) (λ m. v m (N.node k))) q
              (λ l. follows_snoc (h.came q) x (λ m. v m (N.node q)) (Y.tokens q l)
              (present_is p l (N.node q) (record { is_node = G.put_node q l; where_is = inl (G.put_part q l) }) P.needs
              ∙ ap (λ n. v (suc n) (N.node q)) (let e = (L q).sent l in let z : bit (s.flag q) ≡ 0 = ap bit P.off in omega arith)))
              Y.tokens;
        }

    says-finish : (p : ℕ) → Finishes N s p → Says N v (done N s (finish p)) (noted N s (finish p) h)
    unfolding done noted
    says-finish p F =
        record {
          regs = λ i k a l e.
              rw (lt-ltb i N.draw.nodes l)
              (split-on (λ b. cond b (next_of N s p i (N.draw.kind i)) (s.held i) ≡ v (suc (cond b (suc (s.count p)) (s.count (N.part i)))) i) (eqb (N.part i) p)
              (λ t. let d : N.part i ≡ p = eqb-true (N.part i) p t in
              let S : Seen N p a = subst (λ x. Seen N x a) d (sees N G i a l (subst (λ k. Memᴰ a (operands k)) (sym e) (Memᴰ.head refl))) in
              ap (next_of N s p i) e
              ∙ present_is p F.inside a S (all-met N G s p F a S)
              ∙ sym (R (suc (s.count p)) i l ∙ ap (λ k. value k (given k (st i (suc (suc (s.count p)))) v (suc (s.count p))) (v (suc (suc (s.count p))))) e))
              (λ t. Y.regs i k a l e));
          tokens = Y.tokens;
        }

    says-feed : (q x : ℕ) → Feeds N s q x → Says N v (done N s (feed q x)) (noted N s (feed q x) h)
    unfolding done noted
    says-feed q x F =
        record {
          regs = Y.regs;
          tokens =
              pick (λ k b. N.from k < N.parts → Follows (cond b (h.came q ++ (x ∷ [])) (h.came k)) (λ m. v m (N.node k))) q
              (λ l. absurd (not-le_of_lt l F.outside)) Y.tokens;
        }

    says-drain : (q : ℕ) → Says N v (done N s (drain q)) (noted N s (drain q) h)
    unfolding done noted
    says-drain q = record { regs = Y.regs; tokens = Y.tokens }

    says-done : (a : Action) → ready N s a ≡ true → Says N v (done N s a) (noted N s a h)
    says-done (feed q x) e = says-feed q x (feeds N s q x e)
    says-done (drain q) e = says-drain q
    says-done (put q) e = says-put q (puts N s q e)
    says-done (finish p) e = says-finish p (finishes N s p e)

  faith_step : Lanes N s h → Faith N s h → (a : Action) → Faith N (step N s a) (note N s a h)
  unfolding step note
  faith_step L F a =
      split-on (λ b. Faith N (cond b (done N s a) s) (cond b (noted N s a h) h)) (ready N s a)
      (λ e st v R B. let B' = begins_before a st B in says-done L st v R B' (F st v R B') a e)
      (λ _. F)

faith_fresh : (N : Net) → Faith N (fresh N) nothing
unfolding fresh nothing
faith_fresh N st v R B = record {
  regs = λ i k a l e. rw (lt-ltb i N.draw.nodes l) (ap first_of e ∙ sym (R 0 i l ∙ ap (λ k. value k (given k (st i 1) v 0) (v 1)) e));
  tokens = λ q l j u. absurd (not-suc-le-zero u);
}

-- ---- along a play

faith_play : (N : Net) → Good N → (s : State) (h : Past) → Lanes N s h → Faith N s h → (xs : List Action) → Lanes N (play N s xs) (story N s xs h) × Faith N (play N s xs) (story N s xs h)
unfolding play story
faith_play N G s h L F [] = (L, F)
faith_play N G s h L F (a ∷ xs) = faith_play N G (step N s a) (note N s a h) (keep-step N G s h L a) (faith_step N G s h L F a) xs

-- the theorem, with queues told by their ends
pub record ByEnds (N : Net) (v : ℕ → ℕ → ℕ) (s : State) (h : Past) : Type 0 where
  pub puts : (q : ℕ) → N.from q < N.parts → Follows (h.came q) (λ m. v m (N.node q))
  pub many : (q : ℕ) → N.from q < N.parts → length (h.came q) ≡ s.count (N.from q) + bit (s.flag q)
  pub takes : (q : ℕ) → N.from q < N.parts → Follows (h.went q) (λ m. v m (N.node q))
  pub taken : (q : ℕ) → N.into q < N.parts → length (h.went q) ≡ s.count (N.into q)
  pub holds : (q : ℕ) → h.came q ≡ h.went q ++ s.queue q
  pub fits : (q : ℕ) → length (s.queue q) ≤ N.depth q
  pub regs : (i k a : ℕ) → i < N.draw.nodes → N.draw.kind i ≡ register k a → s.held i ≡ v (suc (s.count (N.part i))) i

pub faithful : (N : Net) → Good N → (xs : List Action) (st v : ℕ → ℕ → ℕ) → Runs N.draw st v
    → Starts N st (past_after N xs) → ByEnds N v (state_after N xs) (past_after N xs)
faithful N G xs st v R B =
    let K = faith_play N G (fresh N) nothing (keep-fresh N) (faith_fresh N) xs in
    let L = K.0 in
    let Y = K.1 st v R B in
    record {
      puts = Y.tokens;
      many = λ q. (L q).sent;
      takes = λ q l. follows_front ((past_after N xs).went q) ((state_after N xs).queue q) (λ m. v m (N.node q))
          (subst (λ x. Follows x (λ m. v m (N.node q))) (L q).split (Y.tokens q l));
      taken = λ q. (L q).took;
      holds = λ q. (L q).split;
      fits = λ q. (L q).fits;
      regs = Y.regs;
    }
