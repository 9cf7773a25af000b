-- The invariant on queues: what came is what went and what is held; how much came and went, by finished cycles and flags. It speaks of one queue at a
-- time and of no values, so an action that touches one queue leaves the others as they were.
use mathlib.Core.Path.{◌≡◌, refl, sym, ap, ◌∙◌}
use mathlib.Core.Bool.{Bool, true, false, cond}
use mathlib.Core.List.{List, [], ◌∷◌, ◌++◌, tail, append_assoc}
use Prim.Native.Nat.{ℕ, suc, ◌+◌, ◌≤◌, ◌<◌, zero-le}
use native.Mathlib.Omega.{arith}
use native.Mathlib.Nat.{not-le_of_lt}
use lib.ListN.{length, get_or, length-append}
use lib.Dec.{eqb}
use borrow.Author.Tests.{eqb-true}
use Rattle.nets.specs.Lists.{bit}
use Rattle.nets.specs.Net.{Net, Good}
use Rattle.nets.specs.State.{State, fresh, some_token, present}
use Rattle.nets.specs.Actions.{Action, feed, drain, put, finish, ready, done, step, play}
use Rattle.nets.proofs.Facts.{split-on, pick, token-split}
use Rattle.nets.proofs.Ready.{Feeds, Drains, Puts, Finishes, feeds, drains, puts, finishes}
use Rattle.demand.specs.History.{Past, nothing, noted, note, story}

-- of one queue
pub record Lane (N : Net) (count : ℕ → ℕ) (q : ℕ) (holds : List ℕ) (on : Bool) (came went : List ℕ) : Type 0 where
  pub split : came ≡ went ++ holds
  pub sent : N.from q < N.parts → length came ≡ count (N.from q) + bit on
  pub took : N.into q < N.parts → length went ≡ count (N.into q)
  pub fits : length holds ≤ N.depth q

abbrev pub Lanes : Net → State → Past → Type 0
Lanes N s h = (q : ℕ) → Lane N s.count q (s.queue q) (s.flag q) (h.came q) (h.went q)

pub lengths : (N : Net) (s : State) (h : Past) → Lanes N s h → (q : ℕ) → length (h.came q) ≡ length (h.went q) + length (s.queue q)
lengths N s h L q = ap length (L q).split ∙ length-append (h.went q) (s.queue q)

length-tail : (xs : List ℕ) → length (tail xs) ≤ length xs
length-tail [] = zero-le
length-tail (x ∷ xs) = omega arith

-- a token goes over from the queue's head to the end of what went
moved : (came went holds : List ℕ) → came ≡ went ++ holds → some_token holds ≡ true → came ≡ (went ++ (get_or holds 0 0 ∷ [])) ++ tail holds
moved came went holds e t = e ∙ ap (λ x. went ++ x) (token-split holds t) ∙ sym (append_assoc went (get_or holds 0 0 ∷ []) (tail holds))

module _ (N : Net) (G : Good N) (s : State) (h : Past) (L : Lanes N s h) where
  keep-feed : (q x : ℕ) → Feeds N s q x → Lanes N (done N s (feed q x)) (noted N s (feed q x) h)
  unfolding done noted
  keep-feed q x F =
      pick (λ j b. Lane N s.count j (cond b (s.queue q ++ (x ∷ [])) (s.queue j)) (s.flag j) (cond b (h.came q ++ (x ∷ [])) (h.came j)) (h.went j)) q
      record {
        split = rw (L q).split (append_assoc (h.went q) (s.queue q) (x ∷ []));
        sent = λ l. absurd (not-le_of_lt l F.outside);
        took = (L q).took;
        fits = rw length-append (omega (arith, F.space));
      }
      L

  keep-drain : (q : ℕ) → Drains N s q → Lanes N (done N s (drain q)) (noted N s (drain q) h)
  unfolding done noted
  keep-drain q D =
      pick (λ j b. Lane N s.count j (cond b (tail (s.queue q)) (s.queue j)) (s.flag j) (h.came j) (cond b (h.went q ++ (get_or (s.queue q) 0 0 ∷ [])) (h.went j))) q
      record {
        split = moved (h.came q) (h.went q) (s.queue q) (L q).split D.full;
        sent = (L q).sent;
        took = λ l. absurd (not-le_of_lt l D.outside);
        fits = omega (arith, length-tail (s.queue q), (L q).fits);
      }
      L

  keep-put : (q : ℕ) → Puts N s q → Lanes N (done N s (put q)) (noted N s (put q) h)
  unfolding done noted
  keep-put q P =
      let x : ℕ = present N s (N.from q) (N.node q) in
      pick (λ j b. Lane N s.count j (cond b (s.queue q ++ (x ∷ [])) (s.queue j)) (cond b true (s.flag j)) (cond b (h.came q ++ (x ∷ [])) (h.came j)) (h.went j)) q
      record {
        split = rw (L q).split (append_assoc (h.went q) (s.queue q) (x ∷ []));
        sent = λ l. rw length-append (omega (arith, (L q).sent l, ap bit P.off));
        took = (L q).took;
        fits = rw length-append (omega (arith, P.space));
      }
      L

  keep-finish : (p : ℕ) → Finishes N s p → Lanes N (done N s (finish p)) (noted N s (finish p) h)
  unfolding done noted
  keep-finish p F q =
      let x : ℕ = get_or (s.queue q) 0 0 in
      let full : N.into q ≡ p → some_token (s.queue q) ≡ true = λ e. F.full q (G.take_queue q (rw e F.inside)) e in
      record {
        split =
            split-on (λ b. h.came q ≡ cond b (h.went q ++ (x ∷ [])) (h.went q) ++ cond b (tail (s.queue q)) (s.queue q)) (eqb (N.into q) p)
            (λ e. moved (h.came q) (h.went q) (s.queue q) (L q).split (full (eqb-true (N.into q) p e)))
            (λ e. (L q).split);
        sent = λ l.
            split-on (λ b. length (h.came q) ≡ cond b (suc (s.count p)) (s.count (N.from q)) + bit (cond b false (s.flag q))) (eqb (N.from q) p)
            (λ e. let d : N.from q ≡ p = eqb-true (N.from q) p e in
            let on : bit (s.flag q) ≡ 1 = ap bit (F.on q (G.put_queue q l) d) in
            omega (arith, (L q).sent l, ap s.count d))
            (λ e. (L q).sent l);
        took = λ l.
            split-on (λ b. length (cond b (h.went q ++ (x ∷ [])) (h.went q)) ≡ cond b (suc (s.count p)) (s.count (N.into q))) (eqb (N.into q) p)
            (λ e. rw length-append (omega (arith, (L q).took l, ap s.count (eqb-true (N.into q) p e))))
            (λ e. (L q).took l);
        fits =
            split-on (λ b. length (cond b (tail (s.queue q)) (s.queue q)) ≤ N.depth q) (eqb (N.into q) p)
            (λ e. omega (arith, length-tail (s.queue q), (L q).fits))
            (λ e. (L q).fits);
      }

  keep-done : (a : Action) → ready N s a ≡ true → Lanes N (done N s a) (noted N s a h)
  keep-done (feed q x) e = keep-feed q x (feeds N s q x e)
  keep-done (drain q) e = keep-drain q (drains N s q e)
  keep-done (put q) e = keep-put q (puts N s q e)
  keep-done (finish p) e = keep-finish p (finishes N s p e)

  pub keep-step : (a : Action) → Lanes N (step N s a) (note N s a h)
  unfolding step note
  keep-step a = split-on (λ b. Lanes N (cond b (done N s a) s) (cond b (noted N s a h) h)) (ready N s a) (keep-done a) (λ _. L)

pub keep-fresh : (N : Net) → Lanes N (fresh N) nothing
unfolding fresh nothing
keep-fresh N q = record { split = refl; sent = λ _. refl; took = λ _. refl; fits = zero-le }

-- along a play
pub keep-play : (N : Net) → Good N → (s : State) (h : Past) → Lanes N s h → (xs : List Action) → Lanes N (play N s xs) (story N s xs h)
unfolding play story
keep-play N G s h L [] = L
keep-play N G s h L (a ∷ xs) = keep-play N G (step N s a) (note N s a h) (keep-step N G s h L a) xs
