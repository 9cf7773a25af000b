-- Rules by number, rounds and runs, step by step: a round is one more rule after the ones before it, and a run is a play of its rounds.
-- By induction on the lists of actions.
use mathlib.Core.Path.{◌≡◌, refl, sym, ap, ◌∙◌}
use mathlib.Core.Logic.{◌≢◌, ◌⊎◌, inl, inr, by_cases}
use mathlib.Core.Bool.{cond}
use mathlib.Core.List.{List, [], ◌∷◌, ◌++◌, append-nil}
use Prim.Native.Nat.{ℕ, zero, suc, ◌+◌, ◌-◌, ◌<◌}
use native.Mathlib.Omega.{arith}
use native.Mathlib.Decide.{dec_lt}
use lib.Dec.{eqb}
use borrow.Author.Tests.{lt-ltb, le-ltb, eq-eqb, ne_eqb, eqb-true}
use Rattle.nets.specs.Lists.{tab, bit}
use Rattle.nets.specs.Net.{Net, Good}
use Rattle.nets.specs.State.{State}
use Rattle.nets.specs.Actions.{Action, put, finish, ready, done, step, play}
use Rattle.nets.specs.Rounds.{rule_count, rule, in_order, fired_by, round_fires, after_round, Ran, one_more, run}
use Rattle.nets.proofs.Facts.{split-on}

-- ---- one action after the other

pub tab_snoc : {A : Type 0} (n : ℕ) (f : ℕ → A) → tab (suc n) f ≡ tab n f ++ (f n ∷ [])
unfolding tab
tab_snoc zero f = refl
tab_snoc (suc n) f = ap (λ l. f 0 ∷ l) (tab_snoc n (λ j. f (suc j)))

module _ (N : Net) where
  pub play_append : (s : State) (xs ys : List Action) → play N s (xs ++ ys) ≡ play N (play N s xs) ys
  unfolding play
  play_append s [] ys = refl
  play_append s (a ∷ xs) ys = play_append (step N s a) xs ys

  pub fired_append : (s : State) (xs ys : List Action) → fired_by N s (xs ++ ys) ≡ fired_by N s xs + fired_by N (play N s xs) ys
  unfolding play fired_by
  fired_append s [] ys = omega arith
  fired_append s (a ∷ xs) ys = let e = fired_append (step N s a) xs ys in omega arith

  pub play-one : (s : State) (a : Action) → play N s (a ∷ []) ≡ step N s a
  unfolding play
  play-one s a = refl

  pub fired-one : (s : State) (a : Action) → fired_by N s (a ∷ []) ≡ bit (ready N s a)
  unfolding fired_by
  fired-one s a = omega arith

  -- the first r + 1 of numbered actions
  pub play-next : (s : State) (r : ℕ) (f : ℕ → Action) → play N s (tab (suc r) f) ≡ step N (play N s (tab r f)) (f r)
  play-next s r f = ap (play N s) (tab_snoc r f) ∙ play_append s (tab r f) (f r ∷ []) ∙ play-one (play N s (tab r f)) (f r)

  pub fired-next : (s : State) (r : ℕ) (f : ℕ → Action) → fired_by N s (tab (suc r) f) ≡ fired_by N s (tab r f) + bit (ready N (play N s (tab r f)) (f r))
  fired-next s r f =
      ap (fired_by N s) (tab_snoc r f) ∙ fired_append s (tab r f) (f r ∷ []) ∙ ap (λ k. fired_by N s (tab r f) + k) (fired-one (play N s (tab r f)) (f r))

  -- where none fires nothing changes
  pub none-fired : (s : State) (xs : List Action) → fired_by N s xs ≡ 0 → play N s xs ≡ s
  unfolding play fired_by step
  none-fired s [] e = refl
  none-fired s (a ∷ xs) e =
      split-on (λ b. bit b + fired_by N (cond b (done N s a) s) xs ≡ 0 → play N (cond b (done N s a) s) xs ≡ s) (ready N s a)
      (λ _ z. let y : ⊥ = omega arith in absurd y) (λ _ z. none-fired s xs (omega arith)) e

-- ---- rules by number

pub rule-low : (N : Net) (r : ℕ) → N.ins + r < N.queues → rule N r ≡ put (N.ins + r)
unfolding rule
rule-low N r h = rw (lt-ltb (N.ins + r) N.queues h)

module _ (N : Net) (G : Good N) where
  pub rule-put : (q : ℕ) → N.from q < N.parts → rule N (q - N.ins) ≡ put q
  unfolding rule
  rule-put q l =
      let e : N.ins + (q - N.ins) ≡ q = omega (arith, G.put_after q l) in
      rw (e, lt-ltb q N.queues (G.put_queue q l))

  pub rule-finish : (p : ℕ) → rule N (N.queues - N.ins + p) ≡ finish p
  unfolding rule
  rule-finish p =
      let e : N.ins + (N.queues - N.ins + p) ≡ N.queues + p = omega (arith, G.ends_fit) in
      let d : N.queues + p - N.queues ≡ p = omega arith in
      rw (e, le-ltb (N.queues + p) N.queues (omega arith)) (ap finish d)

  -- the number of a put rule, and of a Finish, is below the count
  pub put-number : (q : ℕ) → N.from q < N.parts → q - N.ins < rule_count N
  unfolding rule_count
  put-number q l = omega (arith, G.put_queue q l, G.put_after q l)

  pub finish-number : (p : ℕ) → p < N.parts → N.queues - N.ins + p < rule_count N
  unfolding rule_count
  finish-number p l = omega arith

  -- and each number below the count is one of them
  pub rule_is : (r : ℕ) → r < rule_count N → ((rule N r ≡ put (N.ins + r)) × (N.from (N.ins + r) < N.parts)) ⊎ ((rule N r ≡ finish (N.ins + r - N.queues)) × (N.ins + r - N.queues < N.parts))
  unfolding rule rule_count
  rule_is r l =
      by_cases (dec_lt (N.ins + r) N.queues)
      (λ u. inl (rw (lt-ltb (N.ins + r) N.queues u), G.after_put (N.ins + r) (omega arith) u))
      (λ u. inr (rw (le-ltb (N.ins + r) N.queues (omega arith)), omega (arith, G.ends_fit)))

-- ---- runs

-- the rounds of a run, as actions
unfoldable pub rounds : Net → ℕ → List Action
rounds N zero = []
rounds N (suc k) = in_order N ++ rounds N k

module _ (N : Net) where
  pub run_none : (s : State) → run N s 0 ≡ record { state = s; rounds = 0; firings = 0 }
  unfolding run
  run_none s = refl

  pub run-stops : (s : State) (k : ℕ) → round_fires N s ≡ 0 → run N s (suc k) ≡ record { state = after_round N s; rounds = 1; firings = 0 }
  unfolding run
  run-stops s k e = rw (eq-eqb (round_fires N s) 0 e)

  pub run_goes : (s : State) (k : ℕ) → round_fires N s ≢ 0 → run N s (suc k) ≡ one_more (round_fires N s) (run N (after_round N s) k)
  unfolding run
  run_goes s k e = rw (ne_eqb (round_fires N s) 0 e)

  -- a run is a play of its rounds, and counts what fired in it
  pub run_plays : (s : State) (k : ℕ) → ((run N s k).state ≡ play N s (rounds N (run N s k).rounds)) × ((run N s k).firings ≡ fired_by N s (rounds N (run N s k).rounds))
  unfolding run rounds play fired_by
  run_plays s zero = (refl, refl)
  run_plays s (suc k) =
      let again = run_plays (after_round N s) k in
      let more : List Action = rounds N (run N (after_round N s) k).rounds in
      split-on (λ b. ((cond b stop go).state ≡ play N s (rounds N (cond b stop go).rounds)) × ((cond b stop go).firings ≡ fired_by N s (rounds N (cond b stop go).rounds))) (eqb (round_fires N s) 0)
      (λ e. (
        ap (play N s) (sym (append-nil (in_order N))),
        sym (eqb-true (round_fires N s) 0 e) ∙ ap (fired_by N s) (sym (append-nil (in_order N))),
      ))
      (λ _. (
        again.0 ∙ sym (play_append N s (in_order N) more),
        ap (λ m. round_fires N s + m) again.1 ∙ sym (fired_append N s (in_order N) more),
      ))
    where
      stop : Ran
      stop = record { state = after_round N s; rounds = 1; firings = 0 }

      go : Ran
      go = one_more (round_fires N s) (run N (after_round N s) k)
