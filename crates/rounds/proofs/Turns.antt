-- A run's loop: what is done so far, before what is left of the run; and what a rule that is asked would do is what it does.
use mathlib.Core.Path.{◌≡◌, refl, ◌∙◌, ap, ap₂}
use mathlib.Core.Bool.{Bool, true, false, cond}
use mathlib.Core.List.{List, []}
use Prim.Native.Nat.{ℕ, suc, ◌+◌, ◌-◌, ◌<◌, ◌≤◌, min}
use native.Mathlib.Omega.{arith}
use borrow.Author.Tests.{eq-eqb, ne_eqb}
use Rattle.evals.specs.Passes.{tokens_in, tokens_there}
use Rattle.puts.specs.Puts.{rules_of, Plan as Rules, Pass, mk_pass, needed, evaluated, put_ready, put_done, put_tried, Asked, puts_after}
use Rattle.finishes.specs.Finishes.{finished, finishing_on}
use Rattle.plans.specs.declared.Plan.{Plan}
use Rattle.lanes.specs.declared.Network.{Network}
use Rattle.spots.specs.Rounds.{no_vals, no_mets, first_pass, puts_on, finishes_on, round_on, fired_on, all_puts}
use Rattle.rounds.specs.Fires.{put_alone, no_puts, put_would, firing}
use Rattle.rounds.specs.Runs.{RunOn, after, run_on}
use Rattle.rounds.proofs.Left.{fired-same, puts_bounded, finishes_bounded}

abbrev pub made : Network → ℕ → ℕ → RunOn
made L d f = record { network = L; rounds = d; firings = f }

pub same-run : {L M : Network} {a b c d : ℕ} → L ≡ M → a ≡ b → c ≡ d → made L a c ≡ made M b d
same-run x y z = λ i. made (x i) (y i) (z i)

pub fired-few : (P : Plan) (L : Network) → fired_on P L ≤ 544
unfolding fired_on
fired-few P L =
    let a = puts_bounded P L P.inputs P.queues P.nodes in
    let b = finishes_bounded P L (all_puts P L) 0 P.parts in
    omega (arith, a, b)

module _ (P : Plan) (L L₀ M : Network) (k d f fired : ℕ) (h : run_on P L₀ k ≡ after d f (run_on P L (k - d))) where
  -- one round more
  module _ (l : d < k) (e : fired ≡ fired_on P L) (g : M ≡ round_on P L) where
    s : k - d ≡ suc (k - (d + 1))
    s = omega arith

    pub run-turn : (fired ≡ 0 → ⊥) → run_on P L₀ k ≡ after (d + 1) (f + fired) (run_on P M (k - (d + 1)))
    unfolding run_on
    run-turn z = h ∙ ap (λ x. after d f (run_on P L x)) s ∙ rw (← e, ← g, ne_eqb fired 0 z) (same-run refl (omega arith) (omega arith))

    -- it fired none
    pub run-rests : fired ≡ 0 → run_on P L₀ k ≡ made M (d + 1) (f + fired)
    unfolding run_on
    run-rests z = h ∙ ap (λ x. after d f (run_on P L x)) s ∙ rw (← e, ← g, eq-eqb fired 0 z) (same-run refl (omega arith) (omega (arith, z)))

  -- nothing is left of it
  pub run_ends : d ≡ k → run_on P L₀ k ≡ made L k f
  unfolding run_on
  run_ends e = let z : k - d ≡ 0 = omega (arith, e) in h ∙ ap (λ x. after d f (run_on P L x)) z ∙ same-run refl (omega (arith, e)) (omega arith)

-- ---- a rule asked

abbrev alone : Bool → ℕ
alone b = cond b 1 0

module _ (P : Plan) (L : Network) where
  -- one put rule by itself
  tried-counts : (R : Rules) (q : ℕ) (S : Pass) → S.fired ≡ 0 → (put_tried R q S).fired ≡ alone (put_ready R q S)
  unfolding put_tried put_done
  tried-counts R q S e = go (put_ready R q S)
    where
      go : (b : Bool) → (cond b (put_done R q S) S).fired ≡ alone b
      go true = ap (λ x. x + 1) e
      go false = e

  pub alone-fired : (q : ℕ) → q < 512 → (put_alone P L q).fired ≡ alone (put_would P L q)
  unfolding puts_on put_would puts_after
  alone-fired q l =
      let R : Rules = rules_of P L in
      let S : Pass = first_pass P.queues L.cells L.used L.flag in
      let e : min (q + 1) 512 - q ≡ 1 = omega arith in
      let z : q + 0 ≡ q = omega arith in
      fired-same R 0 (puts_after R q (min (q + 1) 512 - q) S)
      ∙ ap (λ d. (puts_after R q d S).fired) e
      ∙ ap (λ x. (put_tried R x (evaluated R (needed R x) S)).fired) z
      ∙ tried-counts R q (evaluated R (needed R q) S) (fired-same R (needed R q) S)

  -- whatever stands in the store, since the test does not look at it
  pub would_be : (q : ℕ) (vals : List ℕ) (mets : List Bool) (b : Bool) (vals' : List ℕ) (mets' : List Bool)
      → vals ≡ tokens_in L.cells (min P.queues 512) no_vals
      → mets ≡ tokens_there L.used (min P.queues 512) no_mets
      → Asked (rules_of P L) q (mk_pass 0 0 [] L.used L.flag vals mets) b vals' mets'
      → b ≡ put_would P L q
  unfolding put_would evaluated
  would_be q vals mets b vals' mets' v m h =
      h.0 ∙ ap₂ (λ x y. put_ready (rules_of P L) q (evaluated (rules_of P L) (needed (rules_of P L) q) (mk_pass 0 0 [] L.used L.flag x y))) v m

  -- with no put rule, flags and counts are as they were
  pub no_puts_lem : (lo hi : ℕ) → finished (finishing_on P L lo hi) (min hi 32) ≡ finishes_on P L (no_puts P L) lo hi
  unfolding puts_on puts_after evaluated
  no_puts_lem lo hi = refl

pub firing_would : (b : Bool) → firing (alone b) ≡ cond b 0 14
firing_would true = refl
firing_would false = refl
