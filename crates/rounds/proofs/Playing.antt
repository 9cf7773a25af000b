-- Rounds and runs on the arrays are the network's: one round by the laws of its passes, a run by induction over its rounds, each from a state that is reached.
use mathlib.Core.Path.{◌≡◌, refl, sym, ◌∙◌, ap, ap₂}
use mathlib.Core.Bool.{Bool, true, false, cond}
use Prim.Native.Nat.{ℕ, zero, suc, ◌^◌, ◌<◌}
use native.Mathlib.Omega.{arith}
use lib.Dec.{eqb}
use Rattle.base.specs.Checks.{AllGood}
use Rattle.netlist.specs.declared.Netlist.{Netlist}
use Rattle.netlist.specs.Checks.{net_checks}
use Rattle.queues.specs.Found.{found}
use Rattle.cut.specs.declared.Cut.{Cut}
use Rattle.cut.specs.Checks.{cut_checks}
use Rattle.nets.specs.Net.{Net}
use Rattle.nets.specs.State.{State}
use Rattle.nets.specs.Rounds.{in_order, round_fires, after_round, Ran, one_more, run}
use Rattle.nets.specs.Networks.{network_of}
use Rattle.nets.specs.Kept.{Reached}
use Rattle.nets.proofs.Kept.{reached_is_kept, reaching}
use Rattle.nets.proofs.Rounds.{rounds, run_plays}
use Rattle.plans.specs.declared.Plan.{Plan}
use Rattle.plans.specs.Plans.{plan_of}
use Rattle.spots.specs.Stores.{store_of, net_of}
use Rattle.spots.specs.Rounds.{round_on, fired_on}
use Rattle.spots.proofs.OnArrays.{round_is, fired_is}
use Rattle.moves.proofs.Asking.{again}
use Rattle.rounds.specs.Runs.{RunOn, after, at_rest, run_on}
use Rattle.rounds.proofs.Turns.{same-run}
use Rattle.rounds.specs.Meaning.{RoundMeans, RunMeans, RoundKeeps, RunKeeps}

module _ (n : Netlist) (c : Cut) (g : AllGood (net_checks n)) (h : AllGood (cut_checks n c)) (limit : ℕ) (small : limit < 2 ^ 32) where
  abbrev net : Net
  net = network_of n c limit

  abbrev P : Plan
  P = plan_of n c (found n c.part) limit

  -- a run's counts, and the arrays of its state
  abbrev as_run : State → ℕ → RunOn
  as_run s k = record { network = store_of (run net s k).state; rounds = (run net s k).rounds; firings = (run net s k).firings }

  none-fires : (s : State) (k : ℕ) → as_run s zero ≡ at_rest (store_of s)
  unfolding run
  none-fires s k = refl

  -- a run as its arrays
  abbrev held : Ran → RunOn
  held r = record { network = store_of r.state; rounds = r.rounds; firings = r.firings }

  by_fires : (b : Bool) (t : State) (f k : ℕ)
      → held (cond b (record { state = t; rounds = 1; firings = 0 }) (one_more f (run net t k))) ≡ cond b (after 1 0 (at_rest (store_of t))) (after 1 f (as_run t k))
  by_fires true t f k = refl
  by_fires false t f k = same-run refl (omega arith) refl

  next_is : (s : State) (k : ℕ) → as_run s (suc k) ≡ cond (eqb (round_fires net s) 0) (after 1 0 (at_rest (store_of (after_round net s)))) (after 1 (round_fires net s) (as_run (after_round net s) k))
  unfolding run
  next_is s k = by_fires (eqb (round_fires net s) 0) (after_round net s) (round_fires net s) k

  runs_are : (s : State) → Reached net s → (k : ℕ) → run_on P (store_of s) k ≡ as_run s k
  unfolding run_on
  runs_are s R zero = sym (none-fires s 0)
  runs_are s R (suc k) =
      let K = reached_is_kept n c g h limit s R in
      let t : State = after_round net s in
      let T = (reaching net).more s R (in_order net) in
      ap₂ (λ f M. cond (eqb f 0) (after 1 0 (at_rest M)) (after 1 f (run_on P M k))) (fired_is n c g h limit small s K) (round_is n c g h limit small s K)
      ∙ ap (λ X. cond (eqb (round_fires net s) 0) (after 1 0 (at_rest (store_of t))) (after 1 (round_fires net s) X)) (runs_are t T k)
      ∙ sym (next_is s k)

pub round_means : RoundMeans
round_means P L G =
    let K = reached_is_kept G.n G.c G.net_good G.cut_good G.limit G.s G.reached in (
      ap₂ fired_on G.plan G.holds ∙ fired_is G.n G.c G.net_good G.cut_good G.limit G.small G.s K,
      ap₂ round_on G.plan G.holds ∙ round_is G.n G.c G.net_good G.cut_good G.limit G.small G.s K,
    )

pub run_means : RunMeans
run_means P L G k =
    let e : run_on P L k ≡ as_run G.n G.c G.net_good G.cut_good G.limit G.small G.s k =
    ap₂ (λ P L. run_on P L k) G.plan G.holds ∙ runs_are G.n G.c G.net_good G.cut_good G.limit G.small G.s G.reached k in
    record { rounds_are = ap (λ r. r.rounds) e; firings_are = ap (λ r. r.firings) e; left_is = ap (λ r. r.network) e }

pub round_keeps : RoundKeeps
round_keeps P L G =
    record { given = again G (round_on P L) (in_order (net_of G)) (round_means P L G).1; net_is = refl; cut_is = refl; limit_is = refl; state_is = refl }

pub run_keeps : RunKeeps
run_keeps P L G k =
    let N : Net = net_of G in
    let xs = rounds N (run N G.s k).rounds in
    let e = (run_plays N G.s k).0 in
    record { given = again G (run_on P L k).network xs ((run_means P L G k).left_is ∙ ap store_of e); net_is = refl; cut_is = refl; limit_is = refl; state_is = sym e }
