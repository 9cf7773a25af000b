-- A round and a run on a network's arrays (outline, "Rules of the network").
use Rattle.std.specs.Prelude.{◌≡◌, cond, ℕ, zero, suc, ◌+◌, eqb, ltb}
use Rattle.plans.specs.declared.Plan.{Plan}
use Rattle.lanes.specs.declared.Network.{Network}
use Rattle.spots.specs.Rounds.{round_on, fired_on}
use Rattle.rounds.specs.declared.Ran.{Ran}

abbrev pub Rounded : Plan → Network → ℕ → Network → Type 0
Rounded P L fired M = (fired ≡ fired_on P L) × (M ≡ round_on P L)

-- A run stops after its rounds, or after a round that fired none, and counts both, that last round too.
pub record RunOn : Type 0 where
  pub network : Network
  pub rounds : ℕ
  pub firings : ℕ

-- d rounds and f firings before the others
abbrev pub after : ℕ → ℕ → RunOn → RunOn
after d f r = record { network = r.network; rounds = d + r.rounds; firings = f + r.firings }

abbrev pub at_rest : Network → RunOn
at_rest L = record { network = L; rounds = 0; firings = 0 }

unfoldable pub run_on : Plan → Network → ℕ → RunOn
run_on P L zero = at_rest L
run_on P L (suc k) = cond (eqb (fired_on P L) 0) (after 1 0 (at_rest (round_on P L))) (after 1 (fired_on P L) (run_on P (round_on P L) k))

-- what a run gives back; 12 for more than 65,535 rounds, and then none is done
abbrev pub ran_of : RunOn → Ran
ran_of r = record { answer = 0; rounds = r.rounds; firings = r.firings }

abbrev pub too_many : Ran
too_many = record { answer = 12; rounds = 0; firings = 0 }

abbrev pub Runs : Plan → Network → ℕ → Ran → Network → Type 0
Runs P L k r M = (r ≡ cond (ltb 65535 k) too_many (ran_of (run_on P L k))) × (M ≡ cond (ltb 65535 k) L (run_on P L k).network)
