-- Rules by number, rounds and runs (outline, "Rules of the network").
use Rattle.std.specs.Prelude.{cond, List, [], ◌∷◌, ℕ, zero, suc, ◌+◌, ◌-◌, eqb, ltb}
use Rattle.nets.specs.Lists.{tab, bit}
use Rattle.nets.specs.Net.{Net}
use Rattle.nets.specs.State.{State}
use Rattle.nets.specs.Actions.{Action, put, finish, ready, step, play}

-- one for each channel, one for each output, both in queue order, then a Finish for each part
unfoldable pub rule_count : Net → ℕ
rule_count N = N.queues - N.ins + N.parts

unfoldable pub rule : Net → ℕ → Action
rule N r = cond (ltb (N.ins + r) N.queues) (put (N.ins + r)) (finish (N.ins + r - N.queues))

unfoldable pub in_order : Net → List Action
in_order N = tab (rule_count N) (rule N)

-- the state after the first r rules
abbrev pub after_rules : Net → State → ℕ → State
after_rules N s r = play N s (tab r (rule N))

-- how many of some rules fire, tried one after the other
unfoldable pub fired_by : Net → State → List Action → ℕ
fired_by N s [] = 0
fired_by N s (a ∷ xs) = bit (ready N s a) + fired_by N (step N s a) xs

-- A round tries each rule once by number, and counts firings.
abbrev pub round_fires : Net → State → ℕ
round_fires N s = fired_by N s (in_order N)

abbrev pub after_round : Net → State → State
after_round N s = play N s (in_order N)

-- A run stops after its rounds, or after a round that fired none, and counts both, that last round too.
pub record Ran : Type 0 where
  pub state : State
  pub rounds : ℕ
  pub firings : ℕ

-- one round more, before the others
abbrev pub one_more : ℕ → Ran → Ran
one_more fired r = record { state = r.state; rounds = suc r.rounds; firings = fired + r.firings }

unfoldable pub run : Net → State → ℕ → Ran
run N s zero = record { state = s; rounds = 0; firings = 0 }
run N s (suc k) =
    cond (eqb (round_fires N s) 0)
    (record { state = after_round N s; rounds = 1; firings = 0 })
    (one_more (round_fires N s) (run N (after_round N s) k))
