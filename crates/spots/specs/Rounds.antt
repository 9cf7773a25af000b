-- Rules on a network's arrays, by its plan: the oldest tokens are loaded, put rules are tried with the evaluation on the way, and Finishes that are ready then
-- are fired at once. A round does all of them; in the outline's words it is RoundMeans (rounds/specs/Meaning).
use Rattle.std.specs.Prelude.{Bool, true, false, List, ℕ, ◌+◌, min, set, replicate}
use Rattle.base.specs.Lists.{fill}
use Rattle.evals.specs.Passes.{tokens_in, tokens_there}
use Rattle.puts.specs.Puts.{Pass, mk_pass, rules_of, puts_done}
use Rattle.finishes.specs.Finishes.{next_held, next_count, used_after, cells_after, flags_after, finished, finishing}
use Rattle.plans.specs.declared.Plan.{Plan}
use Rattle.plans.specs.Plans.{nowhere}
use Rattle.lanes.specs.declared.Network.{Network}

-- nothing found yet; what is no operand is always there
abbrev pub no_vals : List ℕ
no_vals = replicate 2048 0

abbrev pub no_mets : List Bool
no_mets = set (replicate 2048 false) nowhere true

-- the oldest tokens of the first n queues
abbrev pub first_pass : ℕ → List ℕ → List ℕ → List Bool → Pass
first_pass n cells used flag = mk_pass 0 0 cells used flag (tokens_in cells (min n 512) no_vals) (tokens_there used (min n 512) no_mets)

-- after the put rules of the queues from lo up to hi, and then the nodes up to `last`
unfoldable pub puts_on : Plan → Network → ℕ → ℕ → ℕ → Pass
puts_on P L lo hi last = puts_done (rules_of P L) lo hi last (first_pass P.queues L.cells L.used L.flag)

-- the parts from lo up to hi that finish then, and what they leave
abbrev pub marks_on : Plan → Network → Pass → ℕ → ℕ → List Bool
marks_on P L T lo hi = finishing P.from P.into T.flag T.used L.count P.limit P.queues lo hi

unfoldable pub finished_on : Plan → Network → Pass → ℕ → ℕ → Network
finished_on P L T lo hi =
    record {
      cells = cells_after P.into (marks_on P L T lo hi) (min P.queues 512) T.used T.cells;
      used = used_after P.into (marks_on P L T lo hi) (min P.queues 512) T.used;
      flag = flags_after P.from (marks_on P L T lo hi) (min P.queues 512) T.flag;
      held = fill (next_held P.code P.ra P.part T.vals (marks_on P L T lo hi) L.held) (min P.nodes 1024) L.held;
      count = fill (next_count (marks_on P L T lo hi) L.count) (min hi 32) L.count;
    }

-- how many of them there are
abbrev pub finishes_on : Plan → Network → Pass → ℕ → ℕ → ℕ
finishes_on P L T lo hi = finished (marks_on P L T lo hi) (min hi 32)

-- a round: all put rules, and then all Finishes
abbrev pub all_puts : Plan → Network → Pass
all_puts P L = puts_on P L P.inputs P.queues P.nodes

unfoldable pub round_on : Plan → Network → Network
round_on P L = finished_on P L (all_puts P L) 0 P.parts

unfoldable pub fired_on : Plan → Network → ℕ
fired_on P L = (all_puts P L).fired + finishes_on P L (all_puts P L) 0 P.parts
