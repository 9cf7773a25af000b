-- `cycles::cycle::put_inputs` meets its contract. The values are changed so far at the list's nodes.
use mathlib.Core.Path.{◌≡◌}
use Rattle.cycles.specs.Listed.{puts, input_at}
use Rattle.cycles.proofs.cycle.put_inputs.Given as goal

abbrev pub invariant-loop-j : goal.invariant-loop-j
invariant-loop-j l = (l.vals ≡ puts l.list (input_at l.ins l.at) l.j l.initial.vals)
