-- `cycles::cycle::put_held` meets its contract. The values are changed so far at the list's nodes.
use mathlib.Core.Path.{◌≡◌}
use Rattle.cycles.specs.Listed.{puts, held_by}
use Rattle.cycles.proofs.cycle.put_held.Given as goal

abbrev pub invariant-loop-x : goal.invariant-loop-x
invariant-loop-x l = (l.vals ≡ puts l.list (held_by l.list l.regs) l.x-index l.initial.vals)
