-- `cycles::cycle::change_registers` meets its contract. The registers are changed so far at the list's nodes, all from the cycle's values.
use mathlib.Core.Path.{◌≡◌}
use Rattle.cycles.specs.Listed.{puts, next_by}
use Rattle.cycles.proofs.cycle.change_registers.Given as goal

abbrev pub invariant-loop-x : goal.invariant-loop-x
invariant-loop-x l = (l.regs ≡ puts l.list (next_by l.list l.net.a l.vals) l.x-index l.initial.regs)
