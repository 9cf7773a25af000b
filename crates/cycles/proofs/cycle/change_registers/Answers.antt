-- `cycles::cycle::change_registers` meets its contract. The registers are changed so far at the list's nodes, all from the cycle's values.
use Rattle.std.proofs.Common.{refl}
use Rattle.cycles.proofs.Listed.{puts_none, puts-step}
use Rattle.cycles.proofs.cycle.change_registers.Goals as goal

pub loop-x-init : goal.loop-x-init
loop-x-init c = puts_none _ _ _

pub loop-x-preserved : goal.loop-x-preserved
loop-x-preserved c = puts-step _ _ _ _ _ _ _ c.loop-x.invariant refl refl
