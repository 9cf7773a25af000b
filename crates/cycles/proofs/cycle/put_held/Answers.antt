-- `cycles::cycle::put_held` meets its contract. The values are changed so far at the list's nodes.
use Rattle.std.proofs.Common.{refl}
use Rattle.cycles.proofs.Listed.{puts_none, puts-step}
use Rattle.cycles.proofs.cycle.put_held.Goals as goal

pub loop-x-init : goal.loop-x-init
loop-x-init c = puts_none _ _ _

pub loop-x-preserved : goal.loop-x-preserved
loop-x-preserved c = puts-step _ _ _ _ _ _ _ c.loop-x.invariant refl refl
