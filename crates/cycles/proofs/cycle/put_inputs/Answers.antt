-- `cycles::cycle::put_inputs` meets its contract. The values are changed so far at the list's nodes.
use Rattle.std.proofs.Common.{refl}
use Rattle.cycles.proofs.Listed.{puts_none, puts-step}
use Rattle.cycles.proofs.cycle.put_inputs.Goals as goal

pub loop-j-init : goal.loop-j-init
loop-j-init c = puts_none _ _ _

pub loop-j-preserved : goal.loop-j-preserved
loop-j-preserved c = puts-step _ _ _ _ _ _ _ c.loop-j.invariant refl refl
