-- `cycles::cycle::put_values` meets its contract. The list is filled so far, from its place on.
use Rattle.std.proofs.Common.{refl}
use Rattle.cycles.proofs.Passes.{from-none, from_step}
use Rattle.cycles.proofs.cycle.put_values.Goals as goal

pub loop-j-init : goal.loop-j-init
loop-j-init c = from-none _ _ _

pub loop-j-preserved : goal.loop-j-preserved
loop-j-preserved c = from_step _ _ _ _ _ _ c.loop-j.invariant refl
