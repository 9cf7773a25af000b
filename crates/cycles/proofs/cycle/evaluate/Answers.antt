-- `cycles::cycle::evaluate` meets its contract. The values are those of the pass so far.
use Rattle.cycles.proofs.Passes.{computed-none, computed-step}
use Rattle.cycles.proofs.cycle.evaluate.Goals as goal

pub loop-i-init : goal.loop-i-init
loop-i-init c = computed-none _ _

pub loop-i-preserved : goal.loop-i-preserved
loop-i-preserved c = computed-step _ _ _ _ _ c.loop-i.invariant c.node_now.ensures
