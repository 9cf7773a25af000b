-- `run_text::unhex` meets its contract. The loop keeps: the first i bytes are filled.
use Rattle.base.proofs.Fill.{fill_none, fill_step}
use Rattle.run_text.proofs.unhex.Goals as goal

pub loop-i-init : goal.loop-i-init
loop-i-init c = fill_none _ _

pub loop-i-preserved : goal.loop-i-preserved
loop-i-preserved c = fill_step _ c.loop-i.i _ _ _ c.loop-i.invariant c.byte.ensures
