-- `run_text::put_all`: a write took more bytes, or was interrupted.
use Rattle.run_text.proofs.Fronts.{written_more, written_none}
use Rattle.run_text.proofs.put_all.Goals as goal
use Rattle.run_text.proofs.put_all.Goals.{in-Ok, in-Err+else-ne}

pub loop-preserved : goal.loop-preserved
loop-preserved g c = elim c.match-write.branch [ in-Ok w ↦ written_more _ _ _ _ _ _ _ c.loop.invariant.0 w.n-is w.in-Ok.ensures.bound c.loop.invariant.1 w.in-Ok.ensures.bytes | in-Err+else-ne w ↦ written_none _ _ _ _ _ _ c.loop.invariant.0 w.n-is c.loop.invariant.1 w.in-Err.ensures.bytes ]
