-- `trace::play` ends: each turn leaves fewer bytes of the block.
use Rattle.std.proofs.Common.{length, ◌≡◌}
use Rattle.trace.proofs.play.Given as goal

abbrev pub invariant-loop-rest : goal.invariant-loop-rest
invariant-loop-rest g l = length l.out ≡ length l.initial.out

abbrev pub decreases-loop-rest : goal.decreases-loop-rest
decreases-loop-rest g l = length l.rest
