-- `traces::block` meets its contract. What is still to be read gives what the whole block gives.
use Rattle.traces.proofs.Blocks.{Kept}
use Rattle.traces.proofs.block.Given as goal

abbrev pub invariant-loop-read : goal.invariant-loop-read
invariant-loop-read l = Kept l.plan l.fn.network l.fn.reading l.input l.fn.out l.network l.line l.out l.read l.wrote
