-- `evals::Found::evaluate` meets its contract. A turn evaluates one node.
use Rattle.std.proofs.Common.{arith}
use Rattle.evals.proofs.Turns.{vals-turn, mets-turn, vals-none, mets-none}
use Rattle.evals.proofs.Found.evaluate.Goals as goal

pub loop-i-init : goal.loop-i-init
loop-i-init c = (omega arith, vals-none _ _ _ _, mets-none _ _ _)

pub loop-i-preserved : goal.loop-i-preserved
loop-i-preserved c =
    let l = c.loop-i in
    let v = l.invariant in
    (omega (arith, v.0, l.auto.i, c.loop-i-test.true), vals-turn _ _ _ l.i _ _ _ l.auto.i v.1 c.value-x.ensures, mets-turn _ _ l.i _ _ _ l.auto.i v.2 c.met-met.ensures)
