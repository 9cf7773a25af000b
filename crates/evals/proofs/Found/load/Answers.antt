-- `evals::Found::load` meets its contract. A turn loads one queue.
use Rattle.std.proofs.Common.{refl}
use Rattle.evals.specs.Passes.{tokens_in, tokens_there}
use Rattle.evals.proofs.Turns.{tokens-turn, there-turn}
use Rattle.evals.proofs.Found.load.Goals as goal

pub loop-q-init : goal.loop-q-init
unfolding tokens_in tokens_there
loop-q-init c = (refl, refl)

pub loop-q-preserved : goal.loop-q-preserved
loop-q-preserved c =
    let l = c.loop-q in
    (tokens-turn _ l.q _ _ l.invariant.0, there-turn _ l.q _ _ l.invariant.1)
