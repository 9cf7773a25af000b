-- `rounds::put_would` meets its contract: the test of the rule, on the tokens loaded.
use Rattle.rounds.proofs.Turns.{would_be}
use Rattle.rounds.proofs.put_would.Goals as goal

pub returns : goal.returns
returns c =
    let b = c.begin.ensures in
    would_be c.args.plan.now c.args.network.now _ _ _ _ _ _ b.0 b.1 c.put_asked.ensures
