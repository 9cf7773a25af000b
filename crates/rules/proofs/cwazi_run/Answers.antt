-- `rules::cwazi_run` meets its contract: what it says by the definitions, it says in the outline's words.
use Rattle.rules.proofs.Whole.{run-whole}
use Rattle.rules.proofs.cwazi_run.Goals as goal

pub returns : goal.returns
returns c = run-whole c.args.plan.now c.args.network.now c.args.rounds c.run.result c.run.new.network c.run.ensures
