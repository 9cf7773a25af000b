-- `rules::cwazi_round` meets its contract: what it says by the definitions, it says in the outline's words.
use Rattle.rules.proofs.Whole.{round_whole}
use Rattle.rules.proofs.cwazi_round.Goals as goal

pub returns : goal.returns
returns c = round_whole c.args.plan.now c.args.network.now c.round.result c.round.new.network c.round.ensures
