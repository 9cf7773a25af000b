-- `network::cwazi_drain` meets its contract: what it says by the definitions, it says in the outline's words.
use mathlib.Core.Path.{◌∙◌}
use Rattle.network.proofs.Whole.{drain-whole}
use Rattle.network.proofs.cwazi_drain.Goals as goal

pub returns : goal.returns
returns c = drain-whole c.args.plan.now c.args.network.now c.args.output c.from.result c.drain.new.network (c.from.ensures ∙ c.drain.ensures.0, c.drain.ensures.1)
