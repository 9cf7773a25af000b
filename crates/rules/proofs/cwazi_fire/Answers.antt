-- `rules::cwazi_fire` meets its contract: what it says by the definitions, it says in the outline's words.
use mathlib.Core.Path.{◌∙◌}
use Rattle.rules.proofs.Whole.{fire-whole}
use Rattle.rules.proofs.cwazi_fire.Goals as goal

pub returns : goal.returns
returns c = fire-whole c.args.plan.now c.args.network.now c.args.rule c.answer.result c.fire.new.network (c.answer.ensures ∙ c.fire.ensures.0, c.fire.ensures.1)
