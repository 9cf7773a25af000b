-- `network::cwazi_feed` meets its contract: what it says by the definitions, it says in the outline's words.
use mathlib.Core.Path.{◌∙◌}
use Rattle.network.proofs.Whole.{feed-whole}
use Rattle.network.proofs.cwazi_feed.Goals as goal

pub returns : goal.returns
returns c = feed-whole c.args.plan.now c.args.network.now c.args.input c.args.value c.answer.result c.feed.new.network (c.answer.ensures ∙ c.feed.ensures.0, c.feed.ensures.1)
