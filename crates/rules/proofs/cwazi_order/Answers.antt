-- `rules::cwazi_order` meets its contract: what it says by the definitions, it says in the outline's words.
use Rattle.rules.proofs.Whole.{order-whole}
use Rattle.rules.proofs.cwazi_order.Goals as goal

pub returns : goal.returns
returns c = order-whole c.args.plan.now c.args.network.now c.args.kinds.now c.args.indexes.now c.args.values.now c.args.drained.now c.order.result c.order.new.network c.order.new.drained c.order.ensures
