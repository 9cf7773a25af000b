-- Each promise determines its result: stated of the contracts as the source has them.
use Rattle.std.proofs.Common.{sym, ◌∙◌}
use Rattle.base.specs.Promises.{OneResult}
use Rattle.values.proofs.node_value.Kinds as node-value-kinds
use Rattle.values.proofs.node_value.Reads as node-value

pub node-value-one : OneResult 0 node-value-kinds.ps node-value-kinds.r node-value.Post
node-value-one κs a r r' x x' p q = p ∙ sym q
