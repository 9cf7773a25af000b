-- Each promise determines its result: stated of the contracts as the source has them.
use Rattle.std.proofs.Common.{sym, ◌∙◌}
use Rattle.base.specs.Promises.{OneResult}
use Rattle.queues.proofs.no_queues.Kinds as no-queues-kinds
use Rattle.queues.proofs.no_queues.Reads as no-queues
use Rattle.queues.proofs.find_queues.Kinds as find-queues-kinds
use Rattle.queues.proofs.find_queues.Reads as find-queues

pub no_queues_one : OneResult 0 no-queues-kinds.ps no-queues-kinds.r no-queues.Post
no_queues_one κs a r r' x x' p q = p ∙ sym q

pub find_queues_one : OneResult 2 find-queues-kinds.ps find-queues-kinds.r find-queues.Post
find_queues_one κs a r r' x x' p q = p ∙ sym q
