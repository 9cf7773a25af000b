-- `queues::no_queues` meets its contract. The definition, written out.
use Rattle.std.proofs.Common.{refl}
use Rattle.queues.specs.Found.{no_queues}
use Rattle.queues.proofs.no_queues.Goals as goal

pub returns : goal.returns
unfolding no_queues
returns c = refl
