-- `queues::channels::mark` meets its contract. One bit of one word is set.
use Rattle.std.proofs.Common.{ltb}
use Rattle.base.proofs.Tests.{and_left}
use Rattle.queues.proofs.Uses.{mark_set}
use Rattle.queues.proofs.Words.{one_shl}
use Rattle.queues.proofs.channels.mark.Goals as goal

pub returns-then-used-at : goal.returns-then-used-at
returns-then-used-at c =
    let a = c.args in
    mark_set a.used a.x a.p _ a.uses.now (and_left a.used (ltb a.x 1024) c.if-used-at.true) (one_shl a.p c.requires)
