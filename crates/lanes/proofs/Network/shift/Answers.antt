-- `lanes::Network::shift` meets its contract: the copy is the definition's steps.
use Rattle.std.proofs.Common.{arith}
use Rattle.lanes.proofs.Shifts.{taken}
use Rattle.lanes.proofs.Network.shift.Goals as goal

pub returns : goal.returns
returns c =
    let n = c.args.self.now in
    let e = taken _ _ c.args.q _ (omega arith) (omega arith) c.copy_within.ensures.after in
    λ i. record { cells = e i; used = n.used; flag = n.flag; held = n.held; count = n.count }
