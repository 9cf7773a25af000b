-- Each promise determines its result, and what it leaves in a lent buffer: stated of the contracts as the source has them.
use mathlib.Core.Path.{sym, ◌∙◌}
use Rattle.base.specs.Promises.{OneOutcome}
use Rattle.net_trips.proofs.copy_net.Kinds as copy-net-kinds
use Rattle.net_trips.proofs.copy_net.Reads as copy-net
use Rattle.net_trips.proofs.reread_net.Kinds as reread-net-kinds
use Rattle.net_trips.proofs.reread_net.Reads as reread-net

pub copy-net-one : OneOutcome 2 copy-net-kinds.ps copy-net-kinds.r copy-net.Post (λ κs x. x.1.0.now)
copy-net-one κs a r r' x x' p q = (p.0 ∙ sym q.0, p.1 ∙ sym q.1)

pub reread-net-one : OneOutcome 2 reread-net-kinds.ps reread-net-kinds.r reread-net.Post (λ κs x. x.1.0.now)
reread-net-one κs a r r' x x' p q = (p.0 ∙ sym q.0, p.1 ∙ sym q.1)
