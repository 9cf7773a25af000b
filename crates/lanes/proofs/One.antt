-- Each promise determines what it leaves of the network: stated of the contracts as the source has them.
use Rattle.std.proofs.Common.{refl, sym, ◌∙◌}
use Rattle.base.specs.Promises.{OneOutcome}
use Rattle.lanes.specs.declared.Network.{Network}
use Rattle.lanes.proofs.Network.push.Kinds as push-kinds
use Rattle.lanes.proofs.Network.push.Reads as push
use Rattle.lanes.proofs.Network.take.Kinds as take-kinds
use Rattle.lanes.proofs.Network.take.Reads as take

pub push_one : OneOutcome {A = Network} 1 push-kinds.ps push-kinds.r push.Post (λ κs x. x.0.now)
push_one κs a r r' x x' p q = (refl, p ∙ sym q)

pub take-one : OneOutcome {A = Network} 1 take-kinds.ps take-kinds.r take.Post (λ κs x. x.0.now)
take-one κs a r r' x x' p q = (refl, p ∙ sym q)
