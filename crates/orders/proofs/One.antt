-- Each promise determines its result, the network that it leaves and the lent list: stated of the contracts as the source has them.
use mathlib.Core.Path.{refl, sym, ◌∙◌}
use mathlib.Core.List.{List}
use Prim.Native.Nat.{ℕ}
use Rattle.base.specs.Promises.{OneOutcome}
use Rattle.lanes.specs.declared.Network.{Network}
use Rattle.refusals.proofs.Numbers.{given-one}
use Rattle.orders.specs.declared.Played.{Played}
use Rattle.orders.proofs.act.Kinds as act-kinds
use Rattle.orders.proofs.act.Reads as act
use Rattle.orders.proofs.Played.play.Kinds as play-kinds
use Rattle.orders.proofs.Played.play.Reads as play
use Rattle.orders.proofs.order.Kinds as order-kinds
use Rattle.orders.proofs.order.Reads as order

pub act_one : OneOutcome {A = Network} 2 act-kinds.ps act-kinds.r act.Post (λ κs x. x.1.0.now)
act_one κs a r r' x x' p q = (given-one r r' (p.0 ∙ sym q.0) (p.1 ∙ sym q.1), p.2 ∙ sym q.2)

-- the counts, the network and the lent list
pub play_one : OneOutcome {A = Played × Network × List ℕ} 4 play-kinds.ps play-kinds.r play.Post (λ κs x. (x.0.now, x.1.1.0.now, x.1.1.1.1.1.1.0.now))
play_one κs a r r' x x' p q =
    (refl, λ i. (record { answer = (p.0 ∙ sym q.0) i; feeds = (p.1 ∙ sym q.1) i; drains = (p.2 ∙ sym q.2) i; firings = (p.3 ∙ sym q.3) i }, (p.4 ∙ sym q.4) i, (p.5 ∙ sym q.5) i))

-- the network and the lent list
pub order_one : OneOutcome {A = Network × List ℕ} 6 order-kinds.ps order-kinds.r order.Post (λ κs x. (x.1.0.now, x.1.1.1.1.1.0.now))
order_one κs a r r' x x' p q = (p.0 ∙ sym q.0, λ i. ((p.1 ∙ sym q.1) i, (p.2 ∙ sym q.2) i))
