-- Each promise determines its result and the network that it leaves: stated of the contracts as the source has them.
use mathlib.Core.Path.{sym, ◌∙◌}
use mathlib.Core.List.{List}
use Prim.Native.Nat.{ℕ}
use Rattle.base.specs.Promises.{OneResult, OneOutcome}
use Rattle.lanes.specs.declared.Network.{Network}
use Rattle.rules.proofs.cwazi_fire.Kinds as fire-kinds
use Rattle.rules.proofs.cwazi_fire.Reads as fire
use Rattle.rules.proofs.cwazi_ready.Kinds as ready-kinds
use Rattle.rules.proofs.cwazi_ready.Reads as ready
use Rattle.rules.proofs.cwazi_round.Kinds as round-kinds
use Rattle.rules.proofs.cwazi_round.Reads as round
use Rattle.rules.proofs.cwazi_run.Kinds as run-kinds
use Rattle.rules.proofs.cwazi_run.Reads as run
use Rattle.rules.proofs.cwazi_order.Kinds as order-kinds
use Rattle.rules.proofs.cwazi_order.Reads as order

pub cwazi_fire_one : OneOutcome {A = Network} 2 fire-kinds.ps fire-kinds.r fire.Post (λ κs x. x.1.0.now)
cwazi_fire_one κs a r r' x x' p q = (p.0 ∙ sym q.0, p.1 ∙ sym q.1)

pub cwazi_ready_one : OneResult 2 ready-kinds.ps ready-kinds.r ready.Post
cwazi_ready_one κs a r r' x x' p q = p.0 ∙ sym q.0

pub cwazi_round_one : OneOutcome {A = Network} 2 round-kinds.ps round-kinds.r round.Post (λ κs x. x.1.0.now)
cwazi_round_one κs a r r' x x' p q = (p.0 ∙ sym q.0, p.1 ∙ sym q.1)

pub cwazi_run_one : OneOutcome {A = Network} 2 run-kinds.ps run-kinds.r run.Post (λ κs x. x.1.0.now)
cwazi_run_one κs a r r' x x' p q = (p.0.0 ∙ sym q.0.0, p.0.1 ∙ sym q.0.1)

-- the network and the lent list
pub cwazi_order_one : OneOutcome {A = Network × List ℕ} 6 order-kinds.ps order-kinds.r order.Post (λ κs x. (x.1.0.now, x.1.1.1.1.1.0.now))
cwazi_order_one κs a r r' x x' p q = (p.0.0 ∙ sym q.0.0, λ i. ((p.0.1 ∙ sym q.0.1) i, (p.0.2 ∙ sym q.0.2) i))
