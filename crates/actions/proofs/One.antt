-- The promise determines its result, the network that it leaves and the lent list: stated of the contract as the source has it.
use mathlib.Core.Path.{sym, ◌∙◌}
use mathlib.Core.List.{List}
use Prim.Native.Nat.{ℕ}
use Rattle.base.specs.Promises.{OneOutcome}
use Rattle.lanes.specs.declared.Network.{Network}
use Rattle.actions.proofs.cwazi_actions.Kinds as actions-kinds
use Rattle.actions.proofs.cwazi_actions.Reads as actions

-- the network and the lent list
pub cwazi_actions_one : OneOutcome {A = Network × List ℕ} 4 actions-kinds.ps actions-kinds.r actions.Post (λ κs x. (x.1.0.now, x.1.1.1.0.now))
cwazi_actions_one κs a r r' x x' p q = (p.0.0 ∙ sym q.0.0, λ i. ((p.0.1 ∙ sym q.0.1) i, (p.0.2 ∙ sym q.0.2) i))
