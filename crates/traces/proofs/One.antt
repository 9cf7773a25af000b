-- The promise determines its result, the network that it leaves and the lent buffer: stated of the contract as the source has it.
use mathlib.Core.Path.{sym, ◌∙◌}
use mathlib.Core.List.{List}
use Prim.Native.Nat.{ℕ}
use Rattle.base.specs.Promises.{OneOutcome}
use Rattle.lanes.specs.declared.Network.{Network}
use Rattle.traces.proofs.block.Kinds as block-kinds
use Rattle.traces.proofs.block.Reads as block

pub block_one : OneOutcome {A = List ℕ × Network} 4 block-kinds.ps block-kinds.r block.Post (λ κs x. (x.1.1.1.1.0.now, x.1.0.now))
block_one κs a r r' x x' p q =
    let e = p.0 in
    let f = q.0 in
    (e.0 ∙ sym f.0, λ i. ((e.2 ∙ sym f.2) i, (e.1 ∙ sym f.1) i))
