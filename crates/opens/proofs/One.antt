-- The promise determines its result: stated of the contract as the source has it.
use mathlib.Core.Path.{sym, ◌∙◌}
use Rattle.base.specs.Promises.{OneResult}
use Rattle.opens.proofs.open.Kinds as open-kinds
use Rattle.opens.proofs.open.Reads as open-reads

pub open_one : OneResult 2 open-kinds.ps open-kinds.r open-reads.Post
open_one κs a r r' x x' p q = p ∙ sym q
