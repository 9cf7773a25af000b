-- Each promise determines its result: stated of the contracts as the source has them.
use mathlib.Core.Path.{sym, ◌∙◌}
use Rattle.base.specs.Promises.{OneResult}
use Rattle.demand.proofs.nothing.Kinds as nothing-kinds
use Rattle.demand.proofs.nothing.Reads as nothing

pub nothing-one : OneResult 0 nothing-kinds.ps nothing-kinds.r nothing.Post
nothing-one κs a r r' x x' p q = p ∙ sym q
