-- The promise determines its result: stated of the contract as the source has it.
use mathlib.Core.Path.{sym, ◌∙◌}
use Rattle.base.specs.Promises.{OneResult}
use Rattle.texts.proofs.find_text.Kinds as find-text-kinds
use Rattle.texts.proofs.find_text.Reads as find-text

pub find_text_one : OneResult 1 find-text-kinds.ps find-text-kinds.r find-text.Post
find_text_one κs a r r' x x' p q = p ∙ sym q
