-- Each promise determines its result.
use mathlib.Core.Path.{sym, ◌∙◌}
use Rattle.base.specs.Promises.{OneResult}
use Rattle.refusals.proofs.Refusal.number.Kinds as number-kinds
use Rattle.refusals.proofs.Refusal.number.Reads as number
use Rattle.refusals.proofs.answer.Kinds as answer-kinds
use Rattle.refusals.proofs.answer.Reads as answer

pub number_one : OneResult 0 number-kinds.ps number-kinds.r number.Post
number_one κs a r r' x x' p q = p ∙ sym q

pub answer_one : OneResult 0 answer-kinds.ps answer-kinds.r answer.Post
answer_one κs a r r' x x' p q = p ∙ sym q
