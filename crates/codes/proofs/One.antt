-- Each promise determines its result, and what it leaves in a lent buffer: stated of the contracts as the source has them.
use mathlib.Core.Path.{sym, ◌∙◌}
use Rattle.base.specs.Promises.{OneResult}
use Rattle.codes.proofs.record_good.Kinds as record-good-kinds
use Rattle.codes.proofs.record_good.Reads as record-good
use Rattle.codes.proofs.operand_count.Kinds as operand-count-kinds
use Rattle.codes.proofs.operand_count.Reads as operand-count

pub record_good_one : OneResult 1 record-good-kinds.ps record-good-kinds.r record-good.Post
record_good_one κs a r r' x x' p q = p ∙ sym q

pub operand_count_one : OneResult 0 operand-count-kinds.ps operand-count-kinds.r operand-count.Post
operand_count_one κs a r r' x x' p q = p ∙ sym q
