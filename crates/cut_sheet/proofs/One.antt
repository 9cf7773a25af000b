-- Each promise determines its result, and what it leaves in a lent buffer: stated of the contracts as the source has them.
use mathlib.Core.Path.{sym, ◌∙◌}
use Rattle.base.specs.Promises.{OneResult, OneOutcome}
use Rattle.cut_sheet.proofs.read.read_for_c.Kinds as read-for-c-kinds
use Rattle.cut_sheet.proofs.read.read_for_c.Reads as read-for-c
use Rattle.cut_sheet.proofs.read.read_cut.Kinds as read-cut-kinds
use Rattle.cut_sheet.proofs.read.read_cut.Reads as read-cut
use Rattle.cut_sheet.proofs.write.write_cut.Kinds as write-cut-kinds
use Rattle.cut_sheet.proofs.write.write_cut.Reads as write-cut

pub read_for_c_one : OneResult 0 read-for-c-kinds.ps read-for-c-kinds.r read-for-c.Post
read_for_c_one κs a r r' x x' p q = p ∙ sym q

pub read_cut_one : OneResult 2 read-cut-kinds.ps read-cut-kinds.r read-cut.Post
read_cut_one κs a r r' x x' p q = p ∙ sym q

pub write_cut_one : OneOutcome 3 write-cut-kinds.ps write-cut-kinds.r write-cut.Post (λ κs x. x.1.1.0.now)
write_cut_one κs a r r' x x' p q = (p.0 ∙ sym q.0, p.1 ∙ sym q.1)
