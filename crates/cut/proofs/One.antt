-- Each promise determines its result: stated of the contracts as the source has them.
use mathlib.Core.Path.{sym, ◌∙◌}
use Rattle.base.specs.Promises.{OneResult}
use Rattle.cut.proofs.no_cut.Kinds as no-cut-kinds
use Rattle.cut.proofs.no_cut.Reads as no_cut
use Rattle.cut.proofs.check_cut.Kinds as check-cut-kinds
use Rattle.cut.proofs.check_cut.Reads as check-cut

pub no_cut_one : OneResult 0 no-cut-kinds.ps no-cut-kinds.r no_cut.Post
no_cut_one κs a r r' x x' p q = p ∙ sym q

pub check_cut_one : OneResult 2 check-cut-kinds.ps check-cut-kinds.r check-cut.Post
check_cut_one κs a r r' x x' p q = p ∙ sym q
