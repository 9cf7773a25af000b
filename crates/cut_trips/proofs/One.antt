-- Each promise determines its result, and what it leaves in a lent buffer: stated of the contracts as the source has them.
use mathlib.Core.Path.{sym, ◌∙◌}
use Rattle.base.specs.Promises.{OneOutcome}
use Rattle.cut_trips.proofs.copy_cut.Kinds as copy-cut-kinds
use Rattle.cut_trips.proofs.copy_cut.Reads as copy-cut
use Rattle.cut_trips.proofs.reread_cut.Kinds as reread-cut-kinds
use Rattle.cut_trips.proofs.reread_cut.Reads as reread-cut

pub copy_cut_one : OneOutcome 3 copy-cut-kinds.ps copy-cut-kinds.r copy-cut.Post (λ κs x. x.1.1.0.now)
copy_cut_one κs a r r' x x' p q = (p.0 ∙ sym q.0, p.1 ∙ sym q.1)

pub reread_cut_one : OneOutcome 3 reread-cut-kinds.ps reread-cut-kinds.r reread-cut.Post (λ κs x. x.1.1.0.now)
reread_cut_one κs a r r' x x' p q = (p.0 ∙ sym q.0, p.1 ∙ sym q.1)
