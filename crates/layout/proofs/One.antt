-- Each promise determines its result, and what it leaves in a lent buffer: stated of the contracts as the source has them.
use mathlib.Core.Path.{refl, sym, ◌∙◌}
use Rattle.base.specs.Promises.{OneResult, OneOutcome}
use Rattle.layout.proofs.trailer.find_sections.Kinds as find-sections-kinds
use Rattle.layout.proofs.trailer.find_sections.Reads as find-sections
use Rattle.layout.proofs.trailer.trailer_bytes.Kinds as trailer-bytes-kinds
use Rattle.layout.proofs.trailer.trailer_bytes.Reads as trailer-bytes
use Rattle.layout.proofs.labels.check_labels.Kinds as check-labels-kinds
use Rattle.layout.proofs.labels.check_labels.Reads as check-labels
use Rattle.layout.proofs.load.load_bytes.Kinds as load-bytes-kinds
use Rattle.layout.proofs.load.load_bytes.Reads as load-bytes
use Rattle.layout.proofs.write.wrote_for_c.Kinds as wrote-for-c-kinds
use Rattle.layout.proofs.write.wrote_for_c.Reads as wrote-for-c
use Rattle.layout.proofs.write.put_bytes.Kinds as put-bytes-kinds
use Rattle.layout.proofs.write.put_bytes.Reads as put-bytes

pub find_sections_one : OneResult 1 find-sections-kinds.ps find-sections-kinds.r find-sections.Post
find_sections_one κs a r r' x x' p q = p ∙ sym q

pub trailer-bytes-one : OneResult 0 trailer-bytes-kinds.ps trailer-bytes-kinds.r trailer-bytes.Post
trailer-bytes-one κs a r r' x x' p q = p ∙ sym q

pub check_labels_one : OneResult 1 check-labels-kinds.ps check-labels-kinds.r check-labels.Post
check_labels_one κs a r r' x x' p q = p ∙ sym q

pub load_bytes_one : OneOutcome 2 load-bytes-kinds.ps load-bytes-kinds.r load-bytes.Post (λ κs x. x.0.now)
load_bytes_one κs a r r' x x' p q = (refl, p ∙ sym q)

pub wrote_for_c_one : OneResult 0 wrote-for-c-kinds.ps wrote-for-c-kinds.r wrote-for-c.Post
wrote_for_c_one κs a r r' x x' p q = p ∙ sym q

pub put-bytes-one : OneOutcome 2 put-bytes-kinds.ps put-bytes-kinds.r put-bytes.Post (λ κs x. x.0.now)
put-bytes-one κs a r r' x x' p q = (refl, p ∙ sym q)
