-- Each promise determines its result.
use mathlib.Core.Path.{sym, ◌∙◌}
use Rattle.base.specs.Promises.{OneResult}
use Rattle.base.proofs.passed.Kinds as passed-kinds
use Rattle.base.proofs.passed.Reads as passed
use Rattle.base.proofs.whole.Kinds as whole-kinds
use Rattle.base.proofs.whole.Reads as whole
use Rattle.base.proofs.le16.Kinds as le16-kinds
use Rattle.base.proofs.le16.Reads as le16
use Rattle.base.proofs.le32.Kinds as le32-kinds
use Rattle.base.proofs.le32.Reads as le32
use Rattle.base.proofs.least.Kinds as least-kinds
use Rattle.base.proofs.least.Reads as least
use Rattle.base.proofs.below.Kinds as below-kinds
use Rattle.base.proofs.below.Reads as below

pub passed_one : OneResult 0 passed-kinds.ps passed-kinds.r passed.Post
passed_one κs a r r' x x' p q = p ∙ sym q

pub whole_one : OneResult 0 whole-kinds.ps whole-kinds.r whole.Post
whole_one κs a r r' x x' p q = p ∙ sym q

pub le16_one : OneResult 0 le16-kinds.ps le16-kinds.r le16.Post
le16_one κs a r r' x x' p q = p ∙ sym q

pub le32_one : OneResult 0 le32-kinds.ps le32-kinds.r le32.Post
le32_one κs a r r' x x' p q = p ∙ sym q

pub least-one : OneResult 0 least-kinds.ps least-kinds.r least.Post
least-one κs a r r' x x' p q = p ∙ sym q

pub below_one : OneResult 0 below-kinds.ps below-kinds.r below.Post
below_one κs a r r' x x' p q = p ∙ sym q
