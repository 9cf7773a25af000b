-- Each promise determines its result, and what it leaves in a lent buffer: stated of the contracts as the source has them.
use mathlib.Core.Path.{sym, ◌∙◌}
use Rattle.base.specs.Promises.{OneResult, OneOutcome}
use Rattle.net_sheet.proofs.load.record_at.Kinds as record-at-kinds
use Rattle.net_sheet.proofs.load.record_at.Reads as record_at
use Rattle.net_sheet.proofs.read.net_sections.Kinds as net-sections-kinds
use Rattle.net_sheet.proofs.read.net_sections.Reads as net_sections
use Rattle.net_sheet.proofs.read.read_for_c.Kinds as read-for-c-kinds
use Rattle.net_sheet.proofs.read.read_for_c.Reads as read-for-c
use Rattle.net_sheet.proofs.read.read_net.Kinds as read-net-kinds
use Rattle.net_sheet.proofs.read.read_net.Reads as read-net
use Rattle.net_sheet.proofs.write.write_net.Kinds as write-net-kinds
use Rattle.net_sheet.proofs.write.write_net.Reads as write-net

pub record_at_one : OneResult 1 record-at-kinds.ps record-at-kinds.r record_at.Post
record_at_one κs a r r' x x' p q = p ∙ sym q

pub net_sections_one : OneResult 1 net-sections-kinds.ps net-sections-kinds.r net_sections.Post
net_sections_one κs a r r' x x' p q = p ∙ sym q

pub read_for_c_one : OneResult 0 read-for-c-kinds.ps read-for-c-kinds.r read-for-c.Post
read_for_c_one κs a r r' x x' p q = p ∙ sym q

pub read-net-one : OneResult 1 read-net-kinds.ps read-net-kinds.r read-net.Post
read-net-one κs a r r' x x' p q = p ∙ sym q

pub write_net_one : OneOutcome 2 write-net-kinds.ps write-net-kinds.r write-net.Post (λ κs x. x.1.0.now)
write_net_one κs a r r' x x' p q = (p.0 ∙ sym q.0, p.1 ∙ sym q.1)
