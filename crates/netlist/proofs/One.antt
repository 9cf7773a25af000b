-- Each promise determines its result, and what it leaves in a lent buffer: stated of the contracts as the source has them.
use mathlib.Core.Path.{sym, ◌∙◌}
use Rattle.base.specs.Promises.{OneResult}
use Rattle.netlist.proofs.no_net.Kinds as no-net-kinds
use Rattle.netlist.proofs.no_net.Reads as no-net
use Rattle.netlist.proofs.check_net.Kinds as check-net-kinds
use Rattle.netlist.proofs.check_net.Reads as check-net
use Rattle.netlist.proofs.record_of.Kinds as record-of-kinds
use Rattle.netlist.proofs.record_of.Reads as record_of
use Rattle.netlist.proofs.numbers_good.Kinds as numbers-good-kinds
use Rattle.netlist.proofs.numbers_good.Reads as numbers-good

pub no_net_one : OneResult 0 no-net-kinds.ps no-net-kinds.r no-net.Post
no_net_one κs a r r' x x' p q = p ∙ sym q

pub check_net_one : OneResult 1 check-net-kinds.ps check-net-kinds.r check-net.Post
check_net_one κs a r r' x x' p q = p ∙ sym q

pub record_of_one : OneResult 1 record-of-kinds.ps record-of-kinds.r record_of.Post
record_of_one κs a r r' x x' p q = p ∙ sym q

pub numbers-good-one : OneResult 1 numbers-good-kinds.ps numbers-good-kinds.r numbers-good.Post
numbers-good-one κs a r r' x x' p q = p ∙ sym q
