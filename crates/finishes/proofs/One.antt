-- Each promise determines its result and what it leaves of the network: stated of the contracts as the source has them.
use Rattle.std.proofs.Common.{sym, ◌∙◌}
use Rattle.base.specs.Promises.{OneResult, OneOutcome}
use Rattle.lanes.specs.declared.Network.{Network}
use Rattle.finishes.proofs.finish_asked.Kinds as finish-asked-kinds
use Rattle.finishes.proofs.finish_asked.Reads as finish-asked
use Rattle.finishes.proofs.finish_rules.Kinds as finish-rules-kinds
use Rattle.finishes.proofs.finish_rules.Reads as finish-rules

pub finish-asked-one : OneResult 2 finish-asked-kinds.ps finish-asked-kinds.r finish-asked.Post
finish-asked-one κs a r r' x x' p q = p ∙ sym q

pub finish-rules-one : OneOutcome {A = Network} 3 finish-rules-kinds.ps finish-rules-kinds.r finish-rules.Post (λ κs x. x.1.0.now)
finish-rules-one κs a r r' x x' p q =
    (p.0 ∙ sym q.0, λ i. record { cells = (p.1 ∙ sym q.1) i; used = (p.2 ∙ sym q.2) i; flag = (p.3 ∙ sym q.3) i; held = (p.4 ∙ sym q.4) i; count = (p.5 ∙ sym q.5) i })
