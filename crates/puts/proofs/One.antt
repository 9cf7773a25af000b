-- Each promise determines its result and what it leaves of the network and of what was found: stated of the contracts as the source has them.
use Rattle.std.proofs.Common.{sym, ◌∙◌}
use Rattle.base.specs.Promises.{OneOutcome}
use Rattle.lanes.specs.declared.Network.{Network}
use Rattle.evals.specs.declared.Found.{Found}
use Rattle.puts.proofs.put_asked.Kinds as put-asked-kinds
use Rattle.puts.proofs.put_asked.Reads as put-asked
use Rattle.puts.proofs.put_rules.Kinds as put-rules-kinds
use Rattle.puts.proofs.put_rules.Reads as put-rules

pub put-asked-one : OneOutcome {A = Found} 3 put-asked-kinds.ps put-asked-kinds.r put-asked.Post (λ κs x. x.1.1.1.0.now)
put-asked-one κs a r r' x x' p q = (p.0 ∙ sym q.0, λ i. record { vals = (p.1 ∙ sym q.1) i; mets = (p.2 ∙ sym q.2) i })

pub put-rules-one : OneOutcome {A = Network × Found} 3 put-rules-kinds.ps put-rules-kinds.r put-rules.Post (λ κs x. (x.1.0.now, x.1.1.1.1.1.0.now))
put-rules-one κs a r r' x x' p q = (p.0 ∙ sym q.0, λ i. ((p.1 ∙ sym q.1) i, record { vals = (p.2 ∙ sym q.2) i; mets = (p.3 ∙ sym q.3) i }))
