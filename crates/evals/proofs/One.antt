-- Each promise determines what it leaves of what was found: stated of the contracts as the source has them.
use Rattle.std.proofs.Common.{refl, sym, ◌∙◌}
use Rattle.base.specs.Promises.{OneOutcome}
use Rattle.evals.specs.declared.Found.{Found}
use Rattle.evals.proofs.Found.evaluate.Kinds as evaluate-kinds
use Rattle.evals.proofs.Found.evaluate.Reads as evaluate
use Rattle.evals.proofs.Found.load.Kinds as load-kinds
use Rattle.evals.proofs.Found.load.Reads as load

pub evaluate_one : OneOutcome {A = Found} 3 evaluate-kinds.ps evaluate-kinds.r evaluate.Post (λ κs x. x.0.now)
evaluate_one κs a r r' x x' p q = (refl, λ i. record { vals = (p.0 ∙ sym q.0) i; mets = (p.1 ∙ sym q.1) i })

pub load-one : OneOutcome {A = Found} 2 load-kinds.ps load-kinds.r load.Post (λ κs x. x.0.now)
load-one κs a r r' x x' p q = (refl, λ i. record { vals = (p.0 ∙ sym q.0) i; mets = (p.1 ∙ sym q.1) i })
