-- Each promise determines its result and what it leaves: stated of the contracts as the source has them.
use mathlib.Core.Path.{refl, sym, ◌∙◌}
use Rattle.base.specs.Promises.{OneOutcome}
use Rattle.lanes.specs.declared.Network.{Network}
use Rattle.evals.specs.declared.Found.{Found}
use Rattle.spots.proofs.begin.Kinds as begin-kinds
use Rattle.spots.proofs.begin.Reads as begin
use Rattle.spots.proofs.try_puts.Kinds as try-puts-kinds
use Rattle.spots.proofs.try_puts.Reads as try-puts

pub begin_one : OneOutcome {A = Found} 2 begin-kinds.ps begin-kinds.r begin.Post (λ κs x. x.1.1.0.now)
begin_one κs a r r' x x' p q = (refl, λ i. record { vals = (p.0 ∙ sym q.0) i; mets = (p.1 ∙ sym q.1) i })

-- the network, and what is found
pub try_puts_one : OneOutcome {A = Network × Found} 3 try-puts-kinds.ps try-puts-kinds.r try-puts.Post (λ κs x. (x.1.0.now, x.1.1.1.1.1.0.now))
try_puts_one κs a r r' x x' p q =
    (p.0 ∙ sym q.0, λ i. ((p.1 ∙ sym q.1) i, record { vals = (p.2 ∙ sym q.2) i; mets = (p.3 ∙ sym q.3) i }))
