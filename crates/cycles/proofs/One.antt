-- Each promise determines its result, and what it leaves behind its lent parameters, where it speaks at all: stated of the contracts as the source has them.
use Rattle.std.proofs.Common.{◌≡◌, refl, sym, ◌∙◌}
use borrow.Fn.Kinds.{Dens, ended_of, res_t}
use denote.Triple.Clauses.{AtExit}
use contract.Lifetimes.{Lfts}
use Rattle.base.specs.Checks.{AllGood}
use Rattle.base.specs.Promises.{OneOutcome}
use Rattle.netlist.specs.Checks.{net_checks}
use Rattle.cycles.specs.Steps.{unlabelled, Registers}
use Rattle.refusals.specs.Numbers.{answer}
use Rattle.refusals.proofs.Numbers.{answer-one}
use Rattle.cycles.proofs.Streams.{one_result}
use Rattle.cycles.proofs.calls.first_registers.Kinds as first-registers-kinds
use Rattle.cycles.proofs.calls.first_registers.Reads as first-registers
use Rattle.cycles.proofs.calls.steps.Kinds as steps-kinds
use Rattle.cycles.proofs.calls.steps.Reads as steps
use Rattle.cycles.proofs.calls.step.Kinds as step-kinds
use Rattle.cycles.proofs.calls.step.Reads as step

pub first_registers_one : OneOutcome 2 first-registers-kinds.ps first-registers-kinds.r first-registers.Post (λ κs x. x.1.0.now)
first_registers_one κs a r r' x x' p q = (refl, p ∙ sym q)

pub steps_one : (κs : Lfts 4) (a : Dens κs steps-kinds.ps) (r r' : (res_t steps-kinds.r κs).Denot) (x x' : AtExit (ended_of 4 steps-kinds.ps steps-kinds.r) κs)
    → steps.Post κs a r x
    → steps.Post κs a r' x'
    → AllGood (net_checks (unlabelled a.0.now))
    → Registers (unlabelled a.0.now) a.1.0.now
    → (r ≡ r') × (x.1.0.now ≡ x'.1.0.now) × (x.1.1.1.1.0.now ≡ x'.1.1.1.1.0.now)
steps_one κs a r r' x x' p q g rg =
    let e = one_result (unlabelled a.0.now) g a.1.0.now a.1.1.0 a.1.1.1.0.now a.1.1.1.1.0.now (answer r) (answer r') _ _ _ _ (p g rg) (q g rg) in
    (answer-one r r' e.0, e.1, e.2)

pub step_one : (κs : Lfts 4) (a : Dens κs step-kinds.ps) (r r' : (res_t step-kinds.r κs).Denot) (x x' : AtExit (ended_of 4 step-kinds.ps step-kinds.r) κs)
    → step.Post κs a r x
    → step.Post κs a r' x'
    → AllGood (net_checks (unlabelled a.0.now))
    → Registers (unlabelled a.0.now) a.1.0.now
    → (r ≡ r') × (x.1.0.now ≡ x'.1.0.now) × (x.1.1.1.0.now ≡ x'.1.1.1.0.now)
step_one κs a r r' x x' p q g rg =
    let e = one_result (unlabelled a.0.now) g a.1.0.now 1 a.1.1.0.now a.1.1.1.0.now (answer r) (answer r') _ _ _ _ (p g rg) (q g rg) in
    (answer-one r r' e.0, e.1, e.2)
