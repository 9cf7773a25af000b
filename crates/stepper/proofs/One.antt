-- Each promise determines its result, and what it leaves in the lists that are lent: stated of the contracts as the source has them.
use mathlib.Core.Path.{◌≡◌, refl, sym, ◌∙◌}
use seplogic.Ra.Ura.{Ura}
use base.Logic.{SProp}
use prog.Memory.{Memory}
use prog.Routine.{Routine}
use types.Logic.{Logic}
use contract.Monad.{Fun, fact}
use contract.Lifetimes.{Lfts}
use denote.Triple.Clauses.{AtExit}
use denote.Triple.Entry.{Args, Res}
use Rattle.base.specs.Checks.{AllGood}
use Rattle.base.specs.Promises.{OneLeft}
use Rattle.netlist.specs.Checks.{net_checks}
use Rattle.cycles.specs.Steps.{first_registers, Registers, StepsPromise}
use Rattle.cycles.proofs.Streams.{one_result}
use Rattle.stepper.specs.contracts.cwazi_first_registers as first
use Rattle.stepper.specs.contracts.cwazi_steps as many
use Rattle.stepper.specs.contracts.cwazi_step as once

-- what each `ensures` says of the arguments, the result and what is left
abbrev FirstSays : (κs : Lfts 2) → Args first.signature κs → Res first.signature κs → AtExit first.ended κs → Type 0
FirstSays κs a r x = x.1.0.now ≡ first_registers a.0.now

abbrev StepsSay : (κs : Lfts 4) → Args many.signature κs → Res many.signature κs → AtExit many.ended κs → Type 0
StepsSay κs a r x = StepsPromise a.0.now a.1.0.now a.1.1.0 a.1.1.1.0.now a.1.1.1.1.0.now r x.1.0.now x.1.1.1.1.0.now

abbrev StepSays : (κs : Lfts 4) → Args once.signature κs → Res once.signature κs → AtExit once.ended κs → Type 0
StepSays κs a r x = StepsPromise a.0.now a.1.0.now 1 a.1.1.0.now a.1.1.1.0.now r x.1.0.now x.1.1.1.0.now

module _ {M : Type 1} {𝓤 : Ura M} (𝓛 : Logic 𝓤) (mem : Memory → SProp 𝓤) (run : Routine → Fun 𝓤) where
  pub first_registers_says : (κs : Lfts 2) (a : Args first.signature κs) (r : Res first.signature κs) (x : AtExit first.ended κs) → (first.clauses 𝓛 mem run κs a).ensures tt r x ≡ fact 𝓤 (FirstSays κs a r x)
  first_registers_says κs a r x = refl

  pub steps_say : (κs : Lfts 4) (a : Args many.signature κs) (r : Res many.signature κs) (x : AtExit many.ended κs) → (many.clauses 𝓛 mem run κs a).ensures tt r x ≡ fact 𝓤 (StepsSay κs a r x)
  steps_say κs a r x = refl

  pub step-says : (κs : Lfts 4) (a : Args once.signature κs) (r : Res once.signature κs) (x : AtExit once.ended κs) → (once.clauses 𝓛 mem run κs a).ensures tt r x ≡ fact 𝓤 (StepSays κs a r x)
  step-says κs a r x = refl

pub cwazi_first_registers_one : OneLeft first.ended FirstSays (λ κs x. x.1.0.now)
cwazi_first_registers_one κs a r r' x x' p q = (refl, p ∙ sym q)

-- for a netlist that passes the checks, and registers of it
pub cwazi_steps_one : (κs : Lfts 4) (a : Args many.signature κs) (r r' : Res many.signature κs) (x x' : AtExit many.ended κs) → AllGood (net_checks a.0.now) → Registers a.0.now a.1.0.now → StepsSay κs a r x → StepsSay κs a r' x'
    → (r ≡ r') × (x.1.0.now ≡ x'.1.0.now) × (x.1.1.1.1.0.now ≡ x'.1.1.1.1.0.now)
cwazi_steps_one κs a r r' x x' g rg p q =
    one_result a.0.now g a.1.0.now a.1.1.0 a.1.1.1.0.now a.1.1.1.1.0.now r r' _ _ _ _ (p g rg) (q g rg)

pub cwazi_step_one : (κs : Lfts 4) (a : Args once.signature κs) (r r' : Res once.signature κs) (x x' : AtExit once.ended κs) → AllGood (net_checks a.0.now) → Registers a.0.now a.1.0.now → StepSays κs a r x → StepSays κs a r' x'
    → (r ≡ r') × (x.1.0.now ≡ x'.1.0.now) × (x.1.1.1.0.now ≡ x'.1.1.1.0.now)
cwazi_step_one κs a r r' x x' g rg p q =
    one_result a.0.now g a.1.0.now 1 a.1.1.0.now a.1.1.1.0.now r r' _ _ _ _ (p g rg) (q g rg)
