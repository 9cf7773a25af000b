-- Each promise determines its result: stated of the contracts as the source has them.
use mathlib.Core.Path.{sym, ◌∙◌}
use Rattle.base.specs.Promises.{OneResult}
use Rattle.plans.proofs.make_plan.Kinds as make-plan-kinds
use Rattle.plans.proofs.make_plan.Reads as make-plan

pub make_plan_one : OneResult 3 make-plan-kinds.ps make-plan-kinds.r make-plan.Post
make_plan_one κs a r r' x x' p q = p ∙ sym q
