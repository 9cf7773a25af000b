-- `orders::act` meets its contract: one case of the definition for each kind.
use mathlib.Core.Path.{◌≡◌, refl, ap, ◌∙◌}
use mathlib.Core.Bool.{false}
use lib.Dec.{eqb}
use Rattle.std.proofs.Common.{rules}
use Rattle.orders.specs.Orders.{act_on}
use Rattle.orders.proofs.act.Goals as goal

pub returns-in-0 : goal.returns-in-0
unfolding act_on
returns-in-0 c = rw c.in-0.is (c.with_no_value.ensures.0 ∙ c.feed.ensures.0, c.with_no_value.ensures.1, c.feed.ensures.1)

pub returns-in-1 : goal.returns-in-1
unfolding act_on
returns-in-1 c = rw c.in-1.is (ap (λ d. d.answer) c.drain.ensures.0, ap (λ d. d.value) c.drain.ensures.0, c.drain.ensures.1)

pub returns-in-2 : goal.returns-in-2
unfolding act_on
returns-in-2 c = rw c.in-2.is (c.with_no_value-in-2.ensures.0 ∙ c.fire.ensures.0, c.with_no_value-in-2.ensures.1, c.fire.ensures.1)

pub returns-in_default : goal.returns-in_default
unfolding act_on
returns-in_default c =
    let x : eqb c.args.kind 0 ≡ false = search rules in
    let y : eqb c.args.kind 1 ≡ false = search rules in
    let z : eqb c.args.kind 2 ≡ false = search rules in
    rw (x, y, z) (refl, refl, refl)
