-- `actions::cwazi_actions` meets its contract. A turn does one action more.
use mathlib.Core.Path.{◌≡◌, refl, sym, ◌∙◌, subst, ap}
use native.Mathlib.Omega.{arith}
use lib.ListN.{length, length-map}
use Rattle.orders.specs.Orders.{Tried, refused_order}
use Rattle.orders.proofs.Turns.{plays-first, plays-next, order-refused, order-played}
use Rattle.rules.proofs.Whole.{order-whole}
use Rattle.actions.specs.Actions.{kinds_of, indexes_of, values_of, entries_of}
use Rattle.actions.proofs.Playing.{entry_is, answer-short, answer-done}
use Rattle.actions.proofs.cwazi_actions.Goals as goal

pub returns-then-drained-count_drains : goal.returns-then-drained-count_drains
returns-then-drained-count_drains c =
    let P = c.args.plan.now in
    let L = c.args.network.now in
    let xs = c.args.actions.now in
    let lent = c.args.drained.now in
    let e = c.number.ensures ∙ answer-short xs (length lent) c.count_drains.result c.count_drains.ensures c.if-drained-count_drains.true in
    order-whole P L (kinds_of xs) (indexes_of xs) (values_of xs) lent _ L lent
    (order-refused P L (kinds_of xs) (indexes_of xs) (values_of xs) lent (refused_order c.number.result) (ap refused_order e) (λ z. omega (arith, e ∙ z, c.number.ensures)))

pub loop-a-init : goal.loop-a-init
loop-a-init c = plays-first c.args.plan.now c.args.network.now (entries_of c.args.actions.now) c.args.drained.now (refused_order 0) refl

pub loop-a-preserved : goal.loop-a-preserved
loop-a-preserved c =
    let P = c.args.plan.now in
    let xs = c.args.actions.now in
    let l = c.loop-a in
    plays-next P c.args.network.now (entries_of xs) c.args.drained.now l.a-index l.played l.network l.drained c.play.new.self c.play.new.network c.play.new.drained (omega (arith, c.loop-a-test.true)) l.invariant
    (subst (λ e. Tried P l.network l.drained l.played e c.play.new.self c.play.new.network c.play.new.drained) (entry_is xs l.a-index) c.play.ensures)

pub returns : goal.returns
returns c =
    let P = c.args.plan.now in
    let L = c.args.network.now in
    let xs = c.args.actions.now in
    let lent = c.args.drained.now in
    let l = c.loop-a in
    let e = answer-done xs (length lent) c.count_drains.result c.count_drains.ensures c.if-drained-count_drains.false in
    let n : l.a-index ≡ length (kinds_of xs) = omega (arith, c.loop-a-test.false, l.auto.a-index-end, length-map xs (λ a. a.kind)) in
    order-whole P L (kinds_of xs) (indexes_of xs) (values_of xs) lent l.played l.network l.drained
    (order-played P L (kinds_of xs) (indexes_of xs) (values_of xs) lent l.a-index l.played l.network l.drained n (sym e) l.invariant)
