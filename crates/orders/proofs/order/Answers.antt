-- `orders::order` meets its contract. A turn does one entry more.
use mathlib.Core.Path.{sym, ◌∙◌}
use native.Mathlib.Omega.{arith}
use lib.ListN.{length}
use Rattle.nets.specs.Orders.{entry_at}
use Rattle.orders.proofs.Turns.{lists_even, plays-first, plays-next, order-refused, order-played}
use Rattle.orders.proofs.order.Goals as goal

pub returns-then-played-ne0 : goal.returns-then-played-ne0
returns-then-played-ne0 c =
    let a = c.args in
    let z = c.answer.ensures ∙ c.order_asked.ensures in
    order-refused a.plan.now a.network.now a.kinds.now a.indexes.now a.values.now a.drained.now _ (λ i. record { answer = z i; feeds = 0; drains = 0; firings = 0 }) (λ e. c.if-played-ne0.true (z ∙ e))

pub loop-t-init : goal.loop-t-init
loop-t-init c =
    let a = c.args in
    plays-first a.plan.now a.network.now (entry_at a.kinds.now a.indexes.now a.values.now) a.drained.now (record { answer = c.answer.result; feeds = 0; drains = 0; firings = 0 }) (λ i. record { answer = c.if-played-ne0.false i; feeds = 0; drains = 0; firings = 0 })

pub bounds-indexes-t : goal.bounds-indexes-t
bounds-indexes-t c =
    let a = c.args in
    let h = lists_even a.kinds.now a.indexes.now a.values.now (length a.drained.now) (sym (c.answer.ensures ∙ c.order_asked.ensures) ∙ c.if-played-ne0.false) in
    omega (arith, c.loop-t-test.true, h.0)

pub bounds-values-t : goal.bounds-values-t
bounds-values-t c =
    let a = c.args in
    let h = lists_even a.kinds.now a.indexes.now a.values.now (length a.drained.now) (sym (c.answer.ensures ∙ c.order_asked.ensures) ∙ c.if-played-ne0.false) in
    omega (arith, c.loop-t-test.true, h.1)

pub loop-t-preserved : goal.loop-t-preserved
loop-t-preserved c =
    let a = c.args in
    let l = c.loop-t in
    plays-next a.plan.now a.network.now (entry_at a.kinds.now a.indexes.now a.values.now) a.drained.now l.t l.played l.network l.drained c.play.new.self c.play.new.network c.play.new.drained (omega (arith, c.loop-t-test.true)) l.invariant c.play.ensures

pub returns : goal.returns
returns c =
    let a = c.args in
    let l = c.loop-t in
    order-played a.plan.now a.network.now a.kinds.now a.indexes.now a.values.now a.drained.now l.t l.played l.network l.drained (omega (arith, c.loop-t-test.false, l.auto.t-end)) (sym (c.answer.ensures ∙ c.order_asked.ensures) ∙ c.if-played-ne0.false) l.invariant
