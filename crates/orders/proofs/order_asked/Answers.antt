-- `orders::order_asked` meets its contract: one law for each way out.
use mathlib.Core.Path.{refl, ◌∙◌}
use Rattle.nets.specs.Orders.{entry_at}
use Rattle.orders.proofs.Turns.{drains-counted, asked_uneven, asked-short, asked-done}
use Rattle.orders.proofs.order_asked.Goals as goal

pub returns-then-not-even : goal.returns-then-not-even
returns-then-not-even c = let a = c.args in asked_uneven a.kinds.now a.indexes.now a.values.now a.places c.if-not-even.true

pub returns-then-count_drains-places : goal.returns-then-count_drains-places
returns-then-count_drains-places c =
    let a = c.args in
    let e = c.count_drains.ensures ∙ drains-counted (λ k. k) 0 a.kinds.now (entry_at a.kinds.now a.indexes.now a.values.now) (λ t. refl) in
    asked-done a.kinds.now a.indexes.now a.values.now a.places _ c.if-not-even.false e c.if-count_drains-places.true

pub returns-else-count_drains-places : goal.returns-else-count_drains-places
returns-else-count_drains-places c =
    let a = c.args in
    let e = c.count_drains.ensures ∙ drains-counted (λ k. k) 0 a.kinds.now (entry_at a.kinds.now a.indexes.now a.values.now) (λ t. refl) in
    asked-short a.kinds.now a.indexes.now a.values.now a.places _ c.if-not-even.false e c.if-count_drains-places.false
