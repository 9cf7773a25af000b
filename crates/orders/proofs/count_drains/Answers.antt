-- `orders::count_drains` meets its contract. A turn counts one entry.
use Rattle.std.proofs.Common.{eqb, refl, arith}
use Rattle.orders.proofs.Turns.{drains-more, drains-whole}
use Rattle.orders.proofs.count_drains.Goals as goal

pub loop-kind-init : goal.loop-kind-init
loop-kind-init c = (refl, omega arith)

pub loop-kind-preserved : goal.loop-kind-preserved
loop-kind-preserved c =
    let l = c.loop-kind in
    drains-more (λ kind. eqb kind 1) 0 c.args.kinds.now l.kind-index l.found _ c.loop-kind-test.true l.invariant.0 l.invariant.1 c.from-found.ensures

pub returns : goal.returns
returns c =
    let l = c.loop-kind in
    drains-whole (λ kind. eqb kind 1) c.args.kinds.now l.kind-index l.found (omega (arith, l.auto.kind-index-end, c.loop-kind-test.false)) l.invariant.0
