-- `actions::count_drains` meets its contract. A turn counts one action.
use Rattle.std.proofs.Common.{eqb, refl, arith}
use Rattle.orders.proofs.Turns.{drains-more, drains-whole}
use Rattle.actions.proofs.count_drains.Goals as goal

pub loop-a-init : goal.loop-a-init
loop-a-init c = (refl, omega arith)

pub loop-a-preserved : goal.loop-a-preserved
loop-a-preserved c =
    let l = c.loop-a in
    drains-more (λ a. eqb a.kind 1) _ c.args.actions.now l.a-index l.found _ c.loop-a-test.true l.invariant.0 l.invariant.1 c.from-found.ensures

pub returns : goal.returns
returns c =
    let l = c.loop-a in
    drains-whole (λ a. eqb a.kind 1) c.args.actions.now l.a-index l.found (omega (arith, l.auto.a-index-end, c.loop-a-test.false)) l.invariant.0
