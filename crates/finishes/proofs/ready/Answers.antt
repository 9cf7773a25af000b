-- `finishes::ready` meets its contract. A turn marks one part, and then a turn looks at one queue.
use Rattle.std.proofs.Common.{◌≡◌, ◌-◌, min, refl, arith}
use Rattle.finishes.specs.Finishes.{cleared, finishing}
use Rattle.finishes.proofs.Turns.{below_none, below-turn, cleared-turn}
use Rattle.finishes.proofs.ready.Goals as goal

pub loop-p-init : goal.loop-p-init
loop-p-init c = (omega arith, below_none _ _ _ _)

pub loop-p-preserved : goal.loop-p-preserved
loop-p-preserved c =
    let l = c.loop-p in
    let v = l.invariant in
    (omega (arith, v.0, l.auto.p, c.loop-p-test.true), below-turn _ _ _ l.p _ _ l.auto.p v.1)

pub loop-q-init : goal.loop-q-init
unfolding cleared
loop-q-init c = refl

pub loop-q-preserved : goal.loop-q-preserved
loop-q-preserved c =
    let l = c.loop-q in
    cleared-turn _ _ _ _ l.q _ _ l.invariant

pub returns : goal.returns
unfolding finishing
returns c =
    let a = c.args in
    let p = c.loop-p in
    let q = c.loop-q in
    let e : p.p - a.lo ≡ min a.hi 32 - a.lo = omega (arith, p.invariant.0, p.auto.p, c.min-p-end.ensures, c.loop-p-test.false) in
    let g : q.q ≡ min a.plan.now.queues 512 = omega (arith, q.auto.q-end, c.min-q-end.ensures, c.loop-q-test.false) in
    rw (← e, ← g, ← p.invariant.1) q.invariant
