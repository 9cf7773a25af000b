-- `rounds::run` meets its contract. What is done so far, before what is left of the run.
use mathlib.Core.Path.{◌≡◌, refl}
use native.Mathlib.Omega.{arith}
use borrow.Author.Tests.{le-ltb}
use Rattle.rounds.proofs.Turns.{fired-few, run-turn, run-rests, run_ends}
use Rattle.rounds.proofs.run.Goals as goal

pub overflow_add-firings : goal.overflow_add-firings
overflow_add-firings c =
    let l = c.loop-done in
    omega (arith, c.round-fired.ensures.0, fired-few c.args.plan.now l.network, l.invariant.0, c.loop-done-test.true, c.if-too_many.false)

pub returns-then-rests : goal.returns-then-rests
returns-then-rests c =
    let a = c.args in
    let l = c.loop-done in
    let f = c.round-fired.ensures in
    let e = run-rests a.plan.now l.network a.network.now c.round-fired.new.network a.rounds l.done l.firings c.round-fired.result l.invariant.1 c.loop-done-test.true f.0 f.1 c.if-rests.true in
    rw (le-ltb 65535 a.rounds c.if-too_many.false, e) (refl, refl)

pub loop-done-preserved : goal.loop-done-preserved
loop-done-preserved c =
    let a = c.args in
    let l = c.loop-done in
    let f = c.round-fired.ensures in (
      omega (arith, f.0, fired-few a.plan.now l.network, l.invariant.0),
      run-turn a.plan.now l.network a.network.now c.round-fired.new.network a.rounds l.done l.firings c.round-fired.result l.invariant.1 c.loop-done-test.true f.0 f.1 c.if-rests.false,
    )

pub returns : goal.returns
returns c =
    let a = c.args in
    let l = c.loop-done in
    let d : l.done ≡ a.rounds = omega (arith, c.loop-done-test.false, l.auto.done-end) in
    let e = run_ends a.plan.now l.network a.network.now l.network a.rounds l.done l.firings 0 l.invariant.1 d in
    rw (le-ltb 65535 a.rounds c.if-too_many.false, e) (refl, refl)
