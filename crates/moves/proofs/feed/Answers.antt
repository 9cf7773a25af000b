-- `moves::feed` meets its contract: each way out is one check of the definition.
use mathlib.Core.Path.{◌≡◌, refl, ◌∙◌}
use mathlib.Core.Bool.{true}
use Prim.Native.Nat.{◌<◌, min}
use native.Mathlib.Omega.{arith}
use borrow.Author.Tests.{lt-ltb, le-ltb}
use lib.Dec.{ltb}
use lib.ListN.{get_or}
use Rattle.base.specs.Checks.{verdict}
use Rattle.moves.specs.Moves.{feed_checked, feed_left}
use Rattle.moves.proofs.feed.Goals as goal

pub returns-then-min-q : goal.returns-then-min-q
unfolding feed_left feed_checked verdict
returns-then-min-q c =
    let a = c.args in
    rw (le-ltb a.input (min a.plan.now.inputs 512) (omega (arith, c.if-min-q.true, c.min.ensures))) (refl, refl)

pub returns-then-not-below : goal.returns-then-not-below
unfolding feed_left feed_checked verdict
returns-then-not-below c =
    let a = c.args in
    rw (lt-ltb a.input (min a.plan.now.inputs 512) (omega (arith, c.if-min-q.false, c.min.ensures)), ← c.below.ensures, c.if-not-below.true) (refl, refl)

pub returns-then-plan-q : goal.returns-then-plan-q
unfolding feed_left feed_checked verdict
returns-then-plan-q c =
    let a = c.args in
    rw (lt-ltb a.input (min a.plan.now.inputs 512) (omega (arith, c.if-min-q.false, c.min.ensures)), ← c.below.ensures, c.if-not-below.false, le-ltb (get_or a.network.now.used a.input 0) (get_or a.plan.now.depth a.input 0) c.if-plan-q.true) (refl, refl)

pub returns : goal.returns
unfolding feed_left feed_checked verdict
returns c =
    let a = c.args in
    let n = a.network.now in
    let h : a.input < min a.plan.now.inputs 512 = omega (arith, c.if-min-q.false, c.min.ensures) in
    let k : ltb a.input 512 ≡ true = lt-ltb a.input 512 (omega arith) in
    rw (lt-ltb a.input (min a.plan.now.inputs 512) h, ← c.below.ensures, c.if-not-below.false, lt-ltb (get_or n.used a.input 0) (get_or a.plan.now.depth a.input 0) c.if-plan-q.false) (refl, c.push.ensures ∙ rw k refl)
