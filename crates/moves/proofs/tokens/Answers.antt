-- `moves::tokens` meets its contract: what is told, by whether there is such a queue.
use mathlib.Core.Path.{refl}
use Prim.Native.Nat.{min}
use native.Mathlib.Omega.{arith}
use borrow.Author.Tests.{lt-ltb, le-ltb}
use Rattle.moves.specs.Moves.{told}
use Rattle.moves.proofs.tokens.Goals as goal

pub returns-then-q-min : goal.returns-then-q-min
unfolding told
returns-then-q-min c =
    let a = c.args in
    rw (lt-ltb a.queue (min a.plan.now.queues 512) (omega (arith, c.if-q-min.true, c.min.ensures))) refl

pub returns-else-q-min : goal.returns-else-q-min
unfolding told
returns-else-q-min c =
    let a = c.args in
    rw (le-ltb a.queue (min a.plan.now.queues 512) (omega (arith, c.if-q-min.false, c.min.ensures))) refl
