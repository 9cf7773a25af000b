-- `moves::finished` meets its contract: what is told, by whether there is such a part.
use mathlib.Core.Path.{refl}
use Prim.Native.Nat.{min}
use native.Mathlib.Omega.{arith}
use borrow.Author.Tests.{lt-ltb, le-ltb}
use Rattle.moves.specs.Moves.{told}
use Rattle.moves.proofs.finished.Goals as goal

pub returns-then-p-min : goal.returns-then-p-min
unfolding told
returns-then-p-min c =
    let a = c.args in
    rw (lt-ltb a.part (min a.plan.now.parts 32) (omega (arith, c.if-p-min.true, c.min.ensures))) refl

pub returns-else-p-min : goal.returns-else-p-min
unfolding told
returns-else-p-min c =
    let a = c.args in
    rw (le-ltb a.part (min a.plan.now.parts 32) (omega (arith, c.if-p-min.false, c.min.ensures))) refl
