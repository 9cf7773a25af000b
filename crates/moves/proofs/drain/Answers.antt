-- `moves::drain` meets its contract: each way out is one check of the definition.
use mathlib.Core.Path.{◌≡◌, refl, ◌∙◌}
use mathlib.Core.Bool.{true}
use Prim.Native.Nat.{ℕ, ◌+◌}
use native.Mathlib.Omega.{arith}
use borrow.Author.Tests.{lt-ltb}
use lib.Dec.{ltb}
use lib.ListN.{get_or}
use Rattle.base.specs.Checks.{verdict}
use Rattle.moves.specs.Moves.{drain_checked, drain_left}
use Rattle.moves.proofs.Answers.{output-none, output-some}
use Rattle.moves.proofs.drain.Goals as goal

pub returns-then-min-output : goal.returns-then-min-output
unfolding drain_left drain_checked verdict
returns-then-min-output c =
    let q : ℕ = c.min.result + c.min-2.result + c.args.output in
    let e = output-none c.args.plan.now c.args.output c.min-3.result q c.min-3.ensures (omega (arith, c.min.ensures, c.min-2.ensures)) c.if-min-output.true in
    rw e (refl, refl)

pub returns-then-empty : goal.returns-then-empty
unfolding drain_left drain_checked verdict
returns-then-empty c =
    let q : ℕ = c.min.result + c.min-2.result + c.args.output in
    let e = output-some c.args.plan.now c.args.output c.min-3.result q c.min-3.ensures (omega (arith, c.min.ensures, c.min-2.ensures)) c.if-min-output.false in
    rw (e.0, lt-ltb q 512 e.1, c.if-empty.true) (refl, refl)

pub returns : goal.returns
unfolding drain_left drain_checked verdict
returns c =
    let q : ℕ = c.min.result + c.min-2.result + c.args.output in
    let e = output-some c.args.plan.now c.args.output c.min-3.result q c.min-3.ensures (omega (arith, c.min.ensures, c.min-2.ensures)) c.if-min-output.false in
    let n = c.args.network.now in
    let a : ltb q 512 ≡ true = lt-ltb q 512 e.1 in
    let b : ltb 0 (get_or n.used q 0) ≡ true = lt-ltb 0 (get_or n.used q 0) (omega (arith, c.if-empty.false)) in
    rw (e.0, a, b) (refl, c.take.ensures ∙ rw (a, b) refl)
