-- `walker::walked` meets its contract. A step from below the largest number is one more, and the walk ends at the number asked or behind the sheet's end.
use mathlib.Core.Path.{◌≡◌, ◌∙◌, ap}
use Prim.Native.Nat.{◌/◌, min}
use native.Mathlib.Omega.{arith}
use lib.ListN.{length}
use Rattle.walker.specs.Walking.{stands_at}
use Rattle.walker.proofs.Stands.{stands_clipped}
use Rattle.walker.proofs.walked.Goals as goal

pub loop-preserved : goal.loop-preserved
loop-preserved c =
    let v = c.loop.invariant in
    let e = c.next-w.ensures in
    (ap (λ s. s.now) e.0 ∙ v.0, omega (arith, e.1))

pub returns : goal.returns
returns c =
    let s = c.args.sheet.now in
    let v = c.loop.invariant in
    let n : c.loop.w.number ≡ min c.args.steps (length s / 12) = omega arith in
    c.record.ensures ∙ ap (λ l. stands_at l c.loop.w.number) v.0 ∙ ap (λ i. stands_at s i) n ∙ stands_clipped s c.args.steps
