-- `layout::write::put_bytes` meets its contract. The image is the old one with the first j bytes pasted in.
use Prim.Native.Nat.{◌+◌}
use native.Mathlib.Omega.{arith}
use native.Mathlib.Numerals.{add-one}
use borrow.Author.Tests.{le-leb}
use lib.Seq.{paste-zero, paste-suc, length-paste}
use lib.ListN.{length}
use Rattle.base.proofs.Patch.{paste-patch}
use Rattle.layout.proofs.write.put_bytes.Goals as goal

pub loop-j-init : goal.loop-j-init
loop-j-init c = paste-zero _ c.args.at c.args.from.now

pub bounds-image-at : goal.bounds-image-at
bounds-image-at c =
    let a = c.args in
    rw (c.loop-j.invariant, length-paste a.image.now a.at a.from.now c.loop-j.j (omega arith) (omega arith)) (omega arith)

pub loop-j-preserved : goal.loop-j-preserved
loop-j-preserved c =
    let a = c.args in
    rw (c.loop-j.invariant, add-one c.loop-j.j) (paste-suc a.image.now a.at a.from.now c.loop-j.j 0 (omega arith) (omega arith))

pub returns-after-loop-j : goal.returns-after-loop-j
returns-after-loop-j c =
    let a = c.args in
    rw (c.loop-j.invariant, le-leb (a.at + length a.from.now) (length a.image.now) (omega arith)) (paste-patch a.image.now a.at a.from.now c.loop-j.j (omega arith))
