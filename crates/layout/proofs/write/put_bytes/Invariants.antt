-- `layout::write::put_bytes` meets its contract. The image is the old one with the first j bytes pasted in.
use mathlib.Core.Path.{◌≡◌}
use lib.Seq.{paste}
use Rattle.layout.proofs.write.put_bytes.Given as goal

abbrev pub invariant-loop-j : goal.invariant-loop-j
invariant-loop-j l = l.image ≡ paste l.initial.image l.at l.from l.j
