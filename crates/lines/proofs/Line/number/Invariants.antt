-- The loop keeps: the decimals that are left and the bytes that are there are the whole, and there is room.
use mathlib.Core.List.{◌++◌}
use Prim.Native.Nat.{◌+◌, ◌≤◌}
use Rattle.std.specs.Fmt.{decimal}
use lib.ListN.{length, drop}
use mathlib.Core.Path.{◌≡◌}
use Rattle.lines.proofs.Line.number.Given as goal

abbrev pub invariant-loop-rest : goal.invariant-loop-rest
invariant-loop-rest l =
    (l.self.from ≤ l.initial.self.from) × (length (decimal l.rest) + l.initial.self.from ≤ l.self.from + 20)
    × (decimal l.rest ++ drop l.self.from l.self.bytes ≡ decimal l.n ++ drop l.initial.self.from l.initial.self.bytes)

abbrev pub decreases-loop-rest : goal.decreases-loop-rest
decreases-loop-rest l = l.rest
