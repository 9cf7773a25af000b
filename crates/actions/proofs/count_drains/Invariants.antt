-- So many of the actions passed so far are drains.
use mathlib.Core.Path.{◌≡◌}
use Prim.Native.Nat.{◌≤◌}
use lib.Dec.{eqb}
use lib.ListN.{length, take}
use Rattle.std.specs.List.{filter}
use Rattle.actions.proofs.count_drains.Given as goal

abbrev pub invariant-loop-a : goal.invariant-loop-a
invariant-loop-a l = (l.found ≡ length (filter (λ a. eqb a.kind 1) (take l.a-index l.actions))) × (l.found ≤ l.a-index)
