-- So many of the entries passed so far are drains.
use mathlib.Core.Path.{◌≡◌}
use Prim.Native.Nat.{◌≤◌}
use lib.Dec.{eqb}
use lib.ListN.{length, take}
use Rattle.std.specs.List.{filter}
use Rattle.orders.proofs.count_drains.Given as goal

abbrev pub invariant-loop-kind : goal.invariant-loop-kind
invariant-loop-kind l = (l.found ≡ length (filter (λ kind. eqb kind 1) (take l.kind-index l.kinds))) × (l.found ≤ l.kind-index)
