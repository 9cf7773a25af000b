-- `cycle_run::lists::numbers` is safe: the list has as much room as there was, and no more is put.
use Prim.Native.Nat.{◌≤◌}
use lib.ListN.{length}
use Rattle.cycle_run.proofs.lists.numbers.Given as goal

abbrev pub invariant-loop-word : goal.invariant-loop-word
invariant-loop-word l = l.n ≤ length l.list
