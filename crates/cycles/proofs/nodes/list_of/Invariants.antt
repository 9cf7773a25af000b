-- `cycles::nodes::list_of` meets its contract. The nodes passed so far that have the code stand at their places, and the next goes to place j; what is stored there before one is found is written over.
use mathlib.Core.Path.{◌≡◌}
use Rattle.cycles.specs.Listed.{found_in, Listed}
use Rattle.cycles.proofs.nodes.list_of.Given as goal

abbrev pub invariant-loop-i : goal.invariant-loop-i
invariant-loop-i l = (l.j ≡ found_in l.kind l.code l.i) × Listed l.kind l.code l.i l.list
