-- `cycles::cycle::evaluate` meets its contract. The values are those of the pass so far.
use mathlib.Core.Path.{◌≡◌}
use Rattle.cycles.specs.Pass.{fields_of, computed}
use Rattle.cycles.proofs.cycle.evaluate.Given as goal

abbrev pub invariant-loop-i : goal.invariant-loop-i
invariant-loop-i l = (l.vals ≡ computed (fields_of l.net) l.i l.initial.vals)
