-- `cycles::cycle::put_values` meets its contract. The list is filled so far, from its place on.
use mathlib.Core.Path.{◌≡◌}
use lib.ListN.{get_or}
use Rattle.cycles.specs.Pass.{inside, fill_from}
use Rattle.cycles.proofs.cycle.put_values.Given as goal

abbrev pub invariant-loop-j : goal.invariant-loop-j
invariant-loop-j l = (l.outs ≡ fill_from l.at (λ m. get_or l.vals (inside (get_or l.net.output m 0)) 0) l.j l.initial.outs)
