-- `finishes::count_cycles` meets its contract. A turn counts for one part.
use Rattle.std.proofs.Common.{◌≡◌}
use Rattle.base.specs.Lists.{fill}
use Rattle.finishes.specs.Finishes.{next_count}
use Rattle.finishes.proofs.count_cycles.Given as goal

abbrev pub invariant-loop-p : goal.invariant-loop-p
invariant-loop-p l = l.count ≡ fill (next_count l.fin l.initial.count) l.p l.initial.count
