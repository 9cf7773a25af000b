-- `finishes::change_held` meets its contract. A turn changes one node's register.
use Rattle.std.proofs.Common.{◌≡◌}
use Rattle.base.specs.Lists.{fill}
use Rattle.finishes.specs.Finishes.{next_held}
use Rattle.finishes.proofs.change_held.Given as goal

abbrev pub invariant-loop-i : goal.invariant-loop-i
invariant-loop-i l = l.held ≡ fill (next_held l.plan.code l.plan.ra l.plan.part l.found.vals l.fin l.initial.held) l.i l.initial.held
