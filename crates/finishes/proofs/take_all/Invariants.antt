-- `finishes::take_all` meets its contract. A turn takes from one queue and puts one flag off.
use Rattle.std.proofs.Common.{◌≡◌}
use Rattle.finishes.specs.Finishes.{cells_after, used_after, flags_after}
use Rattle.finishes.proofs.take_all.Given as goal

abbrev pub invariant-loop-q : goal.invariant-loop-q
invariant-loop-q l =
    (l.network.cells ≡ cells_after l.plan.into l.fin l.q l.initial.network.used l.initial.network.cells)
    × (l.network.used ≡ used_after l.plan.into l.fin l.q l.initial.network.used)
    × (l.network.flag ≡ flags_after l.plan.from l.fin l.q l.initial.network.flag)
    × (l.network.held ≡ l.initial.network.held)
    × (l.network.count ≡ l.initial.network.count)
