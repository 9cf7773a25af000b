-- `finishes::ready` meets its contract. A turn marks one part, and then a turn looks at one queue.
use Rattle.std.proofs.Common.{◌≡◌, ◌-◌, ◌≤◌}
use Rattle.finishes.specs.Finishes.{below, cleared}
use Rattle.finishes.proofs.ready.Given as goal

abbrev pub invariant-loop-p : goal.invariant-loop-p
invariant-loop-p l = (l.p - l.lo ≤ l.p-end - l.lo) × (l.fin ≡ below l.network.count l.plan.limit l.lo (l.p - l.lo) l.initial.fin)

abbrev pub invariant-loop-q : goal.invariant-loop-q
invariant-loop-q l = l.fin ≡ cleared l.plan.from l.plan.into l.network.flag l.network.used l.q l.initial.fin
