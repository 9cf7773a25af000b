-- `plans::make_plan` meets its contract. Each place is its own node's.
use Rattle.std.proofs.Common.{◌≡◌}
use Rattle.base.specs.Lists.{fill}
use Rattle.plans.specs.Plans.{spot_of, first_spot, join_of}
use Rattle.plans.proofs.make_plan.Given as goal

abbrev pub invariant-loop-i : goal.invariant-loop-i
invariant-loop-i l =
    (l.join ≡ fill (join_of l.net.width l.net.b) l.i l.initial.join)
    × (l.ra ≡ fill (first_spot l.net.code l.net.a l.queues.a l.queues.input) l.i l.initial.ra)
    × (l.rb ≡ fill (spot_of l.net.code l.net.b l.queues.b 1) l.i l.initial.rb)
    × (l.rc ≡ fill (spot_of l.net.code l.net.c l.queues.c 2) l.i l.initial.rc)
