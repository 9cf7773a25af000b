-- `puts::put_rules` meets its contract. The network, what is found and the two counters are the pass so far.
use Rattle.std.proofs.Common.{◌≡◌, ◌-◌, ◌≤◌}
use Rattle.puts.specs.Puts.{mk_pass, rules_of, pass_of, puts_after}
use Rattle.puts.proofs.put_rules.Given as goal

abbrev pub invariant-loop-q : goal.invariant-loop-q
invariant-loop-q l =
    (l.q - l.lo ≤ l.q-end - l.lo)
    × (l.q-end ≤ 512)
    × (l.fired ≤ l.q - l.lo)
    × (l.network.held ≡ l.initial.network.held)
    × (l.network.count ≡ l.initial.network.count)
    × (mk_pass l.seen l.fired l.network.cells l.network.used l.network.flag l.found.vals l.found.mets ≡ puts_after (rules_of l.plan l.initial.network) l.lo (l.q - l.lo) (pass_of l.initial.network l.initial.found))
