-- `rounds::round` meets its contract: all put rules, then all Finishes, and the firings of both.
use mathlib.Core.Path.{ap₂}
use Prim.Native.Nat.{◌+◌}
use native.Mathlib.Omega.{arith}
use Rattle.spots.specs.Rounds.{all_puts, round_on, fired_on}
use Rattle.rounds.proofs.Left.{left-finishes, puts_bounded, finishes_bounded}
use Rattle.rounds.proofs.round.Goals as goal

pub overflow_add-result : goal.overflow_add-result
overflow_add-result c =
    let P = c.args.plan.now in
    let L = c.args.network.now in
    let t = c.try_puts-puts.ensures in
    let f = left-finishes P L (all_puts P L) 0 P.parts _ _ _ _ _ t c.finish_rules.ensures in
    omega (arith, t.0, f.0, puts_bounded P L P.inputs P.queues P.nodes, finishes_bounded P L (all_puts P L) 0 P.parts)

pub returns : goal.returns
unfolding round_on fired_on
returns c =
    let P = c.args.plan.now in
    let L = c.args.network.now in
    let t = c.try_puts-puts.ensures in
    let f = left-finishes P L (all_puts P L) 0 P.parts _ _ _ _ _ t c.finish_rules.ensures in
    (ap₂ ◌+◌ t.0 f.0, f.1)
