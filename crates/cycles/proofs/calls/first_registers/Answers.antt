-- `cycles::calls::first_registers` meets its contract. The list is filled so far from the first values.
use Rattle.std.proofs.Common.{◌≡◌, refl, min, arith}
use Rattle.base.proofs.Fill.{fill_none, fill_step, fill_clipped}
use Rattle.cycles.specs.Steps.{first_registers}
use Rattle.cycles.proofs.calls.first_registers.Goals as goal

pub loop-i-init : goal.loop-i-init
loop-i-init c = fill_none _ _

pub loop-i-preserved : goal.loop-i-preserved
loop-i-preserved c = fill_step _ _ _ _ _ c.loop-i.invariant c.next_of.ensures

pub returns : goal.returns
unfolding first_registers
returns c =
    let l = c.loop-i in
    let e : l.i ≡ min c.args.net.now.nodes 1024 = omega (arith, l.auto.i-end, c.min-i-end.ensures, c.loop-i-test.false) in
    fill_clipped _ _ 1024 _ _ _ l.invariant e refl
