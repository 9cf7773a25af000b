-- `plans::make_plan` meets its contract. Each place is its own node's, and the plan is the definition, field by field.
use Rattle.std.proofs.Common.{◌≡◌, min, refl, arith}
use Rattle.base.proofs.Fill.{fill_none, fill_step}
use Rattle.plans.proofs.Made.{made}
use Rattle.plans.proofs.make_plan.Goals as goal

pub loop-i-init : goal.loop-i-init
loop-i-init c = (fill_none _ _, fill_none _ _, fill_none _ _, fill_none _ _)

pub loop-i-preserved : goal.loop-i-preserved
loop-i-preserved c =
    let l = c.loop-i in
    let v = l.invariant in
    let u = c.operand_count-used.ensures in (
      fill_step _ l.i _ _ _ v.0 refl,
      fill_step _ l.i _ _ _ v.1 (rw (← u) c.first_at.ensures),
      fill_step _ l.i _ _ _ v.2 (rw (← u) c.read_at.ensures),
      fill_step _ l.i _ _ _ v.3 (rw (← u) c.read_at-in-loop-i.ensures),
    )

pub returns : goal.returns
returns c =
    let l = c.loop-i in
    let v = l.invariant in
    let e : l.i ≡ min c.args.net.now.nodes 1024 = omega (arith, c.min-i-end.ensures, l.auto.i-end, c.loop-i-test.false) in
    made c.args.net.now c.args.cut.now c.args.queues.now c.args.limit _ _ _ _ _ _ e c.count_rules.ensures v.0 v.1 v.2 v.3
