-- `puts::put_rules` meets its contract. The network, what is found and the two counters are the pass so far.
use Rattle.std.proofs.Common.{◌≡◌, ◌<◌, ◌+◌, ◌-◌, ◌≤◌, min, refl, sym, ◌∙◌, ap, le_refl, arith}
use Rattle.puts.specs.Puts.{Plan, Pass, mk_pass, rules_of, pass_of, evaluated, put_done, put_tried, puts_after}
use Rattle.puts.proofs.Tries.{put-fires, put-waits}
use Rattle.puts.proofs.Turns.{rules-same, puts_none, evaluated_is, puts-turn}
use Rattle.puts.proofs.put_rules.Goals as goal
use Rattle.puts.proofs.put_rules.Goals.{then-put_ready, else-put_ready}

pub loop-q-init : goal.loop-q-init
loop-q-init c = (omega arith, omega (arith, c.min-q-end.ensures), omega arith, refl, refl, puts_none _ _ _)

pub loop-q-preserved : goal.loop-q-preserved
loop-q-preserved c =
    let a = c.args in
    let P : Plan = rules_of a.plan.now a.network.now in
    let l = c.loop-q in
    let v = l.invariant in
    let f = c.evaluate.new.self in
    let e = c.evaluate.ensures in
    let k = c.if-put_ready in
    let q : l.q < 512 = omega (arith, v.1, c.loop-q-test.true) in
    let S : Pass = mk_pass l.seen l.fired l.network.cells l.network.used l.network.flag l.found.vals l.found.mets in
    let E : Pass = mk_pass c.max-seen.result l.fired l.network.cells l.network.used l.network.flag f.vals f.mets in
    let same = rules-same a.plan.now l.network a.network.now v.3 v.4 in
    let t : (k.fired ≤ l.fired + 1) × (k.network.held ≡ a.network.now.held) × (k.network.count ≡ a.network.now.count) × (mk_pass c.max-seen.result k.fired k.network.cells k.network.used k.network.flag k.found.vals k.found.mets ≡ put_tried P l.q E) =
    elim k.branch [
      | then-put_ready w ↦ rw (w.network-is, w.found-is, w.fired-is) (
        le_refl (l.fired + 1),
        w.put.ensures.1 ∙ v.3,
        w.put.ensures.2 ∙ v.4,
        w.put.ensures.0 c.max-seen.result l.fired ∙ ap (λ R. put_done R l.q E) same ∙ put-fires P l.q E _ q v.4 (sym c.put_ready.ensures ∙ w.if-put_ready.true),
      )
      | else-put_ready w ↦ rw (w.network-is, w.found-is, w.fired-is) (omega arith, v.3, v.4, put-waits P l.q E _ q v.4 (sym c.put_ready.ensures ∙ w.if-put_ready.false))
    ] in (
      omega (arith, v.0, l.auto.q, c.loop-q-test.true),
      v.1,
      omega (arith, t.0, v.2, l.auto.q),
      t.1,
      t.2,
      puts-turn P a.lo l.q _ _ _ _ _ l.auto.q v.5 c.needed_for-n.ensures (evaluated_is P _ _ _ S _ _ v.3 c.max-seen.ensures e.0 e.1) t.3,
    )

pub returns : goal.returns
returns c =
    let a = c.args in
    let P : Plan = rules_of a.plan.now a.network.now in
    let l = c.loop-q in
    let v = l.invariant in
    let n : l.q - a.lo ≡ min a.hi 512 - a.lo = omega (arith, v.0, l.auto.q, c.min-q-end.ensures, c.loop-q-test.false) in
    let S : Pass = mk_pass l.seen l.fired l.network.cells l.network.used l.network.flag l.found.vals l.found.mets in
    let s : S ≡ puts_after P a.lo (min a.hi 512 - a.lo) (pass_of a.network.now a.found.now) = rw (← n) v.5 in
    let e = c.evaluate-2.ensures in
    let d = evaluated_is P a.last _ _ S _ _ v.3 refl e.0 e.1 ∙ ap (λ x. evaluated P a.last x) s in
    (ap (λ x. x.fired) d, λ i. record { cells = (d i).cells; used = (d i).used; flag = (d i).flag; held = v.3 i; count = v.4 i }, ap (λ x. x.vals) d, ap (λ x. x.mets) d)
