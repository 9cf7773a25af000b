-- `finishes::take_all` meets its contract. A turn takes from one queue and puts one flag off.
use Rattle.std.proofs.Common.{◌≡◌, ◌<◌, cond, false, get_or, ltb, ◌&&◌, refl, ap, ◌∙◌, lt-ltb, arith}
use Rattle.lanes.specs.Lanes.{take_used}
use Rattle.finishes.specs.Finishes.{part_in, take_if, cells_after, used_after, flags_after}
use Rattle.finishes.proofs.Turns.{used_turn, cells-turn, flags-turn}
use Rattle.finishes.proofs.take_all.Goals as goal
use Rattle.finishes.proofs.take_all.Goals.{then-fin-takes, else-fin-takes}

pub loop-q-init : goal.loop-q-init
unfolding cells_after used_after flags_after
loop-q-init c = (refl, refl, refl, refl, refl)

pub loop-q-preserved : goal.loop-q-preserved
loop-q-preserved c =
    let l = c.loop-q in
    let v = l.invariant in
    let into = c.args.plan.now.into in
    let fin = c.args.fin.now in
    let N = l.network in
    let k = c.if-fin-takes.network in
    let h : l.q < 512 = omega (arith, c.loop-q-test.true, c.min-q-end.ensures) in
    let t : (k.cells ≡ take_if (get_or fin (part_in into l.q) false) N.used N.cells l.q) × (k.used ≡ cond (get_or fin (part_in into l.q) false && ltb 0 (get_or N.used l.q 0)) (take_used N.used l.q) N.used) × (k.flag ≡ N.flag) × (k.held ≡ N.held) × (k.count ≡ N.count) =
    elim c.if-fin-takes.branch [
      | then-fin-takes w ↦
          let b = lt-ltb l.q 512 h in
          let e = w.take.ensures in
          let x = ap (λ n. n.cells) e in
          let y = ap (λ n. n.used) e in
          rw (w.network-is, w.if-fin-takes.true) (rw b at x, rw b at y, ap (λ n. n.flag) e, ap (λ n. n.held) e, ap (λ n. n.count) e)
      | else-fin-takes w ↦ rw (w.network-is, w.if-fin-takes.false) (refl, refl, refl, refl, refl)
    ] in (
      cells-turn _ _ l.q _ _ _ _ _ v.1 v.0 t.0,
      used_turn _ _ l.q _ _ _ v.1 t.1,
      rw t.2 (flags-turn _ _ l.q _ _ v.2),
      t.3 ∙ v.3,
      t.4 ∙ v.4,
    )
