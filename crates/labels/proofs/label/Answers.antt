-- `labels::label` meets its contract. The spot lies within its sheet, and the part that is handed back is there.
use mathlib.Core.Path.{◌≡◌, refl}
use Prim.Native.Nat.{◌+◌, ◌-◌}
use native.Mathlib.Omega.{arith}
use Rattle.labels.specs.Spots.{of_sheet}
use Rattle.labels.proofs.Spots.{within_sheet}
use Rattle.labels.proofs.label.Goals as goal
use Rattle.labels.proofs.label.Goals.{then-spot, else-spot}

pub overflow_add-result : goal.overflow_add-result
overflow_add-result c =
    let p = c.label_spot-spot in
    elim c.if-spot.branch [
      | then-spot w ↦
          let h = within_sheet c.args.net c.args.cut c.args.cut c.args.node p.result p.ensures (rw w.if-spot.true) in
          omega (arith, h)
      | else-spot w ↦
          let h = within_sheet c.args.net c.args.cut c.args.net c.args.node p.result p.ensures (rw w.if-spot.false) in
          omega (arith, h)
    ]

pub slice_bounds-result-end : goal.slice_bounds-result-end
slice_bounds-result-end c =
    let p = c.label_spot-spot in
    let e : c.if-spot.sheet ≡ of_sheet p.result c.args.net c.args.cut = elim c.if-spot.branch [ then-spot w ↦ rw w.if-spot.true w.sheet-is | else-spot w ↦ rw w.if-spot.false w.sheet-is ] in
    let h = within_sheet c.args.net c.args.cut c.if-spot.sheet c.args.node p.result p.ensures e in
    omega (arith, h)

pub returns : goal.returns
returns c =
    let p = c.label_spot-spot in
    let e : c.if-spot.sheet ≡ of_sheet p.result c.args.net c.args.cut = elim c.if-spot.branch [ then-spot w ↦ rw w.if-spot.true w.sheet-is | else-spot w ↦ rw w.if-spot.false w.sheet-is ] in
    let n : p.result.from + p.result.length - p.result.from ≡ p.result.length = omega arith in
    rw (← p.ensures, ← e, n) (refl, refl, refl)
