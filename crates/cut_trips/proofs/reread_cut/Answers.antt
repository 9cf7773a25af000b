-- `cut_trips::reread_cut` meets its contract. What was read back is the cut that was written; its values are of their types because it was handed over.
use mathlib.Core.Path.{◌≡◌, sym, ◌∙◌, ap}
use Prim.Native.Nat.{◌≤◌}
use native.Mathlib.Omega.{arith}
use borrow.Author.Rules.{rules}
use mir.Syntax.{w8}
use mir.Val.{Fits}
use lib.ListN.{length, get_or, take}
use lib.Seq.{length-take-le}
use Rattle.queues.specs.Found.{no_queues}
use Rattle.cut.specs.Cuts.{no_cut}
use Rattle.cut_sheet.specs.Reading.{cut_read}
use Rattle.cut_sheet.specs.Writing.{cut_wrote}
use Rattle.cut_trips.specs.Typed.{Typed}
use Rattle.cut_trips.proofs.Rereading.{reread-refused, wrote, reread-done}
use Rattle.cut_trips.proofs.reread_cut.Goals as goal

-- a cut that is handed over has values of its types
pub slice_bounds-read_cut-end : goal.slice_bounds-read_cut-end
slice_bounds-read_cut-end c =
    let a = c.args in
    let n = a.net.now in
    let x = a.cut.now in
    let old = a.image.now in
    let w = c.write_cut-wrote in
    let size : w.result.length ≡ (cut_wrote n x (length old)).length = ap (λ y. y.length) w.ensures.0 in
    let e : (cut_wrote n x (length old)).answer ≡ 0 = ap (λ y. y.answer) (sym w.ensures.0) ∙ c.if-wrote-eq0.true in
    let d = wrote n x old e in
    let h : w.result.length ≤ length w.new.image = omega (arith, d.size, d.room, w.auto.image) in
    h

pub slice_bounds-read_cut-end-then-wrote-eq0 : goal.slice_bounds-read_cut-end-then-wrote-eq0
slice_bounds-read_cut-end-then-wrote-eq0 c =
    let a = c.args in
    let n = a.net.now in
    let x = a.cut.now in
    let old = a.image.now in
    let w = c.write_cut-wrote in
    let size : w.result.length ≡ (cut_wrote n x (length old)).length = ap (λ y. y.length) w.ensures.0 in
    let e : (cut_wrote n x (length old)).answer ≡ 0 = ap (λ y. y.answer) (sym w.ensures.0) ∙ c.if-wrote-eq0.true in
    let d = wrote n x old e in
    let h : w.result.length ≤ length w.new.image = omega (arith, d.size, d.room, w.auto.image) in
    sym (length-take-le w.result.length w.new.image h)

pub returns-then-wrote-eq0 : goal.returns-then-wrote-eq0
returns-then-wrote-eq0 c =
    let t : Typed c.args.cut.now = record {
      part = record { long = search rules; each = λ i. (let f : Fits w8 (get_or c.args.cut.now.part i 0) = search rules in f.fits) };
      depth = record { long = search rules; each = λ i. (let f : Fits w8 (get_or c.args.cut.now.depth i 0) = search rules in f.fits) };
      label = record { long = search rules; each = λ i. (let f : Fits w8 (get_or c.args.cut.now.label i 0) = search rules in f.fits) };
    } in
    let a = c.args in
    let n = a.net.now in
    let x = a.cut.now in
    let old = a.image.now in
    let w = c.write_cut-wrote in
    let size : w.result.length ≡ (cut_wrote n x (length old)).length = ap (λ y. y.length) w.ensures.0 in
    let e : (cut_wrote n x (length old)).answer ≡ 0 = ap (λ y. y.answer) (sym w.ensures.0) ∙ c.if-wrote-eq0.true in (
      c.read_cut.ensures
          ∙ ap (λ k. cut_read n (take k w.new.image)) size
          ∙ ap (λ l. cut_read n (take (cut_wrote n x (length old)).length l)) w.ensures.1
          ∙ reread-done n x old t e,
      w.ensures.1,
    )

pub returns-else-wrote-eq0 : goal.returns-else-wrote-eq0
returns-else-wrote-eq0 c =
    let a = c.args in
    let n = a.net.now in
    let x = a.cut.now in
    let old = a.image.now in
    let w = c.write_cut-wrote in (
      c.read_for_c.ensures
          ∙ (ap (λ y. record { answer = y.answer; place = y.place; cut = no_cut; queues = no_queues }) w.ensures.0 ∙ reread-refused n x old (λ z. c.if-wrote-eq0.false (ap (λ y. y.answer) w.ensures.0 ∙ z))),
      w.ensures.1,
    )
