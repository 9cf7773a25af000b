-- `cut_trips::copy_cut` meets its contract. The image of what was read is the sheet.
use mathlib.Core.Path.{◌≡◌, sym, ◌∙◌, ap}
use lib.ListN.{length}
use Rattle.base.specs.Arrays.{Bytes}
use Rattle.layout.specs.Write.{wrote_as}
use Rattle.cut_sheet.specs.Reading.{cut_read}
use Rattle.cut_sheet.specs.Writing.{cut_wrote, cut_written}
use Rattle.cut_trips.proofs.Copying.{copy_done, copy-refused}
use Rattle.cut_trips.proofs.copy_cut.Goals as goal

pub returns-then-got-eq0 : goal.returns-then-got-eq0
returns-then-got-eq0 c =
    let a = c.args in
    let n = a.net.now in
    let s = a.sheet.now in
    let old = a.image.now in
    let r = c.read_cut-got in
    let bytes : Bytes s = λ i. (c.type_inv.sheet i).fits in
    let e : (cut_read n s).answer ≡ 0 = ap (λ x. x.answer) (sym r.ensures) ∙ c.if-got-eq0.true in
    let d = copy_done n s old bytes e in
    let w = c.write_cut.ensures in
    (w.0 ∙ ap (λ x. cut_wrote n x.cut (length old)) r.ensures ∙ d.0, w.1 ∙ ap (λ x. cut_written n x.cut old) r.ensures ∙ d.1)

pub returns-else-got-eq0 : goal.returns-else-got-eq0
returns-else-got-eq0 c =
    let a = c.args in
    let r = c.read_cut-got in
    let d = copy-refused a.net.now a.sheet.now a.image.now (λ z. c.if-got-eq0.false (ap (λ x. x.answer) r.ensures ∙ z)) in
    (c.wrote_for_c.ensures ∙ ap (λ x. wrote_as x.answer x.place 0) r.ensures ∙ d.0, d.1)
