-- `net_trips::copy_net` meets its contract. The image of what was read is the sheet.
use mathlib.Core.Path.{◌≡◌, sym, ◌∙◌, ap}
use lib.ListN.{length}
use Rattle.base.specs.Arrays.{Bytes}
use Rattle.layout.specs.Write.{wrote_as}
use Rattle.net_sheet.specs.Reading.{net_read}
use Rattle.net_sheet.specs.Writing.{net_wrote, net_written}
use Rattle.net_trips.proofs.Copying.{copy_done, copy-refused}
use Rattle.net_trips.proofs.copy_net.Goals as goal

pub returns-then-got-eq0 : goal.returns-then-got-eq0
returns-then-got-eq0 c =
    let s = c.args.sheet.now in
    let old = c.args.image.now in
    let r = c.read_net-got in
    let bytes : Bytes s = λ i. (c.type_inv.sheet i).fits in
    let e : (net_read s).answer ≡ 0 = ap (λ x. x.answer) (sym r.ensures) ∙ c.if-got-eq0.true in
    let d = copy_done s old bytes e in
    let w = c.write_net.ensures in
    (w.0 ∙ ap (λ x. net_wrote x.net (length old)) r.ensures ∙ d.0, w.1 ∙ ap (λ x. net_written x.net old) r.ensures ∙ d.1)

pub returns-else-got-eq0 : goal.returns-else-got-eq0
returns-else-got-eq0 c =
    let s = c.args.sheet.now in
    let old = c.args.image.now in
    let r = c.read_net-got in
    let d = copy-refused s old (λ z. c.if-got-eq0.false (ap (λ x. x.answer) r.ensures ∙ z)) in
    (c.wrote_for_c.ensures ∙ ap (λ x. wrote_as x.answer x.place 0) r.ensures ∙ d.0, d.1)
