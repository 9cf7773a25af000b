-- `cut_sheet::write::put_checked` meets its contract. The cut's verdict, then the room for an image whose length is known.
use mathlib.Core.Path.{◌≡◌, sym, ◌∙◌, ap}
use native.Mathlib.Omega.{arith}
use borrow.Author.Rules.{rules}
use borrow.Author.Tests.{leb-true, leb-false}
use Rattle.std.specs.Prelude.{leb, length, ◌+◌, ◌<◌, Err}
use Rattle.base.specs.Checks.{answered, passed, whole}
use Rattle.base.proofs.Verdicts.{whole_granted, whole_refused}
use Rattle.layout.specs.Write.{wrote_as, wrote_for_c}
use Rattle.cut.proofs.Within.{cut_within}
use Rattle.cut_sheet.proofs.Images.{Long, image-length}
use Rattle.cut_sheet.proofs.Verdicts.{checked-bad, checked-good, write_kept, write_short, write_done, wrote-refused, wrote-done}
use Rattle.cut_sheet.proofs.write.put_checked.Goals as goal

pub returns-in_err-check_cut : goal.returns-in_err-check_cut
returns-in_err-check_cut c =
    let n = c.args.net.now in
    let t = c.args.cut.now in
    let v = c.in_err-check_cut.field-0.0 in
    let e : c.from_residual.result ≡ Err v = search rules in
    let k = checked-bad n t v (sym (c.in_err-check_cut.was {u = tt}) ∙ c.check_cut.ensures) in
    let r = wrote-refused n t c.args.image.now v (write_kept n t _ _ k.0 k.1) k.1 in
    (ap wrote_for_c e ∙ sym r.0, sym r.1)

pub overflow_add-size : goal.overflow_add-size
overflow_add-size c =
    let n = c.args.net.now in
    let t = c.args.cut.now in
    let g = (checked-good n t c.in_ok-check_cut.field-0 (sym (c.in_ok-check_cut.was {u = tt}) ∙ c.check_cut.ensures)).1 in
    let w = cut_within n t g in
    omega arith

pub overflow_add-size-2 : goal.overflow_add-size-2
overflow_add-size-2 c =
    let n = c.args.net.now in
    let t = c.args.cut.now in
    let g = (checked-good n t c.in_ok-check_cut.field-0 (sym (c.in_ok-check_cut.was {u = tt}) ∙ c.check_cut.ensures)).1 in
    let w = cut_within n t g in
    omega arith

pub overflow_add-size-3 : goal.overflow_add-size-3
overflow_add-size-3 c =
    let n = c.args.net.now in
    let t = c.args.cut.now in
    let g = (checked-good n t c.in_ok-check_cut.field-0 (sym (c.in_ok-check_cut.was {u = tt}) ∙ c.check_cut.ensures)).1 in
    let w = cut_within n t g in
    omega arith

pub returns-in_err-passed : goal.returns-in_err-passed
returns-in_err-passed c =
    let n = c.args.net.now in
    let t = c.args.cut.now in
    let g = (checked-good n t c.in_ok-check_cut.field-0 (sym (c.in_ok-check_cut.was {u = tt}) ∙ c.check_cut.ensures)).1 in
    let w = cut_within n t g in
    let p : length t.part ≡ 1024 = search rules in
    let d : length t.depth ≡ 512 = search rules in
    let l : length t.label ≡ 4096 = search rules in
    let long : Long t = record { part = omega arith; depth = omega arith; label = omega arith } in
    let i = image-length t long in
    let v = c.in_err-passed.field-0.0 in
    let e : c.from_residual-in_err-passed.result ≡ Err v = search rules in
    let q : passed 16 (whole (leb (t.nodes + t.queues + t.labels + 16) (length c.args.image.now))) ≡ Err v =
    ap (λ r. passed 16 r) (sym c.whole.ensures) ∙ sym c.passed.ensures ∙ c.in_err-passed.was {u = tt} in
    let k = whole_refused 16 _ v q in
    let less : length c.args.image.now < t.nodes + t.queues + t.labels + 16 = leb-false _ _ k.0 in
    let r = wrote-refused n t c.args.image.now (answered 16 0) (write_short n t (length c.args.image.now) g (omega arith)) (λ z. omega arith) in
    (ap wrote_for_c (e ∙ ap Err k.1) ∙ sym r.0, sym r.1)

pub put_cut-requires : goal.put_cut-requires
put_cut-requires c =
    let n = c.args.net.now in
    let t = c.args.cut.now in
    let g = (checked-good n t c.in_ok-check_cut.field-0 (sym (c.in_ok-check_cut.was {u = tt}) ∙ c.check_cut.ensures)).1 in
    let w = cut_within n t g in
    let room = leb-true _ _ (whole_granted 16 _ _ (ap (λ r. passed 16 r) (sym c.whole.ensures) ∙ sym c.passed.ensures ∙ c.in_ok-passed.was {u = tt})) in
    (w.nodes, w.queues, w.labels, omega arith)

pub returns : goal.returns
returns c =
    let n = c.args.net.now in
    let t = c.args.cut.now in
    let g = (checked-good n t c.in_ok-check_cut.field-0 (sym (c.in_ok-check_cut.was {u = tt}) ∙ c.check_cut.ensures)).1 in
    let w = cut_within n t g in
    let p : length t.part ≡ 1024 = search rules in
    let d : length t.depth ≡ 512 = search rules in
    let l : length t.label ≡ 4096 = search rules in
    let long : Long t = record { part = omega arith; depth = omega arith; label = omega arith } in
    let i = image-length t long in
    let room = leb-true _ _ (whole_granted 16 _ _ (ap (λ r. passed 16 r) (sym c.whole.ensures) ∙ sym c.passed.ensures ∙ c.in_ok-passed.was {u = tt})) in
    let r = wrote-done n t c.args.image.now (write_done n t (length c.args.image.now) g (omega arith)) in
    (ap (λ m. wrote_as 0 0 m) (sym i) ∙ sym r.0, c.put_cut.ensures ∙ sym r.1)
