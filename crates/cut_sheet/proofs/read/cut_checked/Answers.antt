-- `cut_sheet::read::cut_checked` meets its contract. Checks 3 and 7 are the reader's own; where they are good the cut's checks answer.
use mathlib.Core.Path.{◌≡◌, sym, ◌∙◌, ap}
use native.Mathlib.Omega.{arith}
use borrow.Author.Rules.{rules}
use Rattle.std.specs.Prelude.{leb, Err}
use Rattle.base.specs.Checks.{answered, passed, whole}
use Rattle.base.proofs.Verdicts.{all-good, whole_granted, whole_refused}
use Rattle.cut.specs.Checks.{cut_checks, checked, settled}
use Rattle.cut_sheet.specs.Reading.{cut_of, read_for_c}
use Rattle.cut_sheet.proofs.Frames.{frame_none, frame_is, cut_is, cut_room, cut_answers, numbers-bad, frame-bad}
use Rattle.cut_sheet.proofs.Verdicts.{read_done, read-refused, checked-bad, checked-good}
use Rattle.cut_sheet.proofs.read.cut_checked.Goals as goal

pub returns-in_err-passed : goal.returns-in_err-passed
returns-in_err-passed c =
    let a = c.args in
    let v = c.in_err-passed.field-0.0 in
    let e : c.from_residual.result ≡ Err v = search rules in
    let q : passed 3 (whole c.numbers_good.result) ≡ Err v = ap (λ r. passed 3 r) (sym c.whole.ensures) ∙ sym c.passed.ensures ∙ c.in_err-passed.was {u = tt} in
    let k = whole_refused 3 _ v q in
    ap read_for_c (e ∙ ap Err k.1) ∙ sym (read-refused a.net.now a.sheet.now (answered 3 0) (numbers-bad a.net.now a.sheet.now (sym c.numbers_good.ensures ∙ k.0)) (λ z. omega arith))

pub returns-in_default : goal.returns-in_default
returns-in_default c =
    let a = c.args in
    let g = (sym c.numbers_good.ensures ∙ whole_granted 3 _ _ (ap (λ r. passed 3 r) (sym c.whole.ensures) ∙ sym c.passed.ensures ∙ c.in_ok-passed.was {u = tt})) in
    sym (read-refused a.net.now a.sheet.now (answered 7 0) (frame-bad a.net.now a.sheet.now g (frame_none a.sheet.now c.in_default.ensures)) (λ z. omega arith))

pub returns-in_err-passed-2 : goal.returns-in_err-passed-2
returns-in_err-passed-2 c =
    let a = c.args in
    let v = c.in_err-passed-2.field-0.0 in
    let e : c.from_residual-in_err-passed-2.result ≡ Err v = search rules in
    let g = (sym c.numbers_good.ensures ∙ whole_granted 3 _ _ (ap (λ r. passed 3 r) (sym c.whole.ensures) ∙ sym c.passed.ensures ∙ c.in_ok-passed.was {u = tt})) in
    let q : passed 7 (whole (leb c.in-Some.s.labels 4096)) ≡ Err v = ap (λ r. passed 7 r) (sym c.whole-2.ensures) ∙ sym c.passed-2.ensures ∙ c.in_err-passed-2.was {u = tt} in
    let k = whole_refused 7 _ v q in
    let f = frame_is a.sheet.now c.in-Some.s c.in-Some.ensures ∙ k.0 in
    ap read_for_c (e ∙ ap Err k.1) ∙ sym (read-refused a.net.now a.sheet.now (answered 7 0) (frame-bad a.net.now a.sheet.now g f) (λ z. omega arith))

pub cut_from-cut-requires : goal.cut_from-cut-requires
cut_from-cut-requires c = cut_room c.args.sheet.now c.in-Some.s c.in-Some.ensures

pub returns-in_err-queues : goal.returns-in_err-queues
returns-in_err-queues c =
    let n = c.args.net.now in
    let s = c.args.sheet.now in
    let v = c.in_err-queues.field-0.0 in
    let e : c.from_residual-in_err-queues.result ≡ Err v = search rules in
    let f = frame_is s c.in-Some.s c.in-Some.ensures ∙ (whole_granted 7 _ _ (ap (λ r. passed 7 r) (sym c.whole-2.ensures) ∙ sym c.passed-2.ensures ∙ c.in_ok-passed-2.was {u = tt})) in
    let is : c.cut_from-cut.result ≡ cut_of s = c.cut_from-cut.ensures ∙ cut_is s c.in-Some.s c.in-Some.ensures in
    let k = checked-bad n (cut_of s) v (sym (c.in_err-queues.was {u = tt}) ∙ c.check_cut.ensures ∙ ap (λ m. settled (checked n m)) is) in
    ap read_for_c e ∙ sym (read-refused n s v (cut_answers n s f ∙ k.0) k.1)

pub returns : goal.returns
returns c =
    let n = c.args.net.now in
    let s = c.args.sheet.now in
    let f = frame_is s c.in-Some.s c.in-Some.ensures ∙ (whole_granted 7 _ _ (ap (λ r. passed 7 r) (sym c.whole-2.ensures) ∙ sym c.passed-2.ensures ∙ c.in_ok-passed-2.was {u = tt})) in
    let is : c.cut_from-cut.result ≡ cut_of s = c.cut_from-cut.ensures ∙ cut_is s c.in-Some.s c.in-Some.ensures in
    let k = checked-good n (cut_of s) c.in_ok-queues.queues (sym (c.in_ok-queues.was {u = tt}) ∙ c.check_cut.ensures ∙ ap (λ m. settled (checked n m)) is) in
    let e = cut_answers n s f ∙ all-good (cut_checks n (cut_of s)) k.1 in
    rw (is, k.0) (sym (read_done n s (ap (λ x. x.answer) e)))
