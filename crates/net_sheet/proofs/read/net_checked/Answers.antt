-- `net_sheet::read::net_checked` meets its contract. Checks 1 and 2 are the reader's own; where they are good the netlist's checks answer.
use mathlib.Core.Path.{◌≡◌, refl, sym, ◌∙◌, ap}
use native.Mathlib.Omega.{arith}
use borrow.Author.Rules.{rules}
use borrow.Author.Tests.{leb-true}
use Rattle.std.specs.Prelude.{leb, length, true, ◌≤◌, Err}
use Rattle.base.specs.declared.Verdict.{Verdict}
use Rattle.base.specs.Checks.{answered, whole, verdict}
use Rattle.base.specs.Checks as checks
use Rattle.base.proofs.Verdicts.{verdict-good, verdict-bad, all-good, judged-err, judged_ok, whole_granted, whole_refused}
use Rattle.netlist.specs.Checks.{net_checks}
use Rattle.net_sheet.specs.Reading.{net_of, sheet_verdict, read_for_c}
use Rattle.net_sheet.proofs.Trailers.{passed, failed, net_answers, net_is, net-room}
use Rattle.net_sheet.proofs.Verdicts.{net_good, read_done, read-refused}
use Rattle.net_sheet.proofs.read.net_checked.Goals as goal

pub returns-in_err-passed : goal.returns-in_err-passed
returns-in_err-passed c =
    let s = c.args.sheet.now in
    let v = c.in_err-passed.field-0.0 in
    let e : c.from_residual.result ≡ Err v = search rules in
    let q : checks.passed 1 (whole (leb 16 (length s))) ≡ Err v = ap (λ r. checks.passed 1 r) (sym c.whole.ensures) ∙ sym c.passed.ensures ∙ c.in_err-passed.was {u = tt} in
    let k = whole_refused 1 _ v q in
    ap read_for_c (e ∙ ap Err k.1) ∙ sym (read-refused s (answered 1 0) (verdict-bad 1 0 _ _ (ap whole k.0)) (λ z. omega arith))

pub returns-in_default : goal.returns-in_default
returns-in_default c =
    let s = c.args.sheet.now in
    let g : leb 16 (length s) ≡ true = whole_granted 1 _ _ (ap (λ r. checks.passed 1 r) (sym c.whole.ensures) ∙ sym c.passed.ensures ∙ c.in_ok-passed.was {u = tt}) in
    let l : 16 ≤ length s = leb-true 16 (length s) g in
    let f = failed s l (sym c.in_default.is ∙ c.net_sections.ensures) in
    sym (read-refused s (answered 2 0) (verdict-good 1 _ _ (ap whole g) ∙ verdict-bad 2 0 _ _ (ap whole f)) (λ z. omega arith))

pub net_from-net-requires : goal.net_from-net-requires
net_from-net-requires c =
    let s = c.args.sheet.now in
    net-room s _ (passed s _ (sym c.in-Some.is ∙ c.net_sections.ensures))

pub returns-in_err-check_net : goal.returns-in_err-check_net
returns-in_err-check_net c =
    let s = c.args.sheet.now in
    let t = c.in-Some.s in
    let w = c.in_err-check_net.field-0.0 in
    let r : c.from_residual-in_err-check_net.result ≡ Err w = search rules in
    let p = passed s t (sym c.in-Some.is ∙ c.net_sections.ensures) in
    let m = c.net_from-net in
    let n : m.result ≡ net_of s = m.ensures ∙ net_is s t p in
    let e = judged-err (verdict (net_checks m.result)) w (sym c.check_net.ensures ∙ c.in_err-check_net.was {u = tt}) in
    let v : sheet_verdict s ≡ w = net_answers s t p ∙ ap (λ m. verdict (net_checks m)) (sym n) ∙ e.0 in
    ap read_for_c r ∙ sym (read-refused s w v (λ z. e.1 (ap (λ (x : Verdict). x.answer) e.0 ∙ z)))

pub returns : goal.returns
returns c =
    let s = c.args.sheet.now in
    let t = c.in-Some.s in
    let p = passed s t (sym c.in-Some.is ∙ c.net_sections.ensures) in
    let m = c.net_from-net in
    let n : m.result ≡ net_of s = m.ensures ∙ net_is s t p in
    let g = net_good m.result (judged_ok (verdict (net_checks m.result)) _ (sym c.check_net.ensures ∙ c.in_ok-check_net.was {u = tt})) in
    let v : sheet_verdict s ≡ answered 0 0 = net_answers s t p ∙ ap (λ m. verdict (net_checks m)) (sym n) ∙ all-good (net_checks m.result) g in
    rw n (sym (read_done s (answered 0 0) v refl))
