-- `net_sheet::write::put_checked` meets its contract. The netlist's verdict, then the room for an image whose length is known.
use mathlib.Core.Path.{◌≡◌, sym, ◌∙◌, ap}
use native.Mathlib.Omega.{arith}
use borrow.Author.Rules.{rules}
use borrow.Author.Tests.{leb-true, leb-false}
use Rattle.std.specs.Prelude.{leb, length, Err}
use Rattle.base.specs.declared.Verdict.{Verdict}
use Rattle.base.specs.Checks.{answered, verdict, passed, whole}
use Rattle.base.proofs.Verdicts.{judged-err, judged_ok, whole_granted, whole_refused}
use Rattle.layout.specs.Write.{wrote_as, wrote_for_c}
use Rattle.netlist.specs.Checks.{net_checks}
use Rattle.net_sheet.proofs.Verdicts.{net_good, net-within, write_kept, write_short, write_done, wrote-refused, wrote-done}
use Rattle.net_sheet.proofs.write.put_checked.Goals as goal

pub returns-in_err-check_net : goal.returns-in_err-check_net
returns-in_err-check_net c =
    let n = c.args.net.now in
    let v = c.in_err-check_net.field-0.0 in
    let e : c.from_residual.result ≡ Err v = search rules in
    let k = judged-err (verdict (net_checks n)) v (sym c.check_net.ensures ∙ c.in_err-check_net.was {u = tt}) in
    let bad = λ (z : v.answer ≡ 0). k.1 (ap (λ (w : Verdict). w.answer) k.0 ∙ z) in
    let r = wrote-refused n c.args.image.now v (write_kept n _ v k.0 bad) bad in
    (ap wrote_for_c e ∙ sym r.0, sym r.1)

pub sheet_size-size-requires : goal.sheet_size-size-requires
sheet_size-size-requires c =
    let n = c.args.net.now in
    let w = net-within n (net_good n (judged_ok _ _ (sym c.check_net.ensures ∙ c.in_ok-check_net.was {u = tt}))) in
    (w.nodes, w.outputs, w.labels)

pub returns-in_err-passed : goal.returns-in_err-passed
returns-in_err-passed c =
    let n = c.args.net.now in
    let v = c.in_err-passed.field-0.0 in
    let e : c.from_residual-in_err-passed.result ≡ Err v = search rules in
    let g = net_good n (judged_ok _ _ (sym c.check_net.ensures ∙ c.in_ok-check_net.was {u = tt})) in
    let q : passed 16 (whole (leb c.sheet_size-size.result (length c.args.image.now))) ≡ Err v =
    ap (λ r. passed 16 r) (sym c.whole.ensures) ∙ sym c.passed.ensures ∙ c.in_err-passed.was {u = tt} in
    let k = whole_refused 16 _ v q in
    let r = wrote-refused n c.args.image.now (answered 16 0) (write_short n _ g (rw c.sheet_size-size.ensures.0 at (leb-false _ _ k.0))) (λ z. omega arith) in
    (ap wrote_for_c (e ∙ ap Err k.1) ∙ sym r.0, sym r.1)

pub put_net-requires : goal.put_net-requires
put_net-requires c =
    let n = c.args.net.now in
    let w = net-within n (net_good n (judged_ok _ _ (sym c.check_net.ensures ∙ c.in_ok-check_net.was {u = tt}))) in
    let room = leb-true _ _ (whole_granted 16 _ _ (ap (λ r. passed 16 r) (sym c.whole.ensures) ∙ sym c.passed.ensures ∙ c.in_ok-passed.was {u = tt})) in
    (w.nodes, w.outputs, w.labels, omega arith)

pub returns : goal.returns
returns c =
    let n = c.args.net.now in
    let g = net_good n (judged_ok _ _ (sym c.check_net.ensures ∙ c.in_ok-check_net.was {u = tt})) in
    let room = leb-true _ _ (whole_granted 16 _ _ (ap (λ r. passed 16 r) (sym c.whole.ensures) ∙ sym c.passed.ensures ∙ c.in_ok-passed.was {u = tt})) in
    let r = wrote-done n c.args.image.now (write_done n _ g (rw c.sheet_size-size.ensures.0 at room)) in
    (ap (λ m. wrote_as 0 0 m) c.sheet_size-size.ensures.0 ∙ sym r.0, c.put_net.ensures ∙ sym r.1)
