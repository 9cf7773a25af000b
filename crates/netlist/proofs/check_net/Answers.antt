-- `netlist::check_net` meets its contract. The checks in their order: each return is the first that is not good.
use mathlib.Core.Path.{◌≡◌, sym, ◌∙◌, ap}
use Prim.Native.Nat.{◌≤◌}
use borrow.Author.Rules.{rules}
use lib.Dec.{lit<}
use lib.ListN.{length}
use Rattle.std.specs.Prelude.{Err, None}
use Rattle.base.specs.Checks.{whole, passed}
use Rattle.base.proofs.Verdicts.{judged-rest, judged-last, asked-bad, asked-good}
use Rattle.netlist.specs.Checks.{numbers_good, records_check, outputs_check}
use Rattle.netlist.proofs.Outputs.{outputs_found}
use Rattle.netlist.proofs.check_net.Goals as goal

pub returns-in_err-passed : goal.returns-in_err-passed
returns-in_err-passed c =
    let e : c.from_residual.result ≡ Err c.in_err-passed.field-0.0 = search rules in
    let bad : passed 3 (whole (numbers_good c.args.net.now)) ≡ Err c.in_err-passed.field-0.0 =
    ap (λ b. passed 3 (whole b)) (sym c.numbers_good.ensures) ∙ ap (λ r. passed 3 r) (sym c.whole.ensures) ∙ sym c.passed.ensures ∙ c.in_err-passed.was {u = tt} in
    e ∙ sym (asked-bad 3 _ _ _ (lit< tt) bad)

pub returns-in_err-passed-2 : goal.returns-in_err-passed-2
returns-in_err-passed-2 c =
    let n = c.args.net.now in
    let e : c.from_residual-in_err-passed-2.result ≡ Err c.in_err-passed-2.field-0.0 = search rules in
    let numbers : whole (numbers_good n) ≡ None =
    asked-good 3 _ _ (ap (λ b. passed 3 (whole b)) (sym c.numbers_good.ensures) ∙ ap (λ r. passed 3 r) (sym c.whole.ensures) ∙ sym c.passed.ensures ∙ c.in_ok-passed.was {u = tt}) in
    let bad : passed 4 (records_check n) ≡ Err c.in_err-passed-2.field-0.0 = ap (λ r. passed 4 r) (sym c.bad_record.ensures) ∙ sym c.passed-2.ensures ∙ c.in_err-passed-2.was {u = tt} in
    e ∙ sym (judged-rest 3 _ _ numbers ∙ asked-bad 4 _ _ _ (lit< tt) bad)

pub returns-in_err-passed-3 : goal.returns-in_err-passed-3
returns-in_err-passed-3 c =
    let n = c.args.net.now in
    let e : c.from_residual-in_err-passed-3.result ≡ Err c.in_err-passed-3.field-0.0 = search rules in
    let long : n.outputs ≤ length n.output = search rules in
    let numbers : whole (numbers_good n) ≡ None =
    asked-good 3 _ _ (ap (λ b. passed 3 (whole b)) (sym c.numbers_good.ensures) ∙ ap (λ r. passed 3 r) (sym c.whole.ensures) ∙ sym c.passed.ensures ∙ c.in_ok-passed.was {u = tt}) in
    let good : records_check n ≡ None = asked-good 4 _ _ (ap (λ r. passed 4 r) (sym c.bad_record.ensures) ∙ sym c.passed-2.ensures ∙ c.in_ok-passed-2.was {u = tt}) in
    let bad : passed 5 (outputs_check n) ≡ Err c.in_err-passed-3.field-0.0 =
    ap (λ r. passed 5 r) (sym (c.bad_output.ensures ∙ outputs_found n long)) ∙ sym c.passed-3.ensures ∙ c.in_err-passed-3.was {u = tt} in
    e ∙ sym (judged-rest 3 _ _ numbers ∙ judged-rest 4 _ _ good ∙ asked-bad 5 _ _ _ (lit< tt) bad)

pub returns : goal.returns
returns c =
    let n = c.args.net.now in
    let long : n.outputs ≤ length n.output = search rules in
    let numbers : whole (numbers_good n) ≡ None =
    asked-good 3 _ _ (ap (λ b. passed 3 (whole b)) (sym c.numbers_good.ensures) ∙ ap (λ r. passed 3 r) (sym c.whole.ensures) ∙ sym c.passed.ensures ∙ c.in_ok-passed.was {u = tt}) in
    let records : records_check n ≡ None = asked-good 4 _ _ (ap (λ r. passed 4 r) (sym c.bad_record.ensures) ∙ sym c.passed-2.ensures ∙ c.in_ok-passed-2.was {u = tt}) in
    let outputs : outputs_check n ≡ None = asked-good 5 _ _ (ap (λ r. passed 5 r) (sym (c.bad_output.ensures ∙ outputs_found n long)) ∙ sym c.passed-3.ensures ∙ c.in_ok-passed-3.was {u = tt}) in
    c.passed-4.ensures
    ∙ ap (λ r. passed 6 r) c.check_labels.ensures
    ∙ sym (judged-rest 3 _ _ numbers ∙ judged-rest 4 _ _ records ∙ judged-rest 5 _ _ outputs ∙ judged-last 6 _ (lit< tt))
