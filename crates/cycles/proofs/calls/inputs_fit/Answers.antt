-- `cycles::calls::inputs_fit` meets its contract. `all` tests every cycle; with no IN any values fit.
use Rattle.std.proofs.Common.{◌≡◌, ℕ, ◌*◌, Bool, true, false, length, refl, sym, ◌∙◌, ap, arith, rules}
use borrow.Author.Tests.{tests}
use Rattle.std.specs.List.{range_with_len}
use Rattle.std.proofs.lemmas.Iterator.{YieldsList-from_range, cases_from_all}
use Rattle.std.proofs.lemmas.List.FromFn.{length-range_with_len, get_or-range_with_len}
use Rattle.base.specs.Checks.{every}
use Rattle.base.proofs.Tests.{every_true}
use Rattle.cycles.specs.Listed.{list_fits}
use Rattle.cycles.proofs.Alls.{all_is}
use Rattle.cycles.proofs.calls.inputs_fit.Goals as goal

pub returns-then-per-eq0 : goal.returns-then-per-eq0
returns-then-per-eq0 c = rw c.if-per-eq0.true (sym (every_true _ c.args.cycles (λ t l. refl)))

pub returns-else-per-eq0 : goal.returns-else-per-eq0
returns-else-per-eq0 c =
    let a = c.args in
    let n = a.cycles in
    let good : ℕ → Bool = λ t. list_fits a.width.now a.list.now a.ins.now (t * length a.list.now) (length a.list.now) in
    let long = length-range_with_len 0 n in
    all_is good 0 good (range_with_len 0 n) (λ k l. ap good (get_or-range_with_len 0 n k 0 (rw (← long) l) ∙ omega arith)) c.all.result
    (cases_from_all _ _ c.all.result (λ t. good t ≡ true) (λ t. good t ≡ false) c.all.ensures.ran (YieldsList-from_range 0 n n (cc) (omega arith)) (λ x q k. search (rules, tests)) (λ x q k. search (rules, tests)))
    ∙ ap (every good) long
