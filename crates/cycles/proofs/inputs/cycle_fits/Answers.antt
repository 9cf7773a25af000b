-- `cycles::inputs::cycle_fits` meets its contract. `all` tests every IN beside its value.
use Rattle.std.proofs.Common.{◌≡◌, ℕ, ◌+◌, ◌<◌, ◌≤◌, Bool, true, false, List, length, get_or, take, drop, sym, ◌∙◌, ap, arith, rules}
use borrow.Author.Tests.{tests}
use Rattle.std.specs.List.{zip}
use Rattle.std.proofs.lemmas.Iterator.{YieldsList-from_slice, YieldsList-from_zip, cases_from_all}
use Rattle.std.proofs.lemmas.List.{get_or-drop, length-drop}
use lib.Seq.{take-length}
use Rattle.std.proofs.lemmas.Slice.Zip.{length-zip, get_or-zip}
use Rattle.base.specs.Checks.{every}
use Rattle.cycles.specs.Inputs.{fits_in}
use Rattle.cycles.specs.Pass.{inside}
use Rattle.cycles.proofs.Alls.{all_is}
use Rattle.cycles.proofs.inputs.cycle_fits.Goals as goal

pub returns : goal.returns
returns c =
    let a = c.args in
    let list = a.list.now in
    let rest : List ℕ = drop a.at a.ins.now in
    let t : ℕ × ℕ → Bool = λ p. fits_in (get_or a.width.now (inside p.0) 0) p.1 in
    let good : ℕ → Bool = λ j. fits_in (get_or a.width.now (inside (get_or list j 0)) 0) (get_or a.ins.now (a.at + j) 0) in
    let enough : length list ≤ length rest = rw (length-drop a.at a.ins.now) (omega (arith, c.requires)) in
    let long : length (zip list rest) ≡ length list = length-zip list rest ∙ omega (arith, enough) in
    let whole : c.zip.result.b.rest.now ≡ rest = c.zip.ensures.second.0 ∙ ap (λ n. take n rest) (sym (length-drop a.at a.ins.now)) ∙ take-length rest in
    all_is t (0, 0) good (zip list rest)
    (λ k l.
    let h : k < length list = rw (← long) l in
    ap t (get_or-zip list rest k (0, 0) h (omega (arith, h, enough))) ∙ ap (λ x. fits_in (get_or a.width.now (inside (get_or list k 0)) 0) x) (get_or-drop a.at a.ins.now k 0))
    c.all.result
    (cases_from_all c.all.new.self _ c.all.result (λ p. t p ≡ true) (λ p. t p ≡ false) c.all.ensures.ran (YieldsList-from_zip (YieldsList-from_slice list cc) (YieldsList-from_slice rest whole)) (λ x q k. search (rules, tests)) (λ x q k. search (rules, tests)))
    ∙ ap (every good) long
