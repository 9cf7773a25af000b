-- `run_text::find` meets its contract: the first place in what is still to be searched is the one asked for.
use Rattle.std.proofs.Common.{◌-◌, ◌≡◌, ℕ, List, length, take, drop, sym, ap, ◌∙◌, ◌+◌, length-drop, arith, rules}
use borrow.Author.Tests.{tests}
use Rattle.std.proofs.lemmas.Iterator.{YieldsList-from_slice, IsFirst-from_position, index_from_first}
use Rattle.std.proofs.lemmas.List.{take_rest, drop_min}
use Rattle.run_text.specs.Texts.{first_in}
use Rattle.run_text.proofs.Laws as laws
use Rattle.run_text.proofs.find.Goals as goal

pub returns : goal.returns
returns c =
    let b : ℕ = c.args.byte in
    let xs : List ℕ = take (length c.args.text.now - c.min.result) (drop c.min.result c.args.text.now) in
    let first = IsFirst-from_position _ _ c.position.result (λ x. x ≡ b) (λ x. ¬ (x ≡ b)) c.position.ensures.ran (YieldsList-from_slice xs c.iter.ensures.rest) (λ x q k. search (rules, tests)) (λ x q k. search (rules, tests)) in
    let e : first_in b xs ≡ _ = index_from_first (first_in b) (λ x. x ≡ b) (λ x. ¬ (x ≡ b)) (laws.first-empty b) (laws.first-hit b) (laws.first-miss b) xs c.position.result first in
    let all : xs ≡ drop c.args.from c.args.text.now = take_rest c.args.text.now c.min.result ∙ ap (λ n. drop n c.args.text.now) c.min.ensures ∙ drop_min c.args.from c.args.text.now in
    let is : c.unwrap_or.result ≡ first_in b (drop c.args.from c.args.text.now) = c.unwrap_or.ensures ∙ sym e ∙ ap (first_in b) all in
    (ap (λ n. c.args.from + n) is, omega arith, omega (arith, is, laws.first-le b (drop c.args.from c.args.text.now), length-drop c.args.from c.args.text.now))
