-- `layout::trailer::find_sections` meets its contract. The definition's tests in its order: each return is the first that fails.
use mathlib.Core.Path.{◌∙◌, sym}
use native.Mathlib.Omega.{arith}
use borrow.Author.Rules.{rules}
use Rattle.layout.proofs.Found.{too_short, middle-falls, front-falls, by_rest}
use Rattle.layout.proofs.trailer.find_sections.Goals as goal

pub returns-in_err-t : goal.returns-in_err-t
returns-in_err-t c = c.from_residual.ensures ∙ sym (too_short c.args.letter c.args.sheet.now (omega arith))

pub returns-in_err-middle : goal.returns-in_err-middle
returns-in_err-middle c =
    c.from_residual-in_err-middle.ensures
    ∙ sym (middle-falls c.args.letter c.args.sheet.now _ _ _ _ (search rules) c.four_at-labels.ensures c.four_at-to_middle.ensures c.four_at-to_front.ensures (omega arith) (omega arith))

pub returns-in_err-front : goal.returns-in_err-front
returns-in_err-front c =
    c.from_residual-in_err-front.ensures
    ∙ sym (front-falls c.args.letter c.args.sheet.now _ _ _ _ (search rules) c.four_at-labels.ensures c.four_at-to_middle.ensures c.four_at-to_front.ensures (omega arith) (omega arith) (omega arith))

pub returns : goal.returns
returns c =
    c.then_some.ensures
    ∙ by_rest c.args.letter c.args.sheet.now _ _ _ _ (search rules) c.four_at-labels.ensures c.four_at-to_middle.ensures c.four_at-to_front.ensures (search rules) _ _ _ c.two_at.ensures (search rules) (search rules) (search rules) (search rules)
