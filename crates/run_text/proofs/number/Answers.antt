-- `run_text::number` meets its contract. The loop keeps: the digits still to come, behind the number so far, give the whole number.
use Rattle.std.proofs.Common.{sym, ◌∙◌}
use Rattle.run_text.proofs.Laws as laws
use Rattle.run_text.proofs.number.Goals as goal

pub loop-decimal-preserved : goal.loop-decimal-preserved
loop-decimal-preserved c =
    rw c.with_digit-x.ensures (laws.number-next c.loop-decimal.x c.loop-decimal.decimal-index c.args.decimals.now c.loop-decimal-test.true) ∙ c.loop-decimal.invariant

pub returns : goal.returns
returns c = sym (laws.number-end _ c.loop-decimal.decimal-index c.args.decimals.now c.loop-decimal-test.false) ∙ c.loop-decimal.invariant
