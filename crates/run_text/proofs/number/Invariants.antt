-- The loop keeps: the digits still to come, behind the number so far, give the whole number.
use Rattle.std.proofs.Common.{◌≡◌, drop}
use Rattle.run_text.specs.Texts.{number_on}
use Rattle.run_text.proofs.number.Given as goal

abbrev pub invariant-loop-decimal : goal.invariant-loop-decimal
invariant-loop-decimal l = number_on l.x (drop l.decimal-index l.decimals) ≡ number_on 0 l.decimals
