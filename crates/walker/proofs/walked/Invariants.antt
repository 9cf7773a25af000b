-- The walker stays on the sheet, and its number is that of the steps taken.
use Rattle.std.proofs.Common.{◌≡◌}
use Rattle.walker.proofs.walked.Given as goal

abbrev pub invariant-loop : goal.invariant-loop
invariant-loop l = (l.w.sheet.now ≡ l.sheet) × (l.w.number ≡ l.counter)
