-- The loop keeps: the bytes so far are the front of the input, and none of them ends a line.
use Rattle.std.proofs.Common.{◌≡◌, length, take}
use Rattle.run_text.proofs.Lines.{Front}
use Rattle.run_text.proofs.read_line.Given as goal

abbrev pub invariant-loop-i : goal.invariant-loop-i
invariant-loop-i g l = (length l.line ≡ length l.initial.line) × Front l.i (g.R.Read.remaining l.initial.input) (g.R.Read.remaining l.input) (take l.i l.line)
