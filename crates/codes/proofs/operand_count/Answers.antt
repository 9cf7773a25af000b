-- `codes::operand_count` meets its contract. The packed counts were compared with the table's over all 256 codes.
use native.Mathlib.Omega.{arith}
use Rattle.codes.proofs.Counts.{counts}
use Rattle.codes.proofs.operand_count.Goals as goal

pub returns : goal.returns
returns c = rw c.counts_at-counts.ensures (counts c.args.code (omega arith))
