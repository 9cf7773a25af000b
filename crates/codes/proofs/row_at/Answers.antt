-- `codes::row_at` meets its contract. The code's table is the definition's, row by row, so it computes.
use mathlib.Core.Path.{refl}
use Rattle.codes.specs.Rows.{rows}
use Rattle.codes.proofs.row_at.Goals as goal

pub returns : goal.returns
unfolding rows
returns c = refl
