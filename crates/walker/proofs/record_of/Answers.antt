-- `walker::record_of` meets its contract. The record of a number is the net sheet's.
use mathlib.Core.Path.{◌∙◌}
use Rattle.walker.proofs.Stands.{stands_there}
use Rattle.walker.proofs.record_of.Goals as goal

pub returns : goal.returns
returns c = c.record_at.ensures ∙ stands_there c.args.sheet.now c.args.number
