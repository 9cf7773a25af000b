-- `net_sheet::load::load_nodes` meets its contract. Each of the six lists is filled so far from the sheet's records.
use mathlib.Core.Path.{◌≡◌}
use Rattle.net_sheet.proofs.Loads.{loaded}
use Rattle.net_sheet.proofs.load.load_nodes.Given as goal

abbrev pub invariant-loop-i : goal.invariant-loop-i
invariant-loop-i l = l.net ≡ loaded l.sheet l.i l.initial.net
