-- `net_sheet::load::load_outputs` meets its contract. The list is filled so far from the sheet.
use mathlib.Core.Path.{◌≡◌}
use Prim.Native.Nat.{◌+◌, ◌*◌}
use Rattle.base.specs.Lists.{fill}
use Rattle.base.specs.Bytes.{two_at}
use Rattle.net_sheet.proofs.load.load_outputs.Given as goal

abbrev pub invariant-loop-j : goal.invariant-loop-j
invariant-loop-j l = l.output ≡ fill (λ m. two_at l.sheet (l.from + m * 2)) l.j l.initial.output
