-- `net_sheet::put::put_outputs` meets its contract. The image is the old one with the outputs so far as one stretch.
use mathlib.Core.Path.{◌≡◌}
use Rattle.base.specs.Bytes.{le2}
use Rattle.base.specs.Lists.{flat, patch}
use Rattle.netlist.specs.Netlists.{output_of}
use Rattle.net_sheet.proofs.put.put_outputs.Given as goal

abbrev pub invariant-loop-j : goal.invariant-loop-j
invariant-loop-j l = l.image ≡ patch l.initial.image l.at (flat (λ m. le2 (output_of l.net m)) l.j)
