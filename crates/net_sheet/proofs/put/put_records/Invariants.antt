-- `net_sheet::put::put_records` meets its contract. The image is the old one with the records so far as one stretch.
use mathlib.Core.Path.{◌≡◌}
use Rattle.base.specs.Lists.{flat, patch}
use Rattle.netlist.specs.Netlists.{record_of}
use Rattle.net_sheet.specs.Image.{record_bytes}
use Rattle.net_sheet.proofs.put.put_records.Given as goal

abbrev pub invariant-loop-i : goal.invariant-loop-i
invariant-loop-i l = l.image ≡ patch l.initial.image 0 (flat (λ m. record_bytes (record_of l.net m)) l.i)
