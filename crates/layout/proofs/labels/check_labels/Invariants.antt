-- `layout::labels::check_labels` meets its contract. The search from here on is the whole search; a good entry lies within the section, so the next one begins further on.
use mathlib.Core.Path.{◌≡◌}
use Prim.Native.Nat.{◌-◌, ◌≤◌}
use lib.ListN.{length}
use Rattle.layout.specs.Labels.{labels_from, label_check}
use Rattle.layout.proofs.labels.check_labels.Given as goal

abbrev pub invariant-loop-i : goal.invariant-loop-i
invariant-loop-i l = (l.i ≤ length l.s) × (l.entry ≤ l.i) × (labels_from (length l.s - l.entry) l.nodes l.s l.i l.least l.entry ≡ label_check l.nodes l.s)

abbrev pub decreases-loop-i : goal.decreases-loop-i
decreases-loop-i l = length l.s - l.i
