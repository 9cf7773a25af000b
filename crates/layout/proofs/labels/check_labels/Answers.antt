-- `layout::labels::check_labels` meets its contract. The search from here on is the whole search; a good entry lies within the section, so the next one begins further on.
use mathlib.Core.Path.{sym, ◌∙◌}
use Prim.Native.Nat.{◌≤◌}
use native.Mathlib.Omega.{arith}
use lib.ListN.{length}
use Rattle.base.proofs.Tests.{false_or_true}
use Rattle.layout.specs.Labels.{entry_end}
use Rattle.layout.proofs.Entries.{entry-within, labels-bad, labels_next, labels-end}
use Rattle.layout.proofs.labels.check_labels.Goals as goal

pub returns-in_default : goal.returns-in_default
returns-in_default c =
    let v = c.loop-i in
    let a = c.args in
    sym (labels-bad a.nodes a.s.now v.i v.least v.entry (omega arith) c.loop-i-test.true (false_or_true _ c.in_default.ensures)) ∙ v.invariant.2

pub loop-i-preserved : goal.loop-i-preserved
loop-i-preserved c =
    let a = c.args in
    let v = c.loop-i in
    let e = c.in-Some.ensures in
    let h : entry_end a.s.now v.i ≤ length a.s.now = entry-within a.nodes v.least a.s.now v.i e.0 in
    rw e.1 (h, omega arith, sym (labels_next a.nodes a.s.now v.i v.least v.entry (omega arith) c.loop-i-test.true e.0) ∙ v.invariant.2)

pub returns : goal.returns
returns c =
    let v = c.loop-i in
    let a = c.args in
    sym (labels-end a.nodes a.s.now v.i v.least v.entry _ c.loop-i-test.false) ∙ v.invariant.2
