-- `run_text::read_line`: one byte more, one that ends the line, none, or a read that fails.
use Rattle.std.proofs.Common.{rules, arith}
use Rattle.run_text.proofs.Fronts.{on_err}
use Rattle.run_text.proofs.Lines.{one_room, lost, ended, hit, miss}
use Rattle.run_text.proofs.read_line.Goals as goal

pub returns-in_err-read_full-clause-failed : goal.returns-in_err-read_full-clause-failed
returns-in_err-read_full-clause-failed g c =
    let f = c.in_err-read_full.ensures.failed in
    on_err _ (lost _ _ _ _ _ f.0 c.loop-i.invariant.1 f.1)

pub returns-then-branch-eq0-clause-read : goal.returns-then-branch-eq0-clause-read
returns-then-branch-eq0-clause-read g c =
    ended _ _ _ _ _ _ _ _ _ c.loop-i.invariant.1 (omega (arith, c.loop-i.invariant.0)) c.loop-i-test.true c.if-branch-eq0.true (c.in_ok-read_full.ensures.read, rw (one_room c.loop-i.i c.loop-i.line (omega (arith, c.loop-i.invariant.0, c.loop-i-test.true))) at c.in_ok-read_full.ensures.count)

pub returns-then-line-i-eq10-clause-read : goal.returns-then-line-i-eq10-clause-read
returns-then-line-i-eq10-clause-read g c =
    hit _ _ _ _ _ _ _ _ _ c.loop-i.invariant.1 (omega (arith, c.loop-i.invariant.0)) c.loop-i-test.true c.if-branch-eq0.false c.in_ok-read_full.ensures.bound.0 (c.in_ok-read_full.ensures.read, rw (one_room c.loop-i.i c.loop-i.line (omega (arith, c.loop-i.invariant.0, c.loop-i-test.true))) at c.in_ok-read_full.ensures.count) c.if-line-i-eq10.true

pub loop-i-preserved : goal.loop-i-preserved
loop-i-preserved g c =
    (search rules, miss _ _ _ _ _ _ _ _ c.loop-i.invariant.1 (omega (arith, c.loop-i.invariant.0)) c.if-branch-eq0.false c.in_ok-read_full.ensures.bound.0 (c.in_ok-read_full.ensures.read, rw (one_room c.loop-i.i c.loop-i.line (omega (arith, c.loop-i.invariant.0, c.loop-i-test.true))) at c.in_ok-read_full.ensures.count) c.if-line-i-eq10.false)
