-- `traces::byte` meets its contract: the end of a line, or one more byte of it.
use native.Mathlib.Omega.{arith}
use borrow.Author.Tests.{eq-eqb, ne_eqb}
use Rattle.traces.proofs.Playing.{byte-end, byte_more}
use Rattle.traces.proofs.byte.Goals as goal

pub returns-then-ends : goal.returns-then-ends
returns-then-ends c =
    let a = c.args in
    let l = c.line-wrote.ensures in
    (byte-end a.plan.now a.network.now a.reading _ a.byte a.out.now a.at _ _ _ (eq-eqb _ _ c.if-ends.true) l.0 c.no_bytes-reading.ensures, l.1)

pub returns-else-ends : goal.returns-else-ends
returns-else-ends c =
    let a = c.args in
    (byte_more a.plan.now a.network.now a.reading _ a.byte a.out.now a.at (ne_eqb _ _ c.if-ends.false) c.read_byte-reading.ensures, omega arith)
