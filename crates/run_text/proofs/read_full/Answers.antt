-- `run_text::read_full`: one read more, and the last, which gives nothing.
use Rattle.std.proofs.Common.{rules}
use Rattle.std.proofs.KnownBytes.{Consumes-nil}
use Rattle.run_text.proofs.Inputs.{read_more, read_none}
use Rattle.run_text.proofs.read_full.Goals as goal

pub loop-n-init : goal.loop-n-init
loop-n-init g c = (search rules, search rules, Consumes-nil _)

pub returns-then-more-eq0-clause-read : goal.returns-then-more-eq0-clause-read
returns-then-more-eq0-clause-read g c =
    read_none _ _ _ _ _ _ _ _ c.loop-n.invariant.0 c.in_ok-more.ensures.bound.0 c.if-more-eq0.true c.loop-n.invariant.2 c.in_ok-more.ensures.bytes.0

pub loop-n-preserved : goal.loop-n-preserved
loop-n-preserved g c =
    (search rules, search rules, read_more _ _ _ _ _ _ _ _ c.loop-n.invariant.0 c.in_ok-more.ensures.bound.0 c.loop-n.invariant.2 c.in_ok-more.ensures.bytes.0)
