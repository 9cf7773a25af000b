-- `finishes::count_cycles` meets its contract. A turn counts for one part.
use Rattle.std.proofs.Common.{◌∙◌}
use Rattle.base.proofs.Fill.{fill_none}
use Rattle.finishes.proofs.Turns.{fill-turn, fill-kept}
use Rattle.finishes.proofs.count_cycles.Goals as goal
use Rattle.finishes.proofs.count_cycles.Goals.{then-fin-p, else-fin-p}

pub loop-p-init : goal.loop-p-init
loop-p-init c = fill_none _ _

pub loop-p-preserved : goal.loop-p-preserved
loop-p-preserved c =
    let l = c.loop-p in
    elim c.if-fin-p.branch [
      | then-fin-p w ↦ w.count-is ∙ fill-turn _ l.p _ _ _ l.invariant (λ e. rw (w.if-fin-p.true, e))
      | else-fin-p w ↦ w.count-is ∙ fill-kept _ l.p _ _ l.invariant (rw w.if-fin-p.false)
    ]
