-- `finishes::change_held` meets its contract. A turn changes one node's register.
use Rattle.std.proofs.Common.{◌∙◌}
use Rattle.base.proofs.Fill.{fill_none}
use Rattle.finishes.proofs.Turns.{fill-turn, fill-kept}
use Rattle.finishes.proofs.change_held.Goals as goal
use Rattle.finishes.proofs.change_held.Goals.{then-plan-i, else-plan-i}

pub loop-i-init : goal.loop-i-init
loop-i-init c = fill_none _ _

pub loop-i-preserved : goal.loop-i-preserved
loop-i-preserved c =
    let l = c.loop-i in
    elim c.if-plan-i.branch [
      | then-plan-i w ↦ w.held-is ∙ fill-turn _ l.i _ _ _ l.invariant (λ e. rw w.if-plan-i.true)
      | else-plan-i w ↦ w.held-is ∙ fill-kept _ l.i _ _ l.invariant (rw w.if-plan-i.false)
    ]
