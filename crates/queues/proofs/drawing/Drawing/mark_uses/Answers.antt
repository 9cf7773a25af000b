-- `queues::drawing::Drawing::mark_uses` meets its contract. A turn marks one node's operands.
use Rattle.std.proofs.Common.{refl, ◌∙◌, rules}
use Rattle.queues.specs.Pass.{marked}
use Rattle.queues.proofs.Marks.{mark_turn}
use Rattle.queues.proofs.Crossings.{below_32}
use Rattle.queues.proofs.drawing.Drawing.mark_uses.Goals as goal

pub loop-i-init : goal.loop-i-init
unfolding marked
loop-i-init c = (refl, refl)

pub mark-requires : goal.mark-requires
mark-requires c = below_32 c.args.self.now.net.now c.args.self.now.part.now c.args.self.now.fits c.loop-i.i (search rules)

pub mark-requires-in-loop-i : goal.mark-requires-in-loop-i
mark-requires-in-loop-i c = below_32 c.args.self.now.net.now c.args.self.now.part.now c.args.self.now.fits c.loop-i.i (search rules)

pub mark-requires-in-loop-i-2 : goal.mark-requires-in-loop-i-2
mark-requires-in-loop-i-2 c = below_32 c.args.self.now.net.now c.args.self.now.part.now c.args.self.now.fits c.loop-i.i (search rules)

pub loop-i-preserved : goal.loop-i-preserved
loop-i-preserved c =
    let l = c.loop-i in
    let m = c.operand_count-m in
    let n = c.args.self.now.net.now in (
      mark_turn n c.args.self.now.part.now l.i m.result _ _ _ _ _ l.invariant.0 m.ensures c.mark.ensures.0 c.mark-in-loop-i.ensures.0 c.mark-in-loop-i-2.ensures.0,
      c.mark-in-loop-i-2.ensures.1 ∙ c.mark-in-loop-i.ensures.1 ∙ c.mark.ensures.1 ∙ l.invariant.1,
    )
