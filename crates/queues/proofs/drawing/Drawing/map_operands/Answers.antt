-- `queues::drawing::Drawing::map_operands` meets its contract. Each place is its own node's.
use Rattle.std.proofs.Common.{rules}
use Rattle.netlist.specs.Netlists.{record_of}
use Rattle.queues.proofs.Crossings.{below_32}
use Rattle.queues.proofs.Whole.{mapped_start, mapped_turn, stored}
use Rattle.queues.proofs.drawing.Drawing.map_operands.Goals as goal

pub loop-i-init : goal.loop-i-init
loop-i-init c = mapped_start c.args.self.now.net.now c.args.self.now.part.now c.args.queues.now

pub via-requires : goal.via-requires
via-requires c = (c.requires, below_32 c.args.self.now.net.now c.args.self.now.part.now c.args.self.now.fits c.loop-i.i (search rules))

pub via-requires-in-loop-i : goal.via-requires-in-loop-i
via-requires-in-loop-i c = (c.requires, below_32 c.args.self.now.net.now c.args.self.now.part.now c.args.self.now.fits c.loop-i.i (search rules))

pub via-requires-in-loop-i-2 : goal.via-requires-in-loop-i-2
via-requires-in-loop-i-2 c = (c.requires, below_32 c.args.self.now.net.now c.args.self.now.part.now c.args.self.now.fits c.loop-i.i (search rules))

pub loop-i-preserved : goal.loop-i-preserved
loop-i-preserved c =
    let n = c.args.self.now.net.now in
    let part = c.args.self.now.part.now in
    let l = c.loop-i in
    let m = c.operand_count-m in
    mapped_turn n part l.i c.unwrap_or.result c.unwrap_or-in-loop-i.result c.unwrap_or-in-loop-i-2.result c.args.queues.now l.queues l.invariant
    (stored n part l.i 0 (record_of n l.i).a m.result _ _ m.ensures c.via.ensures c.unwrap_or.ensures)
    (stored n part l.i 1 (record_of n l.i).b m.result _ _ m.ensures c.via-in-loop-i.ensures c.unwrap_or-in-loop-i.ensures)
    (stored n part l.i 2 (record_of n l.i).c m.result _ _ m.ensures c.via-in-loop-i-2.ensures c.unwrap_or-in-loop-i-2.ensures)
