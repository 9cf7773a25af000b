-- `queues::drawing::Drawing::map_operands` meets its contract. Each place is its own node's.
use Rattle.std.proofs.Common.{◌≡◌}
use Rattle.queues.proofs.Whole.{mapped}
use Rattle.queues.proofs.drawing.Drawing.map_operands.Given as goal

abbrev pub invariant-loop-i : goal.invariant-loop-i
invariant-loop-i l = l.queues ≡ mapped l.self.net.now l.self.part.now l.i l.initial.queues
