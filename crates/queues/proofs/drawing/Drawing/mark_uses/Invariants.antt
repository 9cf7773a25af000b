-- `queues::drawing::Drawing::mark_uses` meets its contract. A turn marks one node's operands.
use Rattle.std.proofs.Common.{◌≡◌}
use Rattle.queues.specs.Pass.{marks_of, firsts_of, marked}
use Rattle.queues.proofs.drawing.Drawing.mark_uses.Given as goal

abbrev pub invariant-loop-i : goal.invariant-loop-i
invariant-loop-i l = (marks_of l.uses ≡ marked l.self.net.now l.self.part.now l.i (marks_of l.initial.uses)) × (firsts_of l.uses ≡ firsts_of l.initial.uses)
