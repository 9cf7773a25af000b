-- `queues::drawing::Drawing::find_inputs` meets its contract. A turn finds the queue of an IN, or none; its place is how many were found before.
use Rattle.std.proofs.Common.{◌≡◌}
use Rattle.queues.proofs.Puts.{inputs_put}
use Rattle.queues.proofs.drawing.Drawing.find_inputs.Given as goal

abbrev pub invariant-loop-i : goal.invariant-loop-i
invariant-loop-i l = l.queues ≡ inputs_put l.self.net.now l.self.part.now l.i l.initial.queues
