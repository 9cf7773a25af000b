-- `queues::drawing::Drawing::find_outputs` meets its contract. A turn finds one queue.
use Rattle.std.proofs.Common.{◌≡◌}
use Rattle.queues.specs.Queues.{outputs_to}
use Rattle.queues.specs.Pass.{put_all}
use Rattle.queues.proofs.drawing.Drawing.find_outputs.Given as goal

abbrev pub invariant-loop-x : goal.invariant-loop-x
invariant-loop-x l = l.queues ≡ put_all (outputs_to l.self.net.now l.self.part.now l.x-index) l.initial.queues
