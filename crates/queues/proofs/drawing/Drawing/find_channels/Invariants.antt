-- `queues::drawing::Drawing::find_channels` meets its contract. A turn finds the channels of one node, right behind those before.
use Rattle.std.proofs.Common.{◌≡◌, ◌+◌, length, replicate}
use Rattle.base.specs.Lists.{fill}
use Rattle.queues.specs.Queues.{inputs_of, channels_to}
use Rattle.queues.specs.Pass.{marks_of, firsts_of, marked, put_all}
use Rattle.queues.proofs.drawing.Drawing.find_channels.Given as goal

abbrev pub invariant-loop-i : goal.invariant-loop-i
invariant-loop-i l =
    (marks_of l.uses ≡ marked l.self.net.now l.self.part.now l.self.net.now.nodes (replicate 1024 0))
    × (firsts_of l.uses ≡ fill (λ j. length (inputs_of l.self.net.now l.self.part.now) + length (channels_to l.self.net.now l.self.part.now j)) l.i (replicate 1024 0))
    × (l.queues ≡ put_all (channels_to l.self.net.now l.self.part.now l.i) l.initial.queues)
