-- `queues::channels::number_node` meets its contract. A turn goes to the next set bit of the word: no channel stands between, and one there.
use Rattle.std.proofs.Common.{◌≡◌, ◌-◌, ◌/◌, ◌^◌, ◌<◌, ◌≤◌}
use Rattle.queues.specs.Pass.{put_all, others, channels_by}
use Rattle.queues.proofs.channels.number_node.Given as goal

abbrev pub invariant-loop-rest : goal.invariant-loop-rest
invariant-loop-rest l =
    (l.p ≤ 32)
    × (others l.word l.own < 2 ^ 32)
    × (l.rest ≡ others l.word l.own / 2 ^ l.p)
    × (l.queues ≡ put_all (channels_by l.word l.own l.i l.p) l.initial.queues)

abbrev pub decreases-loop-rest : goal.decreases-loop-rest
decreases-loop-rest l = 32 - l.p
