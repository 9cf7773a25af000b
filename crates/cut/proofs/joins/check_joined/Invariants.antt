-- `cut::joins::check_joined` meets its contract. A turn marks the part at an end of a queue.
use Rattle.std.proofs.Common.{◌≡◌, replicate, false, map}
use Rattle.cut.specs.Pass.{ended}
use Rattle.cut.proofs.joins.check_joined.Given as goal

abbrev pub invariant-loop-p : goal.invariant-loop-p
invariant-loop-p l = l.joined ≡ ended (map (λ y. y.now) l.yielded) (replicate 256 false)
