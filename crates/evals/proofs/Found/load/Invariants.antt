-- `evals::Found::load` meets its contract. A turn loads one queue.
use Rattle.std.proofs.Common.{◌≡◌}
use Rattle.evals.specs.Passes.{tokens_in, tokens_there}
use Rattle.evals.proofs.Found.load.Given as goal

abbrev pub invariant-loop-q : goal.invariant-loop-q
invariant-loop-q l = (l.self.vals ≡ tokens_in l.network.cells l.q l.initial.self.vals) × (l.self.mets ≡ tokens_there l.network.used l.q l.initial.self.mets)
