-- `evals::Found::evaluate` meets its contract. A turn evaluates one node.
use Rattle.std.proofs.Common.{◌≡◌, ◌-◌, ◌≤◌}
use Rattle.evals.specs.Passes.{fields_of, vals_after, mets_after}
use Rattle.evals.proofs.Found.evaluate.Given as goal

abbrev pub invariant-loop-i : goal.invariant-loop-i
invariant-loop-i l =
    (l.i - l.lo ≤ l.i-end - l.lo)
    × (l.self.vals ≡ vals_after (fields_of l.plan) l.held l.lo (l.i - l.lo) l.initial.self.vals)
    × (l.self.mets ≡ mets_after (fields_of l.plan) l.lo (l.i - l.lo) l.initial.self.mets)
