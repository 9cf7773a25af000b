-- `rounds::run` meets its contract. What is done so far, before what is left of the run.
use mathlib.Core.Path.{◌≡◌}
use Prim.Native.Nat.{◌-◌, ◌*◌, ◌≤◌}
use Rattle.rounds.specs.Runs.{after, run_on}
use Rattle.rounds.proofs.run.Given as goal

abbrev pub invariant-loop-done : goal.invariant-loop-done
invariant-loop-done l =
    (l.firings ≤ l.done * 544) × (run_on l.plan l.initial.network l.rounds ≡ after l.done l.firings (run_on l.plan l.network (l.rounds - l.done)))
