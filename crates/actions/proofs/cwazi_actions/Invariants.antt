-- What is done so far is what the actions so far do.
use Rattle.orders.proofs.Turns.{Plays}
use Rattle.actions.specs.Actions.{entries_of}
use Rattle.actions.proofs.cwazi_actions.Given as goal

abbrev pub invariant-loop-a : goal.invariant-loop-a
invariant-loop-a l = Plays l.plan l.fn.network (entries_of l.actions) l.fn.drained l.a-index l.played l.network l.drained
