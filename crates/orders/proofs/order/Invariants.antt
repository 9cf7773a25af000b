-- `orders::order` meets its contract. What is done so far is what the entries so far do.
use Rattle.nets.specs.Orders.{entry_at}
use Rattle.orders.proofs.Turns.{Plays}
use Rattle.orders.proofs.order.Given as goal

abbrev pub invariant-loop-t : goal.invariant-loop-t
invariant-loop-t l = Plays l.plan l.fn.network (entry_at l.kinds l.indexes l.values) l.fn.drained l.t l.played l.network l.drained
