-- `cycles::calls::run_cycles` meets its contract. After t cycles registers and outputs are those of whatever solves the cycles; one turn is one cycle.
use Rattle.cycles.specs.Steps.{unlabelled}
use Rattle.cycles.proofs.Turns.{Promised}
use Rattle.cycles.proofs.calls.run_cycles.Given as goal

abbrev pub invariant-loop-t : goal.invariant-loop-t
invariant-loop-t l = Promised (unlabelled l.net) l.initial.regs l.ins l.cycles l.initial.outs l.t l.regs l.outs
