-- `cycles::calls::first_registers` meets its contract. The list is filled so far from the first values.
use mathlib.Core.Path.{◌≡◌}
use mathlib.Core.Bool.{cond}
use lib.ListN.{get_or, replicate}
use Rattle.base.specs.Lists.{fill}
use Rattle.codes.specs.Rows.{is_reg}
use Rattle.cycles.proofs.calls.first_registers.Given as goal

abbrev pub invariant-loop-i : goal.invariant-loop-i
invariant-loop-i l = (l.regs ≡ fill (λ m. cond (is_reg (get_or l.net.code m 0)) (get_or l.net.k m 0) 0) l.i (replicate 1024 0))
