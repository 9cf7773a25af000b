-- What the stepper's promise means for a drawing's run: statements about calls that follow one another.
use Rattle.std.specs.Prelude.{◌≡◌, List, ℕ, suc, ◌+◌, ◌*◌, ◌<◌, drop}
use Rattle.base.specs.Checks.{AllGood}
use Rattle.netlist.specs.declared.Netlist.{Netlist}
use Rattle.netlist.specs.Checks.{net_checks}
use Rattle.cycles.specs.Drawings.{Runs}
use Rattle.cycles.specs.Netlists.{drawing}
use Rattle.cycles.specs.Steps.{ins_of, Registers, first_registers, Cycles, Begins, registers_after, outputs_after, Stepped}

-- After some cycles from the first registers the outputs were those of cycles 1, 2, .. of the run, and the registers are those of the next cycle, for all input streams that begin with the values taken.
abbrev pub StepsAreTheRun : Type 0
StepsAreTheRun =
    (n : Netlist)
    → AllGood (net_checks n)
    → (cycles : ℕ) (ins outs regs' outs' : List ℕ)
    → Stepped n (first_registers n) cycles ins outs 0 regs' outs'
    → (s v : ℕ → ℕ → ℕ)
    → Begins n ins cycles s
    → Runs (drawing n) s v
    → (regs' ≡ registers_after n (first_registers n) v cycles) × (outs' ≡ outputs_after n v outs cycles)

-- The first registers are registers of their netlist, and a call leaves such registers again.
abbrev pub FirstAreRegisters : Type 0
FirstAreRegisters = (n : Netlist) → AllGood (net_checks n) → Registers n (first_registers n)

abbrev pub StepsKeepRegisters : Type 0
StepsKeepRegisters =
    (n : Netlist)
    → AllGood (net_checks n)
    → (regs : List ℕ) (cycles : ℕ) (ins outs : List ℕ) (r : ℕ) (regs' outs' : List ℕ)
    → Registers n regs
    → Stepped n regs cycles ins outs r regs' outs'
    → Registers n regs'

-- Many cycles are single steps, one after the other: cycle t + 1 is a step from the registers after t, on its own values.
abbrev pub StepsAreSteps : Type 0
StepsAreSteps =
    (n : Netlist)
    → AllGood (net_checks n)
    → (regs ins : List ℕ) (cycles t : ℕ) (v : ℕ → ℕ → ℕ)
    → Registers n regs
    → t < cycles
    → Cycles n regs ins cycles v
    → Cycles n (registers_after n regs v t) (drop (t * ins_of n) ins) 1 (λ m. v (t + m))
    × (registers_after n (registers_after n regs v t) (λ m. v (t + m)) 1 ≡ registers_after n regs v (suc t))
