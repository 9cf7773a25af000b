-- The plain stepper (outline, "A cycle" and "Numbers given back"): what it answers, and what its cycles leave in the registers and the outputs.
use Rattle.std.specs.Prelude.{◌≡◌, Bool, true, false, cond, List, [], ◌∷◌, ℕ, zero, suc, ◌+◌, ◌*◌, ◌<◌, ◌^◌, eqb, leb, length, get_or, replicate}
use Rattle.std.specs.Prelude.{Option}
use Rattle.base.specs.Checks.{every, whole, verdict, AllGood}
use Rattle.base.specs.Lists.{fill}
use Rattle.netlist.specs.declared.Netlist.{Netlist}
use Rattle.netlist.specs.Netlists.{record_of, output_of}
use Rattle.netlist.specs.Checks.{net_checks}
use Rattle.cycles.specs.Drawings.{Solves}
use Rattle.cycles.specs.Inputs.{ins_in, all_fit_in}
use Rattle.codes.specs.Rows.{is_in, is_reg}
use Rattle.cycles.specs.Netlists.{width_of, drawing}
use Rattle.cycles.specs.Pass.{fill_from}

-- a netlist from the lists that are lent; its labels do not matter to a cycle
abbrev pub net_in : ℕ → List ℕ → List ℕ → List ℕ → List ℕ → List ℕ → List ℕ → ℕ → List ℕ → Netlist
net_in nodes code width a b c k outputs output =
    record {
      nodes = nodes;
      code = code;
      width = width;
      a = a;
      b = b;
      c = c;
      k = k;
      outputs = outputs;
      output = output;
      labels = 0;
      label = [];
    }

-- a netlist without its labels
abbrev pub unlabelled : Netlist → Netlist
unlabelled n = net_in n.nodes n.code n.width n.a n.b n.c n.k n.outputs n.output

-- node i is a register
abbrev pub register_at : Netlist → ℕ → Bool
register_at n i = is_reg (record_of n i).code

-- how many INs it has
abbrev pub ins_of : Netlist → ℕ
ins_of n = ins_in n.code n.nodes

-- ---- registers, by node: zero where a node is no register, and past the nodes

pub record Registers (n : Netlist) (regs : List ℕ) : Type 0 where
  pub long : length regs ≡ 1024
  pub held : (i : ℕ) → i < n.nodes → register_at n i ≡ true → get_or regs i 0 < 2 ^ width_of n i
  pub other : (i : ℕ) → i < n.nodes → register_at n i ≡ false → get_or regs i 0 ≡ 0
  pub past : (i : ℕ) → (i < n.nodes → ⊥) → get_or regs i 0 ≡ 0

-- before the first cycle: k at a register
unfoldable pub first_registers : Netlist → List ℕ
first_registers n = fill (λ i. cond (register_at n i) (record_of n i).k 0) n.nodes (replicate 1024 0)

-- ---- cycles from given registers on: v t holds the values of cycle t, the first being cycle 1

-- what node i holds, as a register, when t cycles are done
abbrev pub held_at : Netlist → List ℕ → (ℕ → ℕ → ℕ) → ℕ → ℕ → ℕ
held_at n regs v zero i = get_or regs i 0
held_at n regs v (suc t) i = cond (register_at n i) (v (suc t) (record_of n i).a) 0

-- what is given in cycle t + 1: one value for each IN, in node order, and what the registers hold
abbrev pub given_at : Netlist → List ℕ → List ℕ → (ℕ → ℕ → ℕ) → ℕ → ℕ → ℕ
given_at n regs ins v t i = cond (is_in (record_of n i).code) (get_or ins (t * ins_of n + ins_in n.code i) 0) (held_at n regs v t i)

-- v solves each of the cycles
abbrev pub Cycles : Netlist → List ℕ → List ℕ → ℕ → (ℕ → ℕ → ℕ) → Type 0
Cycles n regs ins cycles v = (t : ℕ) → t < cycles → Solves (drawing n) (given_at n regs ins v t) (v (suc t))

-- streams of input values, by node, that begin with a list of inputs
abbrev pub Begins : Netlist → List ℕ → ℕ → (ℕ → ℕ → ℕ) → Type 0
Begins n ins cycles s = (t : ℕ) → t < cycles → (i : ℕ) → i < n.nodes → is_in (record_of n i).code ≡ true → get_or ins (t * ins_of n + ins_in n.code i) 0 ≡ s i (suc t)

-- all registers change together
unfoldable pub registers_after : Netlist → List ℕ → (ℕ → ℕ → ℕ) → ℕ → List ℕ
registers_after n regs v zero = regs
registers_after n regs v (suc t) = fill (held_at n regs v (suc t)) n.nodes (replicate 1024 0)

-- one value for each output, in sheet order, cycle after cycle; the rest of the list as it was
unfoldable pub outputs_after : Netlist → (ℕ → ℕ → ℕ) → List ℕ → ℕ → List ℕ
outputs_after n v outs zero = outs
outputs_after n v outs (suc t) = fill_from (t * n.outputs) (λ j. v (suc t) (output_of n j)) n.outputs (outputs_after n v outs t)

-- ---- the answer, before the first cycle: 12, not one value for each IN; 13, a value not below 2^w; 16, the lent list too short

abbrev pub step_checks : Netlist → ℕ → List ℕ → ℕ → List (ℕ × Option ℕ)
step_checks n cycles ins room =
    (12, whole (eqb (length ins) (cycles * ins_of n)))
    ∷ (13, whole (every (λ t. all_fit_in n.code n.width ins (t * ins_of n) n.nodes) cycles))
    ∷ (16, whole (leb (cycles * n.outputs) room))
    ∷ []

abbrev pub step_answer : Netlist → ℕ → List ℕ → ℕ → ℕ
step_answer n cycles ins room = (verdict (step_checks n cycles ins room)).answer

-- What a call leaves: its answer; on a refusal all as it was; else the registers and outputs of the cycles, whatever solves them.
pub record Stepped (n : Netlist) (regs : List ℕ) (cycles : ℕ) (ins outs : List ℕ) (r : ℕ) (regs' outs' : List ℕ) : Type 0 where
  pub answer : r ≡ step_answer n cycles ins (length outs)
  pub refused : (r ≡ 0 → ⊥) → (regs' ≡ regs) × (outs' ≡ outs)
  pub done : r ≡ 0 → (v : ℕ → ℕ → ℕ) → Cycles n regs ins cycles v → (regs' ≡ registers_after n regs v cycles) × (outs' ≡ outputs_after n v outs cycles)

-- the promise: for a netlist that a reader gave, or that passes the same checks, and registers of that netlist
abbrev pub StepsPromise : Netlist → List ℕ → ℕ → List ℕ → List ℕ → ℕ → List ℕ → List ℕ → Type 0
StepsPromise n regs cycles ins outs r regs' outs' = AllGood (net_checks n) → Registers n regs → Stepped n regs cycles ins outs r regs' outs'
