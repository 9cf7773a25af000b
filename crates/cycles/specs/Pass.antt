-- One pass over the nodes, in their order: what the private functions of a cycle leave. No public promise speaks of it: those are in Steps, over whatever solves the cycle.
use Rattle.std.specs.Prelude.{cond, List, ℕ, zero, suc, ◌+◌, ◌%◌, get_or, set}
use Rattle.codes.specs.Rows.{is_in, is_reg}
use Rattle.netlist.specs.declared.Netlist.{Netlist}
use Rattle.values.specs.Values.{value_of}
use Rattle.cycles.specs.Inputs.{ins_in}

-- the lists of the nodes' fields
pub record Fields : Type 0 where
  pub code : List ℕ
  pub width : List ℕ
  pub a : List ℕ
  pub b : List ℕ
  pub c : List ℕ
  pub k : List ℕ

abbrev pub mk : List ℕ → List ℕ → List ℕ → List ℕ → List ℕ → List ℕ → Fields
mk code width a b c k = record { code = code; width = width; a = a; b = b; c = c; k = k }

-- those of a netlist
abbrev pub fields_of : Netlist → Fields
fields_of N = mk N.code N.width N.a N.b N.c N.k

-- a stored number as an index
abbrev pub inside : ℕ → ℕ
inside x = x % 1024

-- a node's value by its code, from the values so far
unfoldable pub node_in : Fields → List ℕ → ℕ → ℕ
node_in F vals i =
    value_of (get_or F.code i 0) (get_or F.width i 0) (get_or F.width (inside (get_or F.b i 0)) 0) (get_or F.k i 0)
    (get_or vals (inside (get_or F.a i 0)) 0)
    (get_or vals (inside (get_or F.b i 0)) 0)
    (get_or vals (inside (get_or F.c i 0)) 0)

-- an IN has the value at place j, a REG what it holds
unfoldable pub node_now : Fields → List ℕ → List ℕ → ℕ → List ℕ → ℕ → ℕ
node_now F regs ins j vals i = cond (is_in (get_or F.code i 0)) (get_or ins j 0) (cond (is_reg (get_or F.code i 0)) (get_or regs i 0) (node_in F vals i))

-- the values after the first n nodes; the inputs stand from place m on
unfoldable pub evals : Fields → List ℕ → List ℕ → ℕ → ℕ → List ℕ → List ℕ
evals F regs ins m zero vals = vals
evals F regs ins m (suc n) vals = set (evals F regs ins m n vals) n (node_now F regs ins (m + ins_in F.code n) (evals F regs ins m n vals) n)

-- the same where INs and REGs have their values already: they keep them
unfoldable pub node_kept : Fields → List ℕ → ℕ → ℕ
node_kept F vals i = cond (is_in (get_or F.code i 0)) (get_or vals i 0) (cond (is_reg (get_or F.code i 0)) (get_or vals i 0) (node_in F vals i))

unfoldable pub computed : Fields → ℕ → List ℕ → List ℕ
computed F zero vals = vals
computed F (suc n) vals = set (computed F n vals) n (node_kept F (computed F n vals) n)

-- n elements from place m on are those of f, the rest as they were
unfoldable pub fill_from : ℕ → (ℕ → ℕ) → ℕ → List ℕ → List ℕ
fill_from m f zero xs = xs
fill_from m f (suc n) xs = set (fill_from m f n xs) (m + n) (f n)
