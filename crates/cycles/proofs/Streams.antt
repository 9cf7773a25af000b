-- Cycles from the first registers on are the drawing's run on its streams; cycles from any registers exist; and a call's result is one.
use mathlib.Core.Path.{◌≡◌, refl, sym, ◌∙◌}
use mathlib.Core.Bool.{Bool, true, false, cond}
use mathlib.Core.List.{List}
use Prim.Native.Nat.{ℕ, zero, suc, ◌+◌, ◌*◌, ◌<◌}
use borrow.Author.Tests.{eqb-true, eqb-false}
use lib.Dec.{eqb}
use lib.ListN.{get_or, replicate}
use Rattle.base.specs.Checks.{AllGood}
use Rattle.base.proofs.Fill.{fill_at}
use Rattle.codes.specs.declared.Record.{Record}
use Rattle.netlist.specs.declared.Netlist.{Netlist}
use Rattle.netlist.specs.Netlists.{record_of}
use Rattle.netlist.specs.Checks.{net_checks}
use Rattle.cycles.specs.Drawings.{input, register, oper, value, given, Runs}
use Rattle.cycles.specs.Inputs.{ins_in}
use Rattle.codes.specs.Rows.{is_in, is_reg}
use Rattle.codes.specs.Records.{operands_in}
use Rattle.cycles.specs.Netlists.{operator, width_of, drawing}
use Rattle.cycles.specs.Steps.{register_at, ins_of, first_registers, held_at, Cycles, Begins, Stepped}
use Rattle.cycles.proofs.Accepted.{ordered}
use Rattle.cycles.proofs.Answers.{bounds}
use Rattle.cycles.proofs.Exists.{solution, solves}

module _ (n : Netlist) (g : AllGood (net_checks n)) where
  -- what is given to a node that takes it: to an operator it does not matter
  same_on : (r : Record) (f : List ℕ → ℕ) (x y : Bool) (s l held : ℕ) (v : ℕ → ℕ → ℕ) (w : ℕ → ℕ) (t : ℕ) → (x ≡ true → l ≡ s) → (y ≡ true → held ≡ given (register r.k r.a) s v t)
      → value (cond x input (cond y (register r.k r.a) (oper f (operands_in r)))) (given (cond x input (cond y (register r.k r.a) (oper f (operands_in r)))) s v t) w
      ≡ value (cond x input (cond y (register r.k r.a) (oper f (operands_in r)))) (cond x l held) w
  same_on r f true y s l held v w t hx hy = sym (hx refl)
  same_on r f false true s l held v w t hx hy = sym (hy refl)
  same_on r f false false s l held v w t hx hy = refl

  first_on : (i : ℕ) → i < n.nodes → register_at n i ≡ true → get_or (first_registers n) i 0 ≡ (record_of n i).k
  unfolding first_registers
  first_on i h e = fill_at (λ j. cond (register_at n j) (record_of n j).k 0) n.nodes i (replicate 1024 0) h (bounds n g).nodes ∙ rw e

  held_on : (v : ℕ → ℕ → ℕ) (s t i : ℕ) → i < n.nodes → register_at n i ≡ true → held_at n (first_registers n) v t i ≡ given (register (record_of n i).k (record_of n i).a) s v t
  held_on v s zero i h e = first_on i h e
  held_on v s (suc t) i h e = rw e

  -- the run on streams that begin with the inputs solves the cycles
  pub runs_cycle : (s v : ℕ → ℕ → ℕ) (ins : List ℕ) (cycles : ℕ) → Begins n ins cycles s → Runs (drawing n) s v → Cycles n (first_registers n) ins cycles v
  runs_cycle s v ins cycles b h t l i k =
      let r : Record = record_of n i in
      h t i k
      ∙ same_on r (operator r (width_of n r.b)) (is_in r.code) (is_reg r.code) (s i (suc t)) (get_or ins (t * ins_of n + ins_in n.code i) 0) (held_at n (first_registers n) v t i) v (v (suc t)) t
      (λ e. b t l i k e)
      (λ e. held_on v (s i (suc t)) t i k e)

  -- cycles from any registers
  unfoldable pub values_from : List ℕ → List ℕ → ℕ → ℕ → ℕ
  values_from regs ins zero = λ i. 0
  values_from regs ins (suc zero) = solution (drawing n) (λ i. cond (is_in (record_of n i).code) (get_or ins (0 * ins_of n + ins_in n.code i) 0) (get_or regs i 0))
  values_from regs ins (suc (suc t)) = solution (drawing n) (λ i. cond (is_in (record_of n i).code) (get_or ins (suc t * ins_of n + ins_in n.code i) 0) (cond (register_at n i) (values_from regs ins (suc t) (record_of n i).a) 0))

  pub cycles_exist : (regs ins : List ℕ) (cycles : ℕ) → Cycles n regs ins cycles (values_from regs ins)
  unfolding values_from
  cycles_exist regs ins cycles zero l = solves (drawing n) (ordered n g) (λ i. cond (is_in (record_of n i).code) (get_or ins (0 * ins_of n + ins_in n.code i) 0) (get_or regs i 0))
  cycles_exist regs ins cycles (suc t) l = solves (drawing n) (ordered n g) (λ i. cond (is_in (record_of n i).code) (get_or ins (suc t * ins_of n + ins_in n.code i) 0) (cond (register_at n i) (values_from regs ins (suc t) (record_of n i).a) 0))

  -- two results that the promise allows
  one_on : (regs : List ℕ) (cycles : ℕ) (ins outs : List ℕ) (r : ℕ) (p q p' q' : List ℕ) → Stepped n regs cycles ins outs r p q → Stepped n regs cycles ins outs r p' q' → (b : Bool) → eqb r 0 ≡ b → (p ≡ p') × (q ≡ q')
  one_on regs cycles ins outs r p q p' q' x y true e =
      let z = eqb-true r 0 e in
      let v = values_from regs ins in
      let c = cycles_exist regs ins cycles in
      let a = x.done z v c in
      let b = y.done z v c in
      (a.0 ∙ sym b.0, a.1 ∙ sym b.1)
  one_on regs cycles ins outs r p q p' q' x y false e =
      let a = x.refused (eqb-false r 0 e) in
      let b = y.refused (eqb-false r 0 e) in
      (a.0 ∙ sym b.0, a.1 ∙ sym b.1)

  pub one_result : (regs : List ℕ) (cycles : ℕ) (ins outs : List ℕ) (r r' : ℕ) (p q p' q' : List ℕ) → Stepped n regs cycles ins outs r p q → Stepped n regs cycles ins outs r' p' q' → (r ≡ r') × (p ≡ p') × (q ≡ q')
  one_result regs cycles ins outs r r' p q p' q' x y =
      let e : r ≡ r' = x.answer ∙ sym y.answer in
      let d = one_on regs cycles ins outs r p q p' q' x (rw (← e) at y) (eqb r 0) refl in
      (e, d.0, d.1)
