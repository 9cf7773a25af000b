-- Calls that follow one another: from the promise of one call, the run of the drawing, registers that stay registers, and cycles one by one.
use mathlib.Core.Path.{◌≡◌, refl, sym, ◌∙◌, ap}
use mathlib.Core.Bool.{Bool, true, false, cond}
use mathlib.Core.List.{List}
use Prim.Native.Nat.{ℕ, zero, suc, ◌+◌, ◌*◌, ◌<◌, ◌≤◌, ◌^◌}
use native.Mathlib.Nat.{zero-mul}
use native.Mathlib.Numerals.{add-one}
use native.Mathlib.Omega.{arith}
use borrow.Author.Tests.{eqb-true, eqb-false, ltb-true, ltb-false}
use lib.Dec.{eqb, ltb, lit<, lit≤}
use lib.ListN.{length, get_or, drop, replicate}
use lib.Pow.{pow_pos}
use lib.Seq.{get_or-drop}
use Rattle.base.specs.Checks.{AllGood}
use Rattle.base.specs.Lists.{fill}
use Rattle.base.proofs.Arrays.{zeros_at}
use Rattle.base.proofs.Fill.{fill_at, fill-past, fill-length, fill-same}
use Rattle.base.proofs.Tests.{every_at}
use Rattle.base.proofs.Verdicts.{good-all, whole-good}
use Rattle.codes.specs.declared.Record.{Record}
use Rattle.netlist.specs.declared.Netlist.{Netlist}
use Rattle.netlist.specs.Netlists.{record_of}
use Rattle.netlist.specs.Checks.{net_checks}
use Rattle.cycles.specs.Drawings.{value}
use Rattle.cycles.specs.Inputs.{ins_in, all_fit_in, fits_in}
use Rattle.codes.specs.Rows.{is_in}
use Rattle.cycles.specs.Netlists.{kind_of, width_of}
use Rattle.cycles.specs.Steps.{register_at, ins_of, Registers, first_registers, held_at, given_at, Cycles, registers_after, step_checks, Stepped}
use Rattle.cycles.specs.Stepping.{StepsAreTheRun, FirstAreRegisters, StepsKeepRegisters, StepsAreSteps}
use Rattle.cycles.proofs.Accepted.{good_record, register_operand}
use Rattle.cycles.proofs.Answers.{bounds}
use Rattle.cycles.proofs.Below.{register_widths, solves-below}
use Rattle.cycles.proofs.Streams.{runs_cycle, values_from, cycles_exist}
use Rattle.cycles.proofs.Turns.{held_is}

pub steps_are_the_run : StepsAreTheRun
steps_are_the_run n g cycles ins outs regs' outs' x s v b h = x.done refl v (runs_cycle n g s v ins cycles b h)

not_lt_on : (i m : ℕ) → (i < m → ⊥) → (b : Bool) → ltb i m ≡ b → m ≤ i
not_lt_on i m h true e = absurd (h (ltb-true i m e))
not_lt_on i m h false e = ltb-false i m e

not_lt : (i m : ℕ) → (i < m → ⊥) → m ≤ i
not_lt i m h = not_lt_on i m h (ltb i m) refl

-- a list of registers filled from the nodes
filled : (n : Netlist) → AllGood (net_checks n) → (f : ℕ → ℕ) → ((i : ℕ) → i < n.nodes → register_at n i ≡ true → f i < 2 ^ width_of n i) → Registers n (fill (λ i. cond (register_at n i) (f i) 0) n.nodes (replicate 1024 0))
filled n g f fits =
    let F : ℕ → ℕ = λ i. cond (register_at n i) (f i) 0 in
    let few = (bounds n g).nodes in
    let at : (i : ℕ) → i < n.nodes → get_or (fill F n.nodes (replicate 1024 0)) i 0 ≡ F i = λ i h. fill_at F n.nodes i (replicate 1024 0) h few in
    record {
      long = fill-length F n.nodes (replicate 1024 0);
      held = λ i h e. rw (at i h, e) (fits i h e);
      other = λ i h e. at i h ∙ rw e;
      past = λ i h. fill-past F n.nodes i (replicate 1024 0) (not_lt i n.nodes h) ∙ zeros_at 1024 i;
    }

pub first_are_registers : FirstAreRegisters
unfolding first_registers
first_are_registers n g =
    filled n g (λ i. (record_of n i).k)
    (λ i h e. (register_widths (record_of n i).code (record_of n i).width (get_or n.width (record_of n i).a 0) (get_or n.width (record_of n i).b 0) (get_or n.width (record_of n i).c 0) (record_of n i).k e (good_record n g i h).widths_good_lem).1)

-- ---- a call keeps registers: every value that a cycle is given is below 2^w, so is every value of the cycle

module _ (n : Netlist) (g : AllGood (net_checks n)) (regs : List ℕ) (rg : Registers n regs) (ins : List ℕ) (cycles : ℕ) (v : ℕ → ℕ → ℕ) (runs : Cycles n regs ins cycles v) (fit : (t : ℕ) → t < cycles → all_fit_in n.code n.width ins (t * ins_of n) n.nodes ≡ true) where
  input-fits : (t i : ℕ) → t < cycles → i < n.nodes → is_in (record_of n i).code ≡ true → get_or ins (t * ins_of n + ins_in n.code i) 0 < 2 ^ width_of n i
  input-fits t i l h e =
      let one : cond (is_in (record_of n i).code) (fits_in (width_of n i) (get_or ins (t * ins_of n + ins_in n.code i) 0)) true ≡ true = every_at _ n.nodes (fit t l) i h in
      ltb-true (get_or ins (t * ins_of n + ins_in n.code i) 0) (2 ^ width_of n i) (rw e at one)

  given_on : (i x h : ℕ) (b : Bool) → (b ≡ true → x < 2 ^ width_of n i) → h < 2 ^ width_of n i → cond b x h < 2 ^ width_of n i
  given_on i x h true p q = p refl
  given_on i x h false p q = q

  -- what the registers hold
  start_on : (i : ℕ) → i < n.nodes → (b : Bool) → register_at n i ≡ b → get_or regs i 0 < 2 ^ width_of n i
  start_on i h true e = rg.held i h e
  start_on i h false e = rw (rg.other i h e) (pow_pos (width_of n i))

  operand_fits : (x i : ℕ) → (w : (a : ℕ) → a < n.nodes → v x a < 2 ^ width_of n a) → i < n.nodes → register_at n i ≡ true → v x (record_of n i).a < 2 ^ width_of n i
  operand_fits x i w h e =
      let r : Record = record_of n i in
      let good = good_record n g i h in
      let same = (register_widths r.code r.width (get_or n.width r.a 0) (get_or n.width r.b 0) (get_or n.width r.c 0) r.k e good.widths_good_lem).0 in
      let p : 2 ^ width_of n r.a ≡ 2 ^ width_of n i = ap (λ k. 2 ^ k) same in
      rw (← p) (w r.a (register_operand n.width n.nodes i r good e))

  next_on : (x i : ℕ) → ((a : ℕ) → a < n.nodes → v x a < 2 ^ width_of n a) → i < n.nodes → (b : Bool) → register_at n i ≡ b → cond b (v x (record_of n i).a) 0 < 2 ^ width_of n i
  next_on x i w h true e = operand_fits x i w h e
  next_on x i w h false e = pow_pos (width_of n i)

  values-fit : (t : ℕ) → t < cycles → (i : ℕ) → i < n.nodes → v (suc t) i < 2 ^ width_of n i
  values-fit zero l =
      solves-below n (given_at n regs ins v 0) (v 1) (runs 0 l)
      (λ i h. given_on i (get_or ins (0 * ins_of n + ins_in n.code i) 0) (get_or regs i 0) (is_in (record_of n i).code) (λ e. input-fits 0 i l h e) (start_on i h (register_at n i) refl))
  values-fit (suc t) l =
      solves-below n (given_at n regs ins v (suc t)) (v (suc (suc t))) (runs (suc t) l)
      (λ i h. given_on i (get_or ins (suc t * ins_of n + ins_in n.code i) 0) (held_at n regs v (suc t) i) (is_in (record_of n i).code) (λ e. input-fits (suc t) i l h e) (next_on (suc t) i (values-fit t (omega arith)) h (register_at n i) refl))

  kept-after : (t : ℕ) → t ≤ cycles → Registers n (registers_after n regs v t)
  unfolding registers_after
  kept-after zero l = rg
  kept-after (suc t) l = filled n g (λ i. v (suc t) (record_of n i).a) (λ i h e. operand_fits (suc t) i (values-fit t l) h e)

kept_on : (n : Netlist) → AllGood (net_checks n) → (regs : List ℕ) (cycles : ℕ) (ins outs : List ℕ) (r : ℕ) (regs' outs' : List ℕ) → Registers n regs → Stepped n regs cycles ins outs r regs' outs' → (b : Bool) → eqb r 0 ≡ b → Registers n regs'
kept_on n g regs cycles ins outs r regs' outs' rg x true e =
    let z = eqb-true r 0 e in
    let c = good-all 1 (step_checks n cycles ins (length outs)) (lit< tt) (lit≤ tt, (lit≤ tt, (lit≤ tt, tt))) (sym x.answer ∙ z) in
    let v = values_from n g regs ins in
    let h = cycles_exist n g regs ins cycles in
    rw (x.done z v h).0 (kept-after n g regs rg ins cycles v h (every_at _ cycles (whole-good _ c.1.0)) cycles (omega arith))
kept_on n g regs cycles ins outs r regs' outs' rg x false e = rw (x.refused (eqb-false r 0 e)).0 rg

pub steps_keep_registers : StepsKeepRegisters
steps_keep_registers n g regs cycles ins outs r regs' outs' rg x = kept_on n g regs cycles ins outs r regs' outs' rg x (eqb r 0) refl

-- ---- cycle by cycle

step_given : (n : Netlist) → AllGood (net_checks n) → (regs ins : List ℕ) (t : ℕ) (v : ℕ → ℕ → ℕ) → Registers n regs → (i : ℕ) → i < n.nodes
    → given_at n regs ins v t i ≡ given_at n (registers_after n regs v t) (drop (t * ins_of n) ins) (λ m. v (t + m)) 0 i
step_given n g regs ins t v rg i h =
    let z : t * ins_of n + (0 * ins_of n + ins_in n.code i) ≡ t * ins_of n + ins_in n.code i = rw (zero-mul (ins_of n)) (omega arith) in
    let x : get_or (drop (t * ins_of n) ins) (0 * ins_of n + ins_in n.code i) 0 ≡ get_or ins (t * ins_of n + ins_in n.code i) 0 = get_or-drop (t * ins_of n) ins (0 * ins_of n + ins_in n.code i) 0 ∙ ap (λ k. get_or ins k 0) z in
    rw (x, held_is n g (bounds n g) regs rg v t i h)

pub steps_are_steps : StepsAreSteps
unfolding registers_after
steps_are_steps n g regs ins cycles t v rg l runs =
    (one, fill-same (held_at n (registers_after n regs v t) (λ m. v (t + m)) 1) (held_at n regs v (suc t)) n.nodes (replicate 1024 0) (λ i h. ap (λ k. cond (register_at n i) (v k (record_of n i).a) 0) (add-one t)))
  where
    one : Cycles n (registers_after n regs v t) (drop (t * ins_of n) ins) 1 (λ m. v (t + m))
    one zero b i h =
        ap (λ k. v k i) (add-one t)
        ∙ runs t l i h
        ∙ ap (λ x. value (kind_of n i) x (v (suc t))) (step_given n g regs ins t v rg i h)
        ∙ ap (λ k. value (kind_of n i) (given_at n (registers_after n regs v t) (drop (t * ins_of n) ins) (λ m. v (t + m)) 0 i) (v k)) (sym (add-one t))
    one (suc m) b i h = let z : ⊥ = omega arith in absurd z
