-- One cycle of a call: the pass gives the cycle's values, since one set solves it; the outputs and the registers follow.
use mathlib.Core.Path.{◌≡◌, refl, sym, ◌∙◌, ap}
use mathlib.Core.Bool.{Bool, true, false, cond}
use mathlib.Core.List.{List}
use Prim.Native.Nat.{ℕ, zero, suc, ◌+◌, ◌*◌, ◌<◌, ◌≤◌}
use native.Mathlib.Nat.{mod-eq_of_lt}
use native.Mathlib.Numerals.{add-one}
use native.Mathlib.Omega.{arith}
use borrow.Author.Tests.{ltb-true, ltb-false, eqb-true, eqb-false}
use lib.Dec.{ltb}
use lib.ListN.{length, get_or, replicate}
use lib.Seq.{ext_get_or}
use Rattle.base.specs.Checks.{AllGood}
use Rattle.base.proofs.Arrays.{zeros_at}
use Rattle.base.proofs.Fill.{fill_at, fill-past, fill-length}
use Rattle.base.proofs.First.{lowest-good}
use Rattle.base.proofs.Verdicts.{whole-good}
use Rattle.netlist.specs.declared.Netlist.{Netlist}
use Rattle.netlist.specs.Netlists.{record_of, output_of}
use Rattle.netlist.specs.Checks.{net_checks, numbers_good}
use Rattle.netlist.proofs.Numbers.{Within, within}
use Rattle.cycles.specs.Inputs.{ins_in}
use Rattle.codes.specs.Rows.{is_in}
use Rattle.cycles.specs.Netlists.{drawing}
use Rattle.cycles.specs.Pass.{Fields, mk, inside, evals, computed, fill_from}
use Rattle.cycles.specs.Listed.{found_in, Listed, puts, input_at, held_by, next_by}
use Rattle.cycles.specs.Steps.{register_at, ins_of, Registers, held_at, given_at, Cycles, registers_after, outputs_after}
use Rattle.cycles.proofs.Accepted.{good_record, register_operand, ordered}
use Rattle.cycles.proofs.Listed.{found-ins, puts_at, puts-other, puts-length}
use Rattle.cycles.proofs.Passes.{computed_is}
use Rattle.cycles.proofs.Solved.{fields, given_now, pass_solves}
use Rattle.cycles.proofs.Unique.{one_solution}

from-same : (m : ℕ) (f g : ℕ → ℕ) (n : ℕ) (xs : List ℕ) → ((k : ℕ) → k < n → f k ≡ g k) → fill_from m f n xs ≡ fill_from m g n xs
unfolding fill_from
from-same m f g zero xs h = refl
from-same m f g (suc n) xs h = rw (from-same m f g n xs (λ k l. h k (omega arith)), h n (omega arith))

module _ (n : Netlist) (g : AllGood (net_checks n)) (w : Within n) (regs : List ℕ) (rg : Registers n regs) (v : ℕ → ℕ → ℕ) where
  -- the registers after t cycles, element by element
  pub held_is : (t i : ℕ) → i < n.nodes → get_or (registers_after n regs v t) i 0 ≡ held_at n regs v t i
  unfolding registers_after
  held_is zero i h = refl
  held_is (suc t) i h = fill_at (held_at n regs v (suc t)) n.nodes i (replicate 1024 0) h w.nodes

  pub past_is : (t i : ℕ) → n.nodes ≤ i → get_or (registers_after n regs v t) i 0 ≡ 0
  unfolding registers_after
  past_is zero i h = rg.past i (λ l. omega arith)
  past_is (suc t) i h = fill-past (held_at n regs v (suc t)) n.nodes i (replicate 1024 0) h ∙ zeros_at 1024 i

  pub long_is : (t : ℕ) → length (registers_after n regs v t) ≡ 1024
  unfolding registers_after
  long_is zero = rg.long
  long_is (suc t) = fill-length (held_at n regs v (suc t)) n.nodes (replicate 1024 0)

  pub other_is : (t i : ℕ) → i < n.nodes → register_at n i ≡ false → get_or (registers_after n regs v t) i 0 ≡ 0
  unfolding registers_after
  other_is zero i h e = rg.other i h e
  other_is (suc t) i h e = fill_at (held_at n regs v (suc t)) n.nodes i (replicate 1024 0) h w.nodes ∙ rw e

  module _ (ins : List ℕ) (cycles t : ℕ) (runs : Cycles n regs ins cycles v) (on : t < cycles) (vals : List ℕ) (long : length vals ≡ 1024) where
    abbrev held : List ℕ
    held = registers_after n regs v t

    abbrev pub passed : List ℕ
    passed = evals (fields n g w) held ins (t * ins_of n) n.nodes vals

    same-given : (i : ℕ) → i < n.nodes → given_now n g w held ins (t * ins_of n) i ≡ given_at n regs ins v t i
    same-given i h = ap (λ x. cond (is_in (get_or n.code i 0)) (get_or ins (t * ins_of n + ins_in n.code i) 0) x) (held_is t i h)

    -- the pass gives the cycle's values
    pub values_are : (i : ℕ) → i < n.nodes → get_or passed i 0 ≡ v (suc t) i
    values_are i h =
        one_solution (drawing n) (ordered n g) (given_now n g w held ins (t * ins_of n)) (given_at n regs ins v t) (λ q. get_or passed q 0) (v (suc t)) same-given
        (pass_solves n g w held ins (t * ins_of n) vals long) (runs t on) i h

    inside-node : (x : ℕ) → x < n.nodes → get_or passed (inside x) 0 ≡ v (suc t) x
    inside-node x h =
        let e : inside x ≡ x = mod-eq_of_lt (omega (arith, w.nodes)) in
        ap (λ k. get_or passed k 0) e ∙ values_are x h

    -- the registers, changed at the list's nodes
    module _ (list : List ℕ) (right : Listed 2 n.code n.nodes list) where
      abbrev changed : List ℕ
      changed = puts list (next_by list n.a passed) (found_in 2 n.code n.nodes) held

      next_on : (i : ℕ) → i < n.nodes → (b : Bool) → register_at n i ≡ b → get_or changed i 0 ≡ cond b (v (suc t) (record_of n i).a) 0
      next_on i h true e =
          let k : (record_of n i).code ≡ 2 = eqb-true (record_of n i).code 2 e in
          let p : inside (get_or list (found_in 2 n.code i) 0) ≡ i = ap inside (right.placed i h k) ∙ mod-eq_of_lt (omega (arith, w.nodes)) in
          puts_at 2 n.code list (next_by list n.a passed) held n.nodes w.nodes (long_is t) right i h k
          ∙ ap (λ q. get_or passed (inside (get_or n.a q 0)) 0) p
          ∙ inside-node (record_of n i).a (register_operand n.width n.nodes i (record_of n i) (good_record n g i h) e)
      next_on i h false e =
          puts-other 2 n.code list (next_by list n.a passed) held n.nodes w.nodes right i (λ l k. eqb-false (record_of n i).code 2 e k)
          ∙ other_is t i h e

      next_at : (i : ℕ) (b : Bool) → ltb i n.nodes ≡ b → get_or changed i 0 ≡ get_or (registers_after n regs v (suc t)) i 0
      next_at i true e =
          let h = ltb-true i n.nodes e in
          next_on i h (register_at n i) refl ∙ sym (held_is (suc t) i h)
      next_at i false e =
          let h = ltb-false i n.nodes e in
          puts-other 2 n.code list (next_by list n.a passed) held n.nodes w.nodes right i (λ l k. omega arith)
          ∙ past_is t i h
          ∙ sym (past_is (suc t) i h)

      pub registers_change : changed ≡ registers_after n regs v (suc t)
      registers_change =
          ext_get_or 0 changed (registers_after n regs v (suc t)) (puts-length list (next_by list n.a passed) (found_in 2 n.code n.nodes) held ∙ long_is t ∙ sym (long_is (suc t)))
          (λ i b. next_at i (ltb i n.nodes) refl)

    output-node : (j : ℕ) → j < n.outputs → output_of n j < n.nodes
    output-node j h = ltb-true (output_of n j) n.nodes (lowest-good (λ i. ltb (output_of n i) n.nodes) n.outputs g.1.1.0 j h)

    pub outputs_change : (outs : List ℕ) → fill_from (t * n.outputs) (λ j. get_or passed (inside (output_of n j)) 0) n.outputs (outputs_after n v outs t) ≡ outputs_after n v outs (suc t)
    unfolding outputs_after
    outputs_change outs = from-same (t * n.outputs) (λ j. get_or passed (inside (output_of n j)) 0) (λ j. v (suc t) (output_of n j)) n.outputs (outputs_after n v outs t) (λ j h. inside-node (output_of n j) (output-node j h))

-- the pass of the code: INs and REGs take their values by their lists, and the other nodes follow
pub pass_is : (F : Fields) (regs ins list holding : List ℕ) (t n per held : ℕ) (vals first start done : List ℕ)
    → n ≤ 1024
    → length vals ≡ 1024
    → per ≡ found_in 0 F.code n
    → Listed 0 F.code n list
    → held ≡ found_in 2 F.code n
    → Listed 2 F.code n holding
    → first ≡ puts list (input_at ins (t * per)) per vals
    → start ≡ puts holding (held_by holding regs) held first
    → done ≡ computed F n start
    → done ≡ evals F regs ins (t * ins_in F.code n) n start
pass_is F regs ins list holding t n per held vals first start done b long many right more holds f s d =
    d
    ∙ computed_is F regs ins (t * per) n start
    (λ i h e.
    let k : get_or F.code i 0 ≡ 0 = eqb-true (get_or F.code i 0) 0 e in
    ap (λ l. get_or l i 0) s
    ∙ ap (λ q. get_or (puts holding (held_by holding regs) q first) i 0) more
    ∙ puts-other 2 F.code holding (held_by holding regs) first n b holds i (λ l z. omega (arith, k, z))
    ∙ ap (λ l. get_or l i 0) f
    ∙ ap (λ q. get_or (puts list (input_at ins (t * per)) q vals) i 0) many
    ∙ puts_at 0 F.code list (input_at ins (t * per)) vals n b long right i h k
    ∙ ap (λ q. get_or ins (t * per + q) 0) (found-ins F.code i))
    (λ i h e.
    let k : get_or F.code i 0 ≡ 2 = eqb-true (get_or F.code i 0) 2 e in
    let p : inside (get_or holding (found_in 2 F.code i) 0) ≡ i = ap inside (holds.placed i h k) ∙ mod-eq_of_lt (omega arith) in
    ap (λ l. get_or l i 0) s
    ∙ ap (λ q. get_or (puts holding (held_by holding regs) q first) i 0) more
    ∙ puts_at 2 F.code holding (held_by holding regs) first n b (ap length f ∙ puts-length list (input_at ins (t * per)) per vals ∙ long) holds i h k
    ∙ ap (λ q. get_or regs q 0) p)
    ∙ ap (λ x. evals F regs ins (t * x) n start) (many ∙ found-ins F.code n)

-- after t cycles of a call: for whatever solves its cycles
abbrev pub Promised : Netlist → List ℕ → List ℕ → ℕ → List ℕ → ℕ → List ℕ → List ℕ → Type 0
Promised n regs ins cycles outs t regs' outs' =
    AllGood (net_checks n)
    → Registers n regs
    → (v : ℕ → ℕ → ℕ)
    → Cycles n regs ins cycles v
    → (regs' ≡ registers_after n regs v t) × (outs' ≡ outputs_after n v outs t)

pub promised_none : (n : Netlist) (regs ins : List ℕ) (cycles : ℕ) (outs : List ℕ) → Promised n regs ins cycles outs 0 regs outs
unfolding registers_after outputs_after
promised_none n regs ins cycles outs g rg v runs = (refl, refl)

pub promised_turn : (n : Netlist) (regs ins : List ℕ) (cycles : ℕ) (outs : List ℕ) (t : ℕ) (old vals done put next more list : List ℕ) (held : ℕ)
    → Promised n regs ins cycles outs t old put
    → t < cycles
    → length vals ≡ 1024
    → done ≡ evals (mk n.code n.width n.a n.b n.c n.k) old ins (t * ins_of n) n.nodes vals
    → held ≡ found_in 2 n.code n.nodes
    → Listed 2 n.code n.nodes list
    → next ≡ puts list (next_by list n.a done) held old
    → more ≡ fill_from (t * n.outputs) (λ j. get_or done (inside (output_of n j)) 0) n.outputs put
    → Promised n regs ins cycles outs (t + 1) next more
promised_turn n regs ins cycles outs t old vals done put next more list held before on long is many right changed shown g rg v runs =
    let w = within n (whole-good (numbers_good n) g.0) in
    let b = before g rg v runs in
    let same : done ≡ evals (fields n g w) (registers_after n regs v t) ins (t * ins_of n) n.nodes vals = is ∙ ap (λ l. evals (fields n g w) l ins (t * ins_of n) n.nodes vals) b.0 in
    rw (add-one t) (
      changed
          ∙ ap (λ d. puts list (next_by list n.a d) held old) same
          ∙ ap (λ l. puts list (next_by list n.a (passed n g w regs rg v ins cycles t runs on vals long)) held l) b.0
          ∙ ap (λ m. puts list (next_by list n.a (passed n g w regs rg v ins cycles t runs on vals long)) m (registers_after n regs v t)) many
          ∙ registers_change n g w regs rg v ins cycles t runs on vals long list right,
      shown
          ∙ ap (λ d. fill_from (t * n.outputs) (λ j. get_or d (inside (output_of n j)) 0) n.outputs put) same
          ∙ ap (λ l. fill_from (t * n.outputs) (λ j. get_or (passed n g w regs rg v ins cycles t runs on vals long) (inside (output_of n j)) 0) n.outputs l) b.1
          ∙ outputs_change n g w regs rg v ins cycles t runs on vals long outs,
    )
