-- What a pass leaves solves the cycle's equations: each node is set once, after the operands that it follows, which have smaller numbers.
use mathlib.Core.Path.{◌≡◌, refl, sym, ◌∙◌}
use mathlib.Core.Bool.{Bool, true, false, cond, ◌&&◌}
use mathlib.Core.List.{List, [], ◌∷◌, map}
use mathlib.Core.Logic.{⊎_elim}
use Prim.Native.Nat.{ℕ, zero, suc, ◌+◌, ◌<◌, ◌≤◌}
use native.Mathlib.Nat.{not-suc-le-zero, le_of_suc-le-suc, eq-or-lt_of_le, mod-eq_of_lt}
use native.Mathlib.Omega.{arith}
use borrow.Author.Tests.{ltb-true, ltb-false, ne_eqb}
use lib.Dec.{ltb}
use lib.ListN.{length, get_or, set}
use lib.Seq.{get_or-set_same, get_or-set_other}
use Rattle.base.specs.Checks.{AllGood}
use Rattle.base.proofs.Tests.{and_left, and_right}
use Rattle.codes.specs.declared.Record.{Record}
use Rattle.codes.specs.declared.Row.{Row}
use Rattle.codes.specs.Rows.{rows, place, place_of, is_in, is_reg, count_of}
use Rattle.codes.proofs.Apart.{field_below}
use Rattle.netlist.specs.declared.Netlist.{Netlist}
use Rattle.netlist.specs.Netlists.{record_of}
use Rattle.netlist.specs.Checks.{net_checks}
use Rattle.netlist.proofs.Numbers.{Within}
use Rattle.cycles.specs.Drawings.{input, register, oper, value, Solves}
use Rattle.cycles.specs.Inputs.{ins_in}
use Rattle.codes.specs.Records.{operands_in}
use Rattle.cycles.specs.Netlists.{operator, kind_of, width_of, drawing}
use Rattle.cycles.specs.Pass.{Fields, mk, inside, node_in, node_now, evals}
use Rattle.cycles.proofs.Accepted.{good_record, ordered}
use Rattle.cycles.proofs.Arity.{count_is, same_operands, nth_first, nth_second, nth_third}
use Rattle.cycles.proofs.Passes.{evals-length}
use Rattle.cycles.proofs.Unique.{same-value}

-- a code that has a row is a byte
abbrev small : List Row → Bool
small [] = true
small (r ∷ rs) = ltb r.code 256 && small rs

beyond : (rs : List Row) (i code : ℕ) → small rs ≡ true → 256 ≤ code → place rs i code ≡ i + length rs
unfolding place
beyond [] i code s h = omega arith
beyond (r ∷ rs) i code s h =
    let b : r.code < 256 = ltb-true r.code 256 (and_left (ltb r.code 256) (small rs) s) in
    rw (ne_eqb r.code code (λ e. omega arith)) (beyond rs (suc i) code (and_right (ltb r.code 256) (small rs) s) h ∙ omega arith)

byte_on_lem : (code : ℕ) → place_of code < 19 → (b : Bool) → ltb code 256 ≡ b → code < 256
unfolding rows
byte_on_lem code h true e = ltb-true code 256 e
byte_on_lem code h false e =
    let p : place_of code ≡ 0 + 19 = beyond rows 0 code refl (ltb-false code 256 e) in
    let z : ⊥ = omega arith in
    absurd z

pub byte : (code : ℕ) → place_of code < 19 → code < 256
byte code h = byte_on_lem code h (ltb code 256) refl

module _ (n : Netlist) (g : AllGood (net_checks n)) (w : Within n) where
  abbrev pub fields : Fields
  fields = mk n.code n.width n.a n.b n.c n.k

  -- what is given: the inputs from place m on, and the registers
  abbrev pub given_now : List ℕ → List ℕ → ℕ → ℕ → ℕ
  given_now regs ins m i = cond (is_in (get_or n.code i 0)) (get_or ins (m + ins_in n.code i) 0) (get_or regs i 0)

  inside_is : (x : ℕ) → x < n.nodes → inside x ≡ x
  inside_is x h = mod-eq_of_lt (omega (arith, w.nodes))

  -- a stored operand is a node, an unused one node 0
  record Stored (i : ℕ) : Type 0 where
    a_is : inside (record_of n i).a ≡ (record_of n i).a
    b_is : inside (record_of n i).b ≡ (record_of n i).b
    c_is : inside (record_of n i).c ≡ (record_of n i).c

  stored : (i : ℕ) → i < n.nodes → Stored i
  stored i h =
      let r : Record = record_of n i in
      let q = good_record n g i h in
      let count : ℕ = count_of r.code in
      record {
        a_is = inside_is r.a (field_below (ltb 0 count) n.nodes i r.code r.a w.some q.a_good);
        b_is = inside_is r.b (field_below (ltb 1 count) n.nodes i r.code r.b w.some q.b_good);
        c_is = inside_is r.c (field_below (ltb 2 count) n.nodes i r.code r.c w.some q.c_good);
      }

  calculated : (vals : List ℕ) (i : ℕ) → i < n.nodes → node_in fields vals i ≡ operator (record_of n i) (width_of n (record_of n i).b) (map (λ q. get_or vals q 0) (operands_in (record_of n i)))
  unfolding node_in
  calculated vals i h =
      let r : Record = record_of n i in
      let q = good_record n g i h in
      let s = stored i h in
      let f : ℕ → ℕ = λ m. get_or vals m 0 in
      rw (s.a_is, s.b_is, s.c_is)
      (same_operands r.code r.width (width_of n r.b) r.k (f r.a) (f r.b) (f r.c) _ _ _
      (λ l. count_is r.code (byte r.code q.known) l q.known)
      (λ l. sym (nth_first f (count_of r.code) r.a r.b r.c l))
      (λ l. sym (nth_second f (count_of r.code) r.a r.b r.c l))
      (λ l. sym (nth_third f (count_of r.code) r.a r.b r.c l)))

  -- a node as the pass sets it
  now_on : (regs ins : List ℕ) (m i : ℕ) (vals : List ℕ) → i < n.nodes → (x y : Bool)
      → cond x (get_or ins (m + ins_in n.code i) 0) (cond y (get_or regs i 0) (node_in fields vals i))
      ≡ value (cond x input (cond y (register (record_of n i).k (record_of n i).a) (oper (operator (record_of n i) (width_of n (record_of n i).b)) (operands_in (record_of n i))))) (cond x (get_or ins (m + ins_in n.code i) 0) (get_or regs i 0)) (λ q. get_or vals q 0)
  now_on regs ins m i vals h true y = refl
  now_on regs ins m i vals h false true = refl
  now_on regs ins m i vals h false false = calculated vals i h

  now_is : (regs ins : List ℕ) (m i : ℕ) (vals : List ℕ) → i < n.nodes → node_now fields regs ins (m + ins_in n.code i) vals i ≡ value (kind_of n i) (given_now regs ins m i) (λ q. get_or vals q 0)
  unfolding node_now
  now_is regs ins m i vals h = now_on regs ins m i vals h (is_in (get_or n.code i 0)) (is_reg (get_or n.code i 0))

  -- a store past the operands that a node follows
  kept : (vals : List ℕ) (j i x l : ℕ) → j ≤ i → j < n.nodes → value (kind_of n j) l (λ q. get_or vals q 0) ≡ value (kind_of n j) l (λ q. get_or (set vals i x) q 0)
  kept vals j i x l h b = same-value (kind_of n j) l l (λ q. get_or vals q 0) (λ q. get_or (set vals i x) q 0) refl (λ a m. sym (get_or-set_other vals i a x 0 (λ e. omega (arith, (ordered n g).ranked j a b m))))

  module _ (regs ins : List ℕ) (m : ℕ) (vals : List ℕ) (long : length vals ≡ 1024) where
    abbrev after : ℕ → List ℕ
    after i = evals fields regs ins m i vals

    -- the nodes that were passed are solved
    solved_to : (i : ℕ) → i ≤ n.nodes → (j : ℕ) → j < i → get_or (after i) j 0 ≡ value (kind_of n j) (given_now regs ins m j) (λ q. get_or (after i) q 0)
    unfolding evals
    solved_to zero h j l = absurd (not-suc-le-zero l)
    solved_to (suc i) h j l =
        let E : List ℕ = after i in
        let x : ℕ = node_now fields regs ins (m + ins_in n.code i) E i in
        let big : length E ≡ 1024 = evals-length fields regs ins m i vals ∙ long in
        ⊎_elim
        (λ (e : j ≡ i).
        rw e
        (get_or-set_same E i x 0 (omega (arith, w.nodes))
        ∙ now_is regs ins m i E (omega arith)
        ∙ kept E i i x (given_now regs ins m i) (omega arith) (omega arith)))
        (λ (b : j < i).
        get_or-set_other E i j x 0 (omega arith)
        ∙ solved_to i (omega arith) j b
        ∙ kept E j i x (given_now regs ins m j) (omega arith) (omega arith))
        (eq-or-lt_of_le (le_of_suc-le-suc l))

    pub pass_solves : Solves (drawing n) (given_now regs ins m) (λ q. get_or (after n.nodes) q 0)
    pass_solves i h = solved_to n.nodes (omega arith) i h
