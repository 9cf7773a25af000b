-- Every value is below 2 ^ w: an operator's by its meaning, an input's as given, a register's because its first value and its operand have its width.
use mathlib.Core.Path.{◌≡◌, refl, ap}
use mathlib.Core.Bool.{Bool, true, false, cond, ◌&&◌}
use mathlib.Core.List.{List}
use Prim.Native.Nat.{ℕ, zero, suc, ◌<◌, ◌^◌}
use native.Mathlib.Omega.{arith}
use borrow.Author.Tests.{ltb-true, eqb-true}
use lib.Dec.{eqb, ltb}
use lib.ListN.{get_or}
use lib.Pow.{pow_pos}
use Rattle.base.specs.Checks.{AllGood}
use Rattle.base.proofs.Tests.{and_left, and_right}
use Rattle.codes.specs.declared.Record.{Record}
use Rattle.codes.specs.Rows.{rows, place, row_at, place_of, is_in, is_reg}
use Rattle.codes.specs.Records.{widths_good, operands_in}
use Rattle.netlist.specs.declared.Netlist.{Netlist}
use Rattle.netlist.specs.Netlists.{record_of}
use Rattle.netlist.specs.Checks.{net_checks}
use Rattle.values.proofs.Bounds.{value-below}
use Rattle.cycles.specs.Drawings.{input, register, oper, value, given, Solves, Runs}
use Rattle.cycles.specs.Netlists.{operator, kind_of, width_of, drawing}
use Rattle.cycles.proofs.Accepted.{good_record, register_operand}

-- a register's operand has its width, and its first value fits
pub register_widths : (code w x y z k : ℕ) → is_reg code ≡ true → widths_good (row_at (place_of code)).rule w x y z k ≡ true → (x ≡ w) × (k < 2 ^ w)
unfolding rows place
register_widths code w x y z k e h =
    let c : code ≡ 2 = eqb-true code 2 e in
    let g : (eqb x w && ltb k (2 ^ w)) ≡ true = rw c at h in
    (eqb-true x w (and_left (eqb x w) (ltb k (2 ^ w)) g), ltb-true k (2 ^ w) (and_right (eqb x w) (ltb k (2 ^ w)) g))

node_on : (r : Record) (u l : ℕ) (v : ℕ → ℕ) (x y : Bool) → l < 2 ^ r.width → value (cond x input (cond y (register r.k r.a) (oper (operator r u) (operands_in r)))) l v < 2 ^ r.width
node_on r u l v true y h = h
node_on r u l v false true h = h
node_on r u l v false false h = value-below r.code r.width u r.k _ _ _

pub solves-below : (n : Netlist) (l v : ℕ → ℕ) → Solves (drawing n) l v → ((i : ℕ) → i < n.nodes → l i < 2 ^ width_of n i) → (i : ℕ) → i < n.nodes → v i < 2 ^ width_of n i
solves-below n l v h b i k = rw (h i k) (node_on (record_of n i) (width_of n (record_of n i).b) (l i) v (is_in (record_of n i).code) (is_reg (record_of n i).code) (b i k))

module _ (n : Netlist) (g : AllGood (net_checks n)) (s v : ℕ → ℕ → ℕ) (fits : (i m : ℕ) → i < n.nodes → is_in (record_of n i).code ≡ true → s i m < 2 ^ width_of n i) where
  abbrev Fit : ℕ → Type 0
  Fit m = (i : ℕ) → i < n.nodes → v m i < 2 ^ width_of n i

  given_on : (r : Record) (f : List ℕ → ℕ) (t m w : ℕ) (x y : Bool) → (x ≡ true → t < 2 ^ w) → (y ≡ true → (r.k < 2 ^ w) × ((j : ℕ) → m ≡ suc j → v m r.a < 2 ^ w)) → 0 < 2 ^ w → given (cond x input (cond y (register r.k r.a) (oper f (operands_in r)))) t v m < 2 ^ w
  given_on r f t m w true y hx hy pos = hx refl
  given_on r f t zero w false true hx hy pos = (hy refl).0
  given_on r f t (suc m) w false true hx hy pos = (hy refl).1 m refl
  given_on r f t m w false false hx hy pos = pos

  given_below : (m : ℕ) → ((j : ℕ) → m ≡ suc j → Fit m) → (i : ℕ) → i < n.nodes → given (kind_of n i) (s i (suc m)) v m < 2 ^ width_of n i
  given_below m before i h =
      let r : Record = record_of n i in
      let good = good_record n g i h in
      given_on r (operator r (width_of n r.b)) (s i (suc m)) m (width_of n i) (is_in r.code) (is_reg r.code)
      (λ e. fits i (suc m) h e)
      (λ e.
      let w = register_widths r.code r.width (get_or n.width r.a 0) (get_or n.width r.b 0) (get_or n.width r.c 0) r.k e good.widths_good_lem in
      let same : 2 ^ width_of n r.a ≡ 2 ^ width_of n i = ap (λ k. 2 ^ k) w.0 in
      (w.1, λ j q. rw (← same) (before j q r.a (register_operand n.width n.nodes i r good e))))
      (pow_pos (width_of n i))

  pub runs-below : Runs (drawing n) s v → (m : ℕ) → Fit (suc m)
  runs-below h zero = solves-below n (λ i. given (kind_of n i) (s i 1) v 0) (v 1) (h 0) (given_below 0 (λ j q. let z : ⊥ = omega arith in absurd z))
  runs-below h (suc m) = solves-below n (λ i. given (kind_of n i) (s i (suc (suc m))) v (suc m)) (v (suc (suc m))) (h (suc m)) (given_below (suc m) (λ j q. runs-below h m))
