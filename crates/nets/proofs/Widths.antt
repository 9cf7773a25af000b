-- Widths are kept: a node's operator gives a value in its width, a REG's first value has it, and its operand has the same width.
use mathlib.Core.Path.{◌≡◌, refl, sym, ap, ◌∙◌, subst}
use mathlib.Core.Logic.{◌≢◌}
use mathlib.Core.Bool.{Bool, true, false, cond}
use mathlib.Core.List.{List}
use Prim.Native.Nat.{ℕ, ◌<◌, ◌^◌}
use native.Mathlib.Omega.{arith}
use borrow.Author.Tests.{ltb-true}
use lib.Pow.{pow_pos}
use Rattle.base.specs.Checks.{AllGood}
use Rattle.codes.specs.declared.Record.{Record}
use Rattle.codes.specs.Rows.{is_in, is_reg}
use Rattle.codes.specs.Records.{operands_in}
use Rattle.netlist.specs.declared.Netlist.{Netlist}
use Rattle.netlist.specs.Netlists.{record_of}
use Rattle.netlist.specs.Checks.{net_checks}
use Rattle.values.proofs.Bounds.{value-below}
use Rattle.cycles.specs.Drawings.{input, register, oper, value}
use Rattle.cycles.specs.Netlists.{operator, kind_of, width_of}
use Rattle.cycles.specs.Steps.{register_at}
use Rattle.cycles.proofs.Accepted.{good_record}
use Rattle.cycles.proofs.Below.{register_widths}
use Rattle.cut.specs.declared.Cut.{Cut}
use Rattle.nets.specs.Networks.{network_of}
use Rattle.nets.proofs.Bounded.{Keeps}
use Rattle.nets.proofs.Stores.{in_not_reg}

-- a record's operator
oper_on : (r : Record) (u : ℕ) (v : ℕ → ℕ) (x y : Bool) → value (cond x input (cond y (register r.k r.a) (oper (operator r u) (operands_in r)))) 0 v < 2 ^ r.width
oper_on r u v true y = pow_pos r.width
oper_on r u v false true = pow_pos r.width
oper_on r u v false false = value-below r.code r.width u r.k _ _ _

-- a record that is a REG's
register_on : (r : Record) (f : List ℕ → ℕ) (k a : ℕ) (x y : Bool) → cond x input (cond y (register r.k r.a) (oper f (operands_in r))) ≡ register k a
    → (y ≡ true) × (r.k ≡ k) × (r.a ≡ a)
register_on r f k a true y e = let z : ◌≡◌ {A = ℕ} 0 1 = cc in let w : ⊥ = omega arith in absurd w
register_on r f k a false true e = (refl, cc, cc)
register_on r f k a false false e = let z : ◌≡◌ {A = ℕ} 0 1 = cc in let w : ⊥ = omega arith in absurd w

-- by its code, and back
pub is_register : (n : Netlist) (i k a : ℕ) → kind_of n i ≡ register k a → register_at n i ≡ true
is_register n i k a e =
    (register_on (record_of n i) (operator (record_of n i) (width_of n (record_of n i).b)) k a (is_in (record_of n i).code) (is_reg (record_of n i).code) e).0

register-off : (r : Record) (f : List ℕ → ℕ) (x y : Bool) → (x ≡ true → y ≡ false) → ((k a : ℕ) → cond x input (cond y (register r.k r.a) (oper f (operands_in r))) ≢ register k a) → y ≡ false
register-off r f true y c h = c refl
register-off r f false true c h = absurd (h r.k r.a refl)
register-off r f false false c h = refl

pub register_is : (n : Netlist) (i : ℕ) → ((k a : ℕ) → kind_of n i ≢ register k a) → register_at n i ≡ false
register_is n i h =
    register-off (record_of n i) (operator (record_of n i) (width_of n (record_of n i).b)) (is_in (record_of n i).code) (is_reg (record_of n i).code)
    (in_not_reg (record_of n i).code) h

module _ (n : Netlist) (g : AllGood (net_checks n)) where
  -- its first value fits, and its operand has its width
  register-fits : (i k a : ℕ) → i < n.nodes → kind_of n i ≡ register k a → (width_of n a ≡ width_of n i) × (k < 2 ^ width_of n i)
  register-fits i k a l e =
      let r : Record = record_of n i in
      let o = register_on r (operator r (width_of n r.b)) k a (is_in r.code) (is_reg r.code) e in
      let w = register_widths r.code r.width (width_of n r.a) (width_of n r.b) (width_of n r.c) r.k o.0 (good_record n g i l).widths_good_lem in
      (ap (width_of n) (sym o.2) ∙ w.0, subst (λ x. x < 2 ^ width_of n i) o.1 w.1)

  pub keeps_widths : (c : Cut) (limit : ℕ) → Keeps (network_of n c limit) (λ i x. x < 2 ^ width_of n i)
  keeps_widths c limit =
      record {
        zero_ok = λ i. pow_pos (width_of n i);
        fed_ok = λ i x e. ltb-true x (2 ^ width_of n i) e;
        oper_ok = λ i f xs l e v h.
            subst (λ x. x < 2 ^ width_of n i) (ap (λ k. value k 0 v) e)
            (oper_on (record_of n i) (width_of n (record_of n i).b) v (is_in (record_of n i).code) (is_reg (record_of n i).code));
        first_ok = λ i k a l e. (register-fits i k a l e).1;
        next_ok = λ i k a x l e h. subst (λ w. x < 2 ^ w) (register-fits i k a l e).0 h;
      }
