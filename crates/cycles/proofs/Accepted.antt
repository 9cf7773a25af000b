-- What a good record says of its node: its operands exist, those that are followed in the cycle have smaller numbers, and its values have its width.
use mathlib.Core.Path.{◌≡◌, refl}
use mathlib.Core.Bool.{Bool, true, false, cond, ◌||◌}
use mathlib.Core.List.{List, [], ◌∷◌, Memᴰ}
use Prim.Native.Nat.{ℕ, zero, suc, ◌<◌}
use native.Mathlib.Nat.{zero-lt-suc}
use native.Mathlib.Omega.{arith}
use borrow.Author.Tests.{ltb-true, eqb-true, lt-ltb}
use lib.Dec.{eqb, ltb, lit<}
use lib.ListN.{take}
use lib.Seq.{take-nil}
use Rattle.base.specs.Checks.{AllGood}
use Rattle.base.proofs.First.{lowest-good}
use Rattle.base.proofs.Tests.{and_left, and_right}
use Rattle.codes.specs.declared.Record.{Record}
use Rattle.codes.specs.Rows.{rows, place, is_in, is_reg, count_of}
use Rattle.codes.proofs.Apart.{GoodRecord, apart}
use Rattle.codes.specs.Records.{operand_good, field_good, record_good, operands_in}
use Rattle.netlist.specs.declared.Netlist.{Netlist}
use Rattle.netlist.specs.Netlists.{record_of}
use Rattle.netlist.specs.Checks.{net_checks}
use Rattle.cycles.specs.Drawings.{input, register, oper, operands, inner, Ordered}
use Rattle.cycles.specs.Netlists.{operator, kind_in, width_of, drawing}

-- an operand that is used
used : (count j nodes i code x : ℕ) → j < count → field_good (ltb j count) nodes i code x ≡ true → operand_good nodes i code x ≡ true
used count j nodes i code x h e = rw (lt-ltb j count h) at e

-- the members of a record's operands
member : (P : ℕ → Type 0) (count a b c : ℕ) → (0 < count → P a) → (1 < count → P b) → (2 < count → P c) → (x : ℕ) → Memᴰ x (take count (a ∷ b ∷ c ∷ [])) → P x
member P zero a b c pa pb pc x m = elim m [ ]
member P (suc zero) a b c pa pb pc x (mathlib.Core.List.Memᴰ.head e) = rw e (pa (zero-lt-suc 0))
member P (suc zero) a b c pa pb pc x (mathlib.Core.List.Memᴰ.tail m) = elim m [ ]
member P (suc (suc zero)) a b c pa pb pc x (mathlib.Core.List.Memᴰ.head e) = rw e (pa (omega arith))
member P (suc (suc zero)) a b c pa pb pc x (mathlib.Core.List.Memᴰ.tail (mathlib.Core.List.Memᴰ.head e)) = rw e (pb (omega arith))
member P (suc (suc zero)) a b c pa pb pc x (mathlib.Core.List.Memᴰ.tail (mathlib.Core.List.Memᴰ.tail m)) = elim m [ ]
member P (suc (suc (suc n))) a b c pa pb pc x (mathlib.Core.List.Memᴰ.head e) = rw e (pa (omega arith))
member P (suc (suc (suc n))) a b c pa pb pc x (mathlib.Core.List.Memᴰ.tail (mathlib.Core.List.Memᴰ.head e)) = rw e (pb (omega arith))
member P (suc (suc (suc n))) a b c pa pb pc x (mathlib.Core.List.Memᴰ.tail (mathlib.Core.List.Memᴰ.tail (mathlib.Core.List.Memᴰ.head e))) = rw e (pc (omega arith))
member P (suc (suc (suc n))) a b c pa pb pc x (mathlib.Core.List.Memᴰ.tail (mathlib.Core.List.Memᴰ.tail (mathlib.Core.List.Memᴰ.tail m))) =
    let none : Memᴰ x [] = rw (take-nil n) at m in
    elim none [ ]

-- by what the node is: an input has no operand, a register one, and an operator those that its code takes
by_kind : (P : ℕ → Type 0) (r : Record) (f : List ℕ → ℕ) (x y : Bool) → (y ≡ true → P r.a) → ((a : ℕ) → Memᴰ a (operands_in r) → P a)
    → (a : ℕ) → Memᴰ a (operands (cond x input (cond y (register r.k r.a) (oper f (operands_in r))))) → P a
by_kind P r f true y reg ops a m = elim m [ ]
by_kind P r f false true reg ops a (mathlib.Core.List.Memᴰ.head e) = rw e (reg refl)
by_kind P r f false true reg ops a (mathlib.Core.List.Memᴰ.tail m) = elim m [ ]
by_kind P r f false false reg ops a m = ops a m

-- the same for those that are followed in the cycle, which a register's is not
by_inner : (P : ℕ → Type 0) (r : Record) (f : List ℕ → ℕ) (x y : Bool) → (y ≡ false → (a : ℕ) → Memᴰ a (operands_in r) → P a)
    → (a : ℕ) → Memᴰ a (inner (cond x input (cond y (register r.k r.a) (oper f (operands_in r))))) → P a
by_inner P r f true y ops a m = elim m [ ]
by_inner P r f false true ops a m = elim m [ ]
by_inner P r f false false ops a m = ops refl a m

reg_count : (code : ℕ) → code ≡ 2 → 0 < count_of code
unfolding rows place
reg_count code e = rw e (lit< tt)

smaller : (code x i : ℕ) → eqb code 0x02 ≡ false → (eqb code 0x02 || ltb x i) ≡ true → x < i
smaller code x i e h = ltb-true x i (rw e at h)

module _ (widths : List ℕ) (nodes i : ℕ) (r : Record) (g : GoodRecord widths nodes i r) where
  -- every operand is good
  pub each-good : (P : ℕ → Type 0) → ((x : ℕ) → operand_good nodes i r.code x ≡ true → P x) → (x : ℕ) → Memᴰ x (operands_in r) → P x
  each-good P f =
      member P (count_of r.code) r.a r.b r.c
      (λ h. f r.a (used (count_of r.code) 0 nodes i r.code r.a h g.a_good))
      (λ h. f r.b (used (count_of r.code) 1 nodes i r.code r.b h g.b_good))
      (λ h. f r.c (used (count_of r.code) 2 nodes i r.code r.c h g.c_good))

  pub exists : (x : ℕ) → operand_good nodes i r.code x ≡ true → x < nodes
  exists x e = ltb-true x nodes (and_left (ltb x nodes) (eqb r.code 0x02 || ltb x i) e)

  pub register_operand : is_reg r.code ≡ true → r.a < nodes
  register_operand e = exists r.a (used (count_of r.code) 0 nodes i r.code r.a (reg_count r.code (eqb-true r.code 2 e)) g.a_good)

  pub known_operand : (v a : ℕ) → Memᴰ a (operands (kind_in r v)) → a < nodes
  known_operand v a m = by_kind (λ x. x < nodes) r (operator r v) (is_in r.code) (is_reg r.code) register_operand (each-good (λ x. x < nodes) exists) a m

  pub smaller_operand : (v a : ℕ) → Memᴰ a (inner (kind_in r v)) → a < i
  smaller_operand v a m =
      by_inner (λ x. x < i) r (operator r v) (is_in r.code) (is_reg r.code)
      (λ e. each-good (λ x. x < i) (λ x h. smaller r.code x i e (and_right (ltb x nodes) (eqb r.code 0x02 || ltb x i) h)))
      a m

-- the records of an accepted netlist
pub good_record : (n : Netlist) → AllGood (net_checks n) → (i : ℕ) → i < n.nodes → GoodRecord n.width n.nodes i (record_of n i)
good_record n g i h = apart n.width n.nodes i (record_of n i) (lowest-good (λ j. record_good n.width n.nodes j (record_of n j)) n.nodes g.1.0 i h)

pub ordered : (n : Netlist) → AllGood (net_checks n) → Ordered (drawing n)
ordered n g =
    record {
      known = λ b a h m. known_operand n.width n.nodes b (record_of n b) (good_record n g b h) (width_of n (record_of n b).b) a m;
      ranked = λ b a h m. smaller_operand n.width n.nodes b (record_of n b) (good_record n g b h) (width_of n (record_of n b).b) a m;
    }
