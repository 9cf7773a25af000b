-- What a node reads by its plan is what the network's definition reads: a used field at its operand's own place where that is in the reader's part, and at the
-- oldest token of its channel elsewhere. By what the queues' maps say: none, or the channel's place, which is below 512.
use mathlib.Core.Path.{◌≡◌, refl, ◌∙◌, ap}
use mathlib.Core.Bool.{Bool, true, false, cond, not, or-true}
use mathlib.Core.List.{List, [], ◌∷◌}
use Prim.Native.Nat.{ℕ, zero, suc, ◌+◌, ◌%◌, ◌<◌}
use native.Mathlib.Nat.{not-suc-le-zero}
use native.Mathlib.Omega.{arith}
use borrow.Author.Tests.{eqb-false, eq-eqb, ne_eqb, lt-ltb}
use lib.Dec.{eqb, ltb}
use lib.ListN.{get_or, take, replicate, length-replicate}
use Rattle.base.specs.Checks.{AllGood}
use Rattle.base.specs.Lists.{fill}
use Rattle.base.proofs.Fill.{fill_at}
use Rattle.base.proofs.Verdicts.{whole-good}
use Rattle.codes.specs.Rows.{count_of}
use Rattle.codes.specs.Records.{operands_in}
use Rattle.netlist.specs.declared.Netlist.{Netlist}
use Rattle.netlist.specs.Netlists.{record_of}
use Rattle.netlist.specs.Checks.{numbers_good, net_checks}
use Rattle.netlist.proofs.Numbers.{Within, within}
use Rattle.queues.specs.Lists.{member}
use Rattle.queues.specs.Queues.{part_of, channel_place}
use Rattle.queues.specs.Found.{no_queue, via_of}
use Rattle.queues.proofs.Order.{each-channel, operand_crosses}
use Rattle.cut.specs.declared.Cut.{Cut}
use Rattle.cut.specs.Checks.{cut_checks}
use Rattle.nets.proofs.Goods.{few-queues}
use Rattle.plans.specs.Plans.{read_at, spot_of}

-- the fields that a code uses are operands
pub first_operand : (m a b c : ℕ) → 0 < m → member a (take m (a ∷ b ∷ c ∷ [])) ≡ true
first_operand zero a b c h = absurd (not-suc-le-zero h)
first_operand (suc m) a b c h = rw (eq-eqb a a refl)

pub second_operand : (m a b c : ℕ) → 1 < m → member b (take m (a ∷ b ∷ c ∷ [])) ≡ true
second_operand zero a b c h = absurd (not-suc-le-zero h)
second_operand (suc zero) a b c h = let z : ⊥ = omega arith in absurd z
second_operand (suc (suc m)) a b c h = rw (eq-eqb b b refl) (or-true (eqb b a))

pub third_operand : (m a b c : ℕ) → 2 < m → member c (take m (a ∷ b ∷ c ∷ [])) ≡ true
third_operand zero a b c h = absurd (not-suc-le-zero h)
third_operand (suc zero) a b c h = let z : ⊥ = omega arith in absurd z
third_operand (suc (suc zero)) a b c h = let z : ⊥ = omega arith in absurd z
third_operand (suc (suc (suc m))) a b c h = rw (eq-eqb c c refl, or-true (eqb c b)) (or-true (eqb c a))

module _ (n : Netlist) (c : Cut) (g : AllGood (net_checks n)) (h : AllGood (cut_checks n c)) where
  abbrev part : List ℕ
  part = c.part

  sizes : Within n
  sizes = within n (whole-good (numbers_good n) g.0)

  -- the channel of an operand in another part has a place below 512
  low-place : (b x : ℕ) → b < n.nodes → x < n.nodes → member x (operands_in (record_of n b)) ≡ true → eqb (part_of part x) (part_of part b) ≡ false → channel_place n part x (part_of part b) < 512
  low-place b x l k m e =
      let o = operand_crosses n part b x l m (eqb-false (part_of part x) (part_of part b) e) in
      let s = each-channel n part x (part_of part b) k o.1 o.0 in
      omega (arith, s.0, few-queues n c g h)

  -- W is what is found at each place, and T what each queue has for its oldest token
  module _ {A : Type 0} (W T : ℕ → A) (tokens : (q : ℕ) → q < 512 → W (1024 + q) ≡ T q) where
    -- a used field, x being its operand
    read_on : (b x : ℕ) (v : Bool) → b < n.nodes → x < n.nodes → member x (operands_in (record_of n b)) ≡ true → eqb (part_of part x) (part_of part b) ≡ v
        → W (read_at true (cond (not v) (channel_place n part x (part_of part b)) no_queue) x % 2048) ≡ cond (eqb (cond (not v) (channel_place n part x (part_of part b)) no_queue) no_queue) (W x) (T (cond (not v) (channel_place n part x (part_of part b)) no_queue))
    read_on b x true l k m e = let j : x % 2048 ≡ x = omega (arith, sizes.nodes) in rw j
    read_on b x false l k m e =
        let p : ℕ = channel_place n part x (part_of part b) in
        let w : p < 512 = low-place b x l k m e in
        let i : p % 512 ≡ p = omega arith in
        let j : (1024 + p) % 2048 ≡ 1024 + p = omega arith in
        rw (lt-ltb p 512 w, ne_eqb p 512 (λ z. omega arith), i, j) (tokens p w)

    pub read_is : (k b : ℕ) (xs vias : List ℕ) → vias ≡ fill (λ i. via_of n part k i (get_or xs i 0)) n.nodes (replicate 1024 0) → b < n.nodes → ltb k (count_of (record_of n b).code) ≡ true
        → get_or xs b 0 < n.nodes → member (get_or xs b 0) (operands_in (record_of n b)) ≡ true
        → W (spot_of n.code xs vias k b % 2048) ≡ cond (eqb (via_of n part k b (get_or xs b 0)) no_queue) (W (get_or xs b 0)) (T (via_of n part k b (get_or xs b 0)))
    read_is k b xs vias e l u o m =
        let x : ℕ = get_or xs b 0 in
        let v : get_or vias b 0 ≡ via_of n part k b x = ap (λ z. get_or z b 0) e ∙ fill_at (λ i. via_of n part k i (get_or xs i 0)) n.nodes b (replicate 1024 0) l (rw (length-replicate {A = ℕ} 1024 0) sizes.nodes) in
        let t : via_of n part k b x ≡ cond (not (eqb (part_of part x) (part_of part b))) (channel_place n part x (part_of part b)) no_queue = rw (u, lt-ltb x n.nodes o) in
        rw (v, t, u) (read_on b x (eqb (part_of part x) (part_of part b)) l o m refl)
