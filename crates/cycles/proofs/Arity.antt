-- A code looks at no more operands than its row says: computed once over all 256 codes, then by the ranges that the codes fall in.
use mathlib.Core.Path.{◌≡◌, refl, ◌∙◌}
use mathlib.Core.Bool.{Bool, true, false, cond, ◌||◌, not}
use mathlib.Core.List.{[], ◌∷◌, map}
use Prim.Native.Nat.{ℕ, zero, suc, ◌<◌, ◌≤◌}
use native.Mathlib.Nat.{not-suc-le-zero}
use native.Mathlib.Omega.{arith}
use borrow.Author.Tests.{ltb-true, ltb-false, lt-ltb, le-ltb}
use lib.Dec.{T, eqb, ltb, eqb→eq}
use lib.ListN.{get_or, take}
use Rattle.base.proofs.Tests.{below}
use Rattle.codes.specs.Rows.{rows, place, place_of, count_of}
use Rattle.values.specs.Values.{wired_of, code_of, value_of}

-- the operands that a code of a range looks at
abbrev arity : ℕ → ℕ
arity c = cond (ltb c 0x20) 1 (cond (ltb c 0x50) 2 (cond (eqb c 0x50) 3 (cond (eqb c 0x51) 2 1)))

-- a code from 0x10 on has as many in the table
abbrev agrees : ℕ → Bool
agrees c = ltb c 0x10 || not (ltb (place_of c) 19) || eqb (count_of c) (arity c)

counted : (c : ℕ) → c < 256 → T (agrees c)
unfolding rows place
counted c h = below agrees 256 tt c h

from_test : (x y z : Bool) → T (x || not y || z) → x ≡ false → y ≡ true → T z
from_test x y z t e f =
    let s : T (false || not true || z) = rw (e, f) at t in
    s

pub count_is : (c : ℕ) → c < 256 → 0x10 ≤ c → place_of c < 19 → count_of c ≡ arity c
count_is c h l p = eqb→eq (count_of c) (arity c) (from_test (ltb c 0x10) (ltb (place_of c) 19) (eqb (count_of c) (arity c)) (counted c h) (le-ltb c 0x10 l) (lt-ltb (place_of c) 19 p))

-- operands that agree where the code looks
module _ (code w v k x y z x' y' z' : ℕ) (count : 0x10 ≤ code → count_of code ≡ arity code) (ex : 0 < count_of code → x ≡ x') (ey : 1 < count_of code → y ≡ y') (ez : 2 < count_of code → z ≡ z') where
  wired_same : (m c : Bool) → eqb code 0x50 ≡ m → eqb code 0x51 ≡ c → 0x50 ≤ code → wired_of code v k x y z ≡ wired_of code v k x' y' z'
  unfolding wired_of
  wired_same true c p q l =
      let n : count_of code ≡ 3 = count (omega arith) ∙ rw (le-ltb code 0x20 (omega arith), le-ltb code 0x50 l, p) in
      rw (ex (omega arith), ey (omega arith), ez (omega arith))
  wired_same false true p q l =
      let n : count_of code ≡ 2 = count (omega arith) ∙ rw (le-ltb code 0x20 (omega arith), le-ltb code 0x50 l, p, q) in
      rw (p, q, ex (omega arith), ey (omega arith))
  wired_same false false p q l =
      let n : count_of code ≡ 1 = count (omega arith) ∙ rw (le-ltb code 0x20 (omega arith), le-ltb code 0x50 l, p, q) in
      rw (p, q, ex (omega arith))

  two : 0x20 ≤ code → code < 0x50 → (x ≡ x') × (y ≡ y')
  two l h =
      let n : count_of code ≡ 2 = count (omega arith) ∙ rw (le-ltb code 0x20 l, lt-ltb code 0x50 h) in
      (ex (omega arith), ey (omega arith))

  one : 0x10 ≤ code → code < 0x20 → x ≡ x'
  one l h =
      let n : count_of code ≡ 1 = count l ∙ rw (lt-ltb code 0x20 h) in
      ex (omega arith)

  by_range_lem : (a b c d e : Bool) → ltb code 0x10 ≡ a → ltb code 0x20 ≡ b → ltb code 0x30 ≡ c → ltb code 0x40 ≡ d → ltb code 0x50 ≡ e → code_of code w v k x y z ≡ code_of code w v k x' y' z'
  unfolding code_of
  by_range_lem true b c d e p q r s t = rw p
  by_range_lem false true c d e p q r s t = rw (p, q, one (ltb-false code 0x10 p) (ltb-true code 0x20 q))
  by_range_lem false false true d e p q r s t =
      let g = two (ltb-false code 0x20 q) (omega (arith, ltb-true code 0x30 r)) in
      rw (p, q, r, g.0, g.1)
  by_range_lem false false false true e p q r s t =
      let g = two (ltb-false code 0x20 q) (omega (arith, ltb-true code 0x40 s)) in
      rw (p, q, r, s, g.0, g.1)
  by_range_lem false false false false true p q r s t =
      let g = two (ltb-false code 0x20 q) (ltb-true code 0x50 t) in
      rw (p, q, r, s, t, g.0, g.1)
  by_range_lem false false false false false p q r s t =
      rw (p, q, r, s, t) (wired_same (eqb code 0x50) (eqb code 0x51) refl refl (ltb-false code 0x50 t))

  pub same_code : code_of code w v k x y z ≡ code_of code w v k x' y' z'
  same_code = by_range_lem (ltb code 0x10) (ltb code 0x20) (ltb code 0x30) (ltb code 0x40) (ltb code 0x50) refl refl refl refl refl

  pub same_operands : value_of code w v k x y z ≡ value_of code w v k x' y' z'
  unfolding value_of
  same_operands = rw same_code

-- the values of the operands that are used, by place
pub nth_first : (f : ℕ → ℕ) (n a b c : ℕ) → 0 < n → get_or (map f (take n (a ∷ b ∷ c ∷ []))) 0 0 ≡ f a
nth_first f zero a b c h = absurd (not-suc-le-zero h)
nth_first f (suc n) a b c h = refl

pub nth_second : (f : ℕ → ℕ) (n a b c : ℕ) → 1 < n → get_or (map f (take n (a ∷ b ∷ c ∷ []))) 1 0 ≡ f b
nth_second f zero a b c h = absurd (not-suc-le-zero h)
nth_second f (suc zero) a b c h = let z : ⊥ = omega arith in absurd z
nth_second f (suc (suc n)) a b c h = refl

pub nth_third : (f : ℕ → ℕ) (n a b c : ℕ) → 2 < n → get_or (map f (take n (a ∷ b ∷ c ∷ []))) 2 0 ≡ f c
nth_third f zero a b c h = absurd (not-suc-le-zero h)
nth_third f (suc zero) a b c h = let z : ⊥ = omega arith in absurd z
nth_third f (suc (suc zero)) a b c h = let z : ⊥ = omega arith in absurd z
nth_third f (suc (suc (suc n))) a b c h = refl
