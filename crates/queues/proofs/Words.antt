-- Words of bits: what `|`, `&` and `!` do to each, where the lowest set one stands, and how many stand before a place. Single bits are computed over all 32 places.
use Rattle.std.proofs.Common.{◌≡◌, ℕ, zero, suc, ◌+◌, ◌-◌, ◌*◌, ◌/◌, ◌%◌, ◌^◌, ◌<◌, ◌≤◌, Bool, true, false, cond, not, ◌&&◌, ◌||◌, T, eqb, length, sym, refl, ap, ◌∙◌, ap₂, not-suc-le-zero, mod-lt, add_comm, one-mul, pow-suc, div-one, arith, lit<, eqb→eq, pow_pos, pow_mono, shl_exact, shr-shr}
use mathlib.Core.Logic.{by_cases}
use native.Mathlib.Nat.{div-eq_of_lt, zero-div, mod-one}
use native.Mathlib.Decide.{dec_lt}
use lib.Pow.{shr_le, mod-pow-add}
use lib.Bits.{bit_and, bit_or, and_shr, or_shr, and_mod, or_mod}
use lib.Count.{ones, ones_in, ones_cat, count_trailing_zeros, under}
use Rattle.base.specs.Checks.{every}
use Rattle.base.proofs.Tests.{below}
use Rattle.queues.specs.Lists.{listed, one_if}
use Rattle.queues.specs.Pass.{bit_of, others}
use Rattle.queues.proofs.Listed.{length-turn}

-- one bit, shifted in 32 bits
pub one_shl : (w : ℕ) → w < 32 → (1 * 2 ^ w) % 2 ^ 32 ≡ 2 ^ w
one_shl w h = shl_exact {a = 1} 1 w 32 (lit< tt) (omega arith) ∙ one-mul (2 ^ w)

-- the last digits of two words
or_digit : (x y : ℕ) → x < 2 → y < 2 → eqb (bit_or x y) 1 ≡ (eqb x 1 || eqb y 1)
or_digit zero zero h g = refl
or_digit zero (suc zero) h g = refl
or_digit (suc zero) zero h g = refl
or_digit (suc zero) (suc zero) h g = refl
or_digit (suc (suc x)) y h g = let e : ⊥ = omega arith in absurd e
or_digit zero (suc (suc y)) h g = let e : ⊥ = omega arith in absurd e
or_digit (suc zero) (suc (suc y)) h g = let e : ⊥ = omega arith in absurd e

and_digit : (x y : ℕ) → x < 2 → y < 2 → eqb (bit_and x y) 1 ≡ (eqb x 1 && eqb y 1)
and_digit zero zero h g = refl
and_digit zero (suc zero) h g = refl
and_digit (suc zero) zero h g = refl
and_digit (suc zero) (suc zero) h g = refl
and_digit (suc (suc x)) y h g = let e : ⊥ = omega arith in absurd e
and_digit zero (suc (suc y)) h g = let e : ⊥ = omega arith in absurd e
and_digit (suc zero) (suc (suc y)) h g = let e : ⊥ = omega arith in absurd e

pub or_bit : (a b p : ℕ) → bit_of (bit_or a b) p ≡ (bit_of a p || bit_of b p)
or_bit a b p =
    ap (λ x. eqb (x % 2) 1) (or_shr a b p)
    ∙ ap (λ x. eqb x 1) (or_mod (a / 2 ^ p) (b / 2 ^ p) 1)
    ∙ or_digit (a / 2 ^ p % 2) (b / 2 ^ p % 2) (mod-lt (a / 2 ^ p) (lit< tt)) (mod-lt (b / 2 ^ p) (lit< tt))

and_bit : (a b p : ℕ) → bit_of (bit_and a b) p ≡ (bit_of a p && bit_of b p)
and_bit a b p =
    ap (λ x. eqb (x % 2) 1) (and_shr a b p)
    ∙ ap (λ x. eqb x 1) (and_mod (a / 2 ^ p) (b / 2 ^ p) 1)
    ∙ and_digit (a / 2 ^ p % 2) (b / 2 ^ p % 2) (mod-lt (a / 2 ^ p) (lit< tt)) (mod-lt (b / 2 ^ p) (lit< tt))

-- one bit alone, and all but one
abbrev alone : ℕ → ℕ → Bool
alone r p = eqb (2 ^ r / 2 ^ p % 2) (cond (eqb r p) 1 0)

abbrev but : ℕ → ℕ → Bool
but r p = eqb ((2 ^ 32 - 1 - 2 ^ r) / 2 ^ p % 2) (cond (eqb r p) 0 1)

is_one : (b : Bool) → eqb (cond b 1 0) 1 ≡ b
is_one true = refl
is_one false = refl

is_none : (b : Bool) → eqb (cond b 0 1) 1 ≡ not b
is_none true = refl
is_none false = refl

pub one_bit : (r p : ℕ) → r < 32 → p < 32 → bit_of (2 ^ r) p ≡ eqb r p
one_bit r p h g =
    let t : T (every (alone r) 32) = below (λ r. every (alone r) 32) 32 tt r h in
    ap (λ x. eqb x 1) (eqb→eq (2 ^ r / 2 ^ p % 2) (cond (eqb r p) 1 0) (below (alone r) 32 t p g)) ∙ is_one (eqb r p)

but-bit : (r p : ℕ) → r < 32 → p < 32 → bit_of (2 ^ 32 - 1 - 2 ^ r) p ≡ not (eqb r p)
but-bit r p h g =
    let t : T (every (but r) 32) = below (λ r. every (but r) 32) 32 tt r h in
    ap (λ x. eqb x 1) (eqb→eq ((2 ^ 32 - 1 - 2 ^ r) / 2 ^ p % 2) (cond (eqb r p) 0 1) (below (but r) 32 t p g)) ∙ is_none (eqb r p)

swap : (a b : Bool) → (a && b) ≡ (b && a)
swap true true = refl
swap true false = refl
swap false true = refl
swap false false = refl

pub others-bit : (w own p : ℕ) → own < 32 → p < 32 → bit_of (others w own) p ≡ (not (eqb own p) && bit_of w p)
others-bit w own p h g = and_bit w (2 ^ 32 - 1 - 2 ^ own) p ∙ ap (λ b. bit_of w p && b) (but-bit own p h g) ∙ swap (bit_of w p) (not (eqb own p))

-- The lowest set bit: below it stands none.
halved : (n j : ℕ) → n / 2 ^ suc j ≡ n / 2 / 2 ^ j
halved n j =
    let e : 1 + j ≡ suc j = omega arith in
    sym (rw e at (shr-shr n 1 j))

trailing_none : (k n j d : ℕ) → d ≡ n % 2 → j < under d (count_trailing_zeros k (n / 2)) → ((i : ℕ) → i < count_trailing_zeros k (n / 2) → n / 2 / 2 ^ i % 2 ≡ 0) → n / 2 ^ j % 2 ≡ 0
trailing_none k n zero zero e h f = rw (div-one n) (sym e)
trailing_none k n (suc j) zero e h f = rw (halved n j) (f j (omega arith))
trailing_none k n j (suc d) e h f = absurd (not-suc-le-zero h)

pub trailing_zero : (k n j : ℕ) → j < count_trailing_zeros k n → n / 2 ^ j % 2 ≡ 0
unfolding count_trailing_zeros
trailing_zero zero n j h = absurd (not-suc-le-zero h)
trailing_zero (suc k) n j h = trailing_none k n j (n % 2) refl h (λ i l. trailing_zero k (n / 2) i l)

trailing_some : (k n d : ℕ) → d ≡ n % 2 → 0 < n → (0 < n / 2 → (n / 2 / 2 ^ count_trailing_zeros k (n / 2) % 2 ≡ 1) × (count_trailing_zeros k (n / 2) < k)) → (n / 2 ^ under d (count_trailing_zeros k (n / 2)) % 2 ≡ 1) × (under d (count_trailing_zeros k (n / 2)) < suc k)
trailing_some k n zero e h f =
    let g = f (omega arith) in
    (rw (halved n (count_trailing_zeros k (n / 2))) g.0, omega (arith, g.1))
trailing_some k n (suc zero) e h f = (rw (div-one n) (sym e), omega arith)
trailing_some k n (suc (suc d)) e h f = let g : ⊥ = omega arith in absurd g

-- and it is set itself, where the word is not 0
pub trailing_one : (k n : ℕ) → 0 < n → n < 2 ^ k → (n / 2 ^ count_trailing_zeros k n % 2 ≡ 1) × (count_trailing_zeros k n < k)
unfolding count_trailing_zeros
trailing_one zero n h g = let e : ⊥ = omega arith in absurd e
trailing_one (suc k) n h g =
    let b : 2 ^ suc k ≡ 2 ^ k * 2 = pow-suc 2 k in
    trailing_some k n (n % 2) refl h (λ l. trailing_one k (n / 2) l (omega arith))

-- A walk over a word's bits, the rest of it from place p on being left: zeros up to the rest's lowest set bit, and behind that the next rest.
pub record Step (w p rest z : ℕ) : Type 0 where
  pub within : p + z < 32
  pub none : (j : ℕ) → j < z → bit_of w (p + j) ≡ false
  pub here : bit_of w (p + z) ≡ true
  pub next : rest / 2 ^ z / 2 ≡ w / 2 ^ (p + z + 1)

top : (w k : ℕ) → w < 2 ^ 32 → w / 2 ^ k % 2 ≡ 1 → k < 32
top w k h e =
    by_cases (dec_lt k 32) (λ l. l)
    (λ l.
    let b : 32 ≤ k = omega arith in
    let g : 2 ^ 32 ≤ 2 ^ k = pow_mono b in
    let f : w < 2 ^ k = omega arith in
    let z : w / 2 ^ k ≡ 0 = div-eq_of_lt f in
    let y : ⊥ = omega arith in
    absurd y)

pub step : (w p rest : ℕ) → w < 2 ^ 32 → rest ≡ w / 2 ^ p → 0 < rest → Step w p rest (count_trailing_zeros 32 rest)
step w p rest h e l =
    let z : ℕ = count_trailing_zeros 32 rest in
    let small : rest ≤ w = rw e (shr_le w p) in
    let one = trailing_one 32 rest l (omega arith) in
    let at_z : rest / 2 ^ z ≡ w / 2 ^ (p + z) = ap (λ r. r / 2 ^ z) e ∙ shr-shr w p z in
    let set : w / 2 ^ (p + z) % 2 ≡ 1 = ap (λ x. x % 2) (sym at_z) ∙ one.0 in
    record {
      within = top w (p + z) h set;
      none = λ j g. ap (λ x. eqb x 1) (ap (λ x. x % 2) (sym (ap (λ r. r / 2 ^ j) e ∙ shr-shr w p j)) ∙ trailing_zero 32 rest j g);
      here = ap (λ x. eqb x 1) set;
      next = ap (λ x. x / 2) at_z ∙ shr-shr w (p + z) 1;
    }

-- where nothing is left, no bit is set from there on
pub ended : (w p rest : ℕ) → rest ≡ w / 2 ^ p → rest ≡ 0 → (j : ℕ) → bit_of w (p + j) ≡ false
ended w p rest e z j = ap (λ x. eqb (x % 2) 1) (sym (shr-shr w p j) ∙ ap (λ r. r / 2 ^ j) (sym e ∙ z) ∙ zero-div (2 ^ j))

-- how many stand before a place
digit_ones : (d : ℕ) → d < 2 → ones d ≡ cond (eqb d 1) 1 0
unfolding ones ones_in
digit_ones zero h = refl
digit_ones (suc zero) h = refl
digit_ones (suc (suc d)) h = let e : ⊥ = omega arith in absurd e

module _ {A : Type 0} (x : ℕ → A) (w : ℕ) where
  pub ones-before : (p : ℕ) → ones (w % 2 ^ p) ≡ length (listed p (λ r. one_if (bit_of w r) (x r)))
  unfolding listed ones ones_in
  ones-before zero = ap ones (mod-one w)
  ones-before (suc p) =
      let e : 1 + p ≡ suc p = omega arith in
      let b = rw e at (mod-pow-add w 1 p) in
      ap ones b
      ∙ ones_cat p (w / 2 ^ p % 2) (w % 2 ^ p) (mod-lt w (pow_pos p))
      ∙ ap₂ (λ a b. a + b) (digit_ones (w / 2 ^ p % 2) (mod-lt (w / 2 ^ p) (lit< tt))) (ones-before p)
      ∙ add_comm (cond (bit_of w p) 1 0) (length (listed p (λ r. one_if (bit_of w r) (x r))))
      ∙ sym (length-turn (listed p (λ r. one_if (bit_of w r) (x r))) (bit_of w p) (x p))
