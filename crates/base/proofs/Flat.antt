-- Entries of one size, one behind the other: how long they are together, and where each byte stands. By induction on how many there are.
use mathlib.Core.Path.{◌≡◌, refl, sym, ◌∙◌}
use mathlib.Core.List.{List, [], ◌++◌}
use mathlib.Core.Logic.{⊎_elim}
use Prim.Native.Nat.{ℕ, zero, suc, ◌+◌, ◌*◌, ◌<◌}
use native.Mathlib.Nat.{le_of_suc-le-suc, not-suc-le-zero, eq-or-lt_of_le, suc-mul, mul-le-mul_right, zero-mul}
use native.Mathlib.Numerals.{add-one}
use native.Mathlib.Omega.{arith}
use lib.ListN.{length, get_or, take, drop, length-append, get_or-append}
use lib.Seq.{get_or-append-add, take-add}
use Rattle.base.specs.Lists.{flat}

pub flat-none : (f : ℕ → List ℕ) → flat f 0 ≡ []
unfolding flat
flat-none f = refl

pub flat_step : (f : ℕ → List ℕ) (n : ℕ) → flat f n ++ f n ≡ flat f (n + 1)
unfolding flat
flat_step f n = rw (add-one n)

module _ (f : ℕ → List ℕ) (k : ℕ) (sized : (i : ℕ) → length (f i) ≡ k) where
  pub flat-length : (n : ℕ) → length (flat f n) ≡ n * k
  unfolding flat
  flat-length zero = sym (zero-mul k)
  flat-length (suc n) = rw (length-append (flat f n) (f n), flat-length n, sized n, suc-mul n k)

  pub flat_at : (n i j : ℕ) → i < n → j < k → get_or (flat f n) (i * k + j) 0 ≡ get_or (f i) j 0
  unfolding flat
  flat_at zero i j h l = absurd (not-suc-le-zero h)
  flat_at (suc n) i j h l =
      ⊎_elim
      (λ e. rw e (rw (flat-length n) at (get_or-append-add (flat f n) (f n) j 0)))
      (λ (s : i < n).
      let within : i * k + j < length (flat f n) = rw (flat-length n) (omega (arith, mul-le-mul_right {m = suc i} {n = n} k s, suc-mul i k)) in
      get_or-append (flat f n) (f n) 0 (i * k + j) within ∙ flat_at n i j s l)
      (eq-or-lt_of_le (le_of_suc-le-suc h))

-- entries that are the stretches of a list are the list's front
pub flat-front : (f : ℕ → List ℕ) (k : ℕ) (s : List ℕ) (n : ℕ) → ((i : ℕ) → i < n → f i ≡ take k (drop (i * k) s)) → flat f n ≡ take (n * k) s
unfolding flat
flat-front f k s zero h = rw (zero-mul k)
flat-front f k s (suc n) h = rw (flat-front f k s n (λ i l. h i (omega arith)), h n (omega arith), suc-mul n k, take-add (n * k) k s)
