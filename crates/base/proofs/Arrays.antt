-- Zeros past a count: what a list of zeros, filled so far, holds below the count and past it.
use mathlib.Core.Path.{◌≡◌, refl, sym, ◌∙◌, ap}
use mathlib.Core.Bool.{Bool, true, false}
use mathlib.Core.List.{List}
use Prim.Native.Nat.{ℕ, zero, suc, ◌+◌, ◌<◌, ◌≤◌}
use native.Mathlib.Omega.{arith}
use borrow.Author.Tests.{leb-true, leb-false}
use lib.Dec.{leb}
use lib.ListN.{length, get_or, take, replicate, length-replicate}
use lib.Seq.{ext_get_or}
use Rattle.std.specs.Array.{AllOfLen}
use Rattle.base.specs.Lists.{fill}
use Rattle.base.specs.Arrays.{Array, cleared, ZerosFrom}
use Rattle.base.proofs.Fill.{fill_at, fill-past, fill-length, fill-same}
use Rattle.base.proofs.Windows.{fill-window}

pub zeros_at : (m i : ℕ) → ◌≡◌ {A = ℕ} (get_or (replicate m 0) i 0) 0
zeros_at zero i = refl
zeros_at (suc m) zero = refl
zeros_at (suc m) (suc i) = zeros_at m i

-- an array by default, each element 0, is one of zeros
pub all_zeros : (n : ℕ) (xs : List ℕ) → AllOfLen (λ x. x ≡ 0) xs n → xs ≡ replicate n 0
all_zeros n xs a = ext_get_or 0 xs (replicate n 0) (a.long ∙ sym (length-replicate n 0)) (λ i l. a.at i 0 (rw a.long at l) ∙ sym (zeros_at n i))

-- a list filled so far has zeros from there on
pub fill_zeros : (f : ℕ → ℕ) (m n : ℕ) → ZerosFrom n (fill f n (replicate m 0))
fill_zeros f m n i h = fill-past f n i (replicate m 0) h ∙ zeros_at m i

-- and holds values of the type that it was filled with
each_on : (f : ℕ → ℕ) (m n b : ℕ) → n ≤ m → 0 < b → ((i : ℕ) → f i < b) → (i : ℕ) (t : Bool) → leb n i ≡ t → get_or (fill f n (replicate m 0)) i 0 < b
each_on f m n b l p h i true e = rw (fill_zeros f m n i (leb-true n i e)) p
each_on f m n b l p h i false e = rw (fill_at f n i (replicate m 0) (leb-false n i e) (rw (length-replicate {A = ℕ} m 0) l)) (h i)

pub fill_typed : (f : ℕ → ℕ) (m n b : ℕ) → n ≤ m → 0 < b → ((i : ℕ) → f i < b) → Array m b (fill f n (replicate m 0))
fill_typed f m n b l p h =
    record {
      long = fill-length f n (replicate m 0) ∙ length-replicate m 0;
      each = λ i. each_on f m n b l p h i (leb n i) refl;
    }

-- zeros alone: filled with nothing
pub zeros_typed : (m b : ℕ) → 0 < b → Array m b (replicate m 0)
unfolding fill
zeros_typed m b p = fill_typed (λ i. 0) m 0 b (omega arith) p (λ i. p)

pub zeros_clean : (m : ℕ) → ZerosFrom 0 (replicate m 0)
unfolding fill
zeros_clean m = fill_zeros (λ i. 0) m 0

-- an element below the count, and all of them
pub at_cleared : (m n i : ℕ) (xs : List ℕ) → i < n → n ≤ m → get_or (cleared m n xs) i 0 ≡ get_or xs i 0
at_cleared m n i xs h l = fill_at (λ j. get_or xs j 0) n i (replicate m 0) h (rw (length-replicate {A = ℕ} m 0) l)

pub take-cleared : (m n : ℕ) (xs : List ℕ) → n ≤ length xs → n ≤ m → take n (cleared m n xs) ≡ take n xs
take-cleared m n xs h l =
    ap (λ ys. take n ys) (fill-same (λ j. get_or xs j 0) (λ j. get_or xs (0 + j) 0) n (replicate m 0) (λ j b. ap (λ k. get_or xs k 0) (omega arith)))
    ∙ fill-window xs (replicate m 0) 0 n (omega arith) (rw (length-replicate {A = ℕ} m 0) l)

-- a list that has zeros there is its own
same_on : (m n : ℕ) (xs : List ℕ) → n ≤ m → ZerosFrom n xs → (i : ℕ) (b : Bool) → leb n i ≡ b → get_or (cleared m n xs) i 0 ≡ get_or xs i 0
same_on m n xs l z i true e = fill_zeros (λ j. get_or xs j 0) m n i (leb-true n i e) ∙ sym (z i (leb-true n i e))
same_on m n xs l z i false e = at_cleared m n i xs (leb-false n i e) l

pub cleared-same : (m n : ℕ) (xs : List ℕ) → length xs ≡ m → n ≤ m → ZerosFrom n xs → cleared m n xs ≡ xs
cleared-same m n xs e l z =
    ext_get_or 0 (cleared m n xs) xs (fill-length (λ j. get_or xs j 0) n (replicate m 0) ∙ length-replicate m 0 ∙ sym e)
    (λ i h. same_on m n xs l z i (leb n i) refl)
