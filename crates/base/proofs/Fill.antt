-- Lists filled from the front: one turn of the loop, and what stands where. By induction on how many are filled.
use mathlib.Core.Path.{◌≡◌, refl, sym, ◌∙◌, ap}
use mathlib.Core.List.{List}
use mathlib.Core.Logic.{⊎_elim}
use mathlib.Core.Bool.{Bool, true, false}
use Prim.Native.Nat.{ℕ, zero, suc, ◌+◌, ◌<◌, ◌≤◌, min}
use native.Mathlib.Nat.{le_of_suc-le-suc, not-suc-le-zero, eq-or-lt_of_le, min-eq_left, min-eq_right}
use native.Mathlib.Numerals.{add-one}
use native.Mathlib.Omega.{arith}
use borrow.Author.Tests.{leb-true, leb-false}
use lib.Dec.{leb}
use lib.ListN.{length, get_or, set, length-set}
use lib.Seq.{get_or-set_same, get_or-set_other, set_out}
use Rattle.base.specs.Lists.{fill}

pub fill_none : (f : ℕ → ℕ) (xs : List ℕ) → xs ≡ fill f 0 xs
unfolding fill
fill_none f xs = refl

pub fill_step : (f : ℕ → ℕ) (i v : ℕ) (xs l : List ℕ) → l ≡ fill f i xs → v ≡ f i → set l i v ≡ fill f (i + 1) xs
unfolding fill
fill_step f i v xs l e h = rw (add-one i, e, h)

pub fill-length : (f : ℕ → ℕ) (n : ℕ) (xs : List ℕ) → length (fill f n xs) ≡ length xs
unfolding fill
fill-length f zero xs = refl
fill-length f (suc n) xs = simp length-set (fill-length f n xs)

pub fill-past : (f : ℕ → ℕ) (n k : ℕ) (xs : List ℕ) → n ≤ k → get_or (fill f n xs) k 0 ≡ get_or xs k 0
unfolding fill
fill-past f zero k xs h = refl
fill-past f (suc n) k xs h = get_or-set_other (fill f n xs) n k (f n) 0 (omega arith) ∙ fill-past f n k xs (omega arith)

pub fill_at : (f : ℕ → ℕ) (n k : ℕ) (xs : List ℕ) → k < n → n ≤ length xs → get_or (fill f n xs) k 0 ≡ f k
unfolding fill
fill_at f zero k xs h b = absurd (not-suc-le-zero h)
fill_at f (suc n) k xs h b =
    ⊎_elim
    (λ e. rw e (get_or-set_same (fill f n xs) n (f n) 0 (rw (fill-length f n xs) b)))
    (λ l. get_or-set_other (fill f n xs) n k (f n) 0 (omega arith) ∙ fill_at f n k xs l (omega arith))
    (eq-or-lt_of_le (le_of_suc-le-suc h))

-- what is filled from two functions that agree so far
pub fill-same : (f g : ℕ → ℕ) (n : ℕ) (xs : List ℕ) → ((k : ℕ) → k < n → f k ≡ g k) → fill f n xs ≡ fill g n xs
unfolding fill
fill-same f g zero xs h = refl
fill-same f g (suc n) xs h = rw (fill-same f g n xs (λ k l. h k (omega arith)), h n (omega arith))

-- entries past the list's end are not stored
over : (f : ℕ → ℕ) (n : ℕ) (xs : List ℕ) → length xs ≤ n → fill f n xs ≡ fill f (length xs) xs
unfolding fill
over f zero xs h =
    let e : length xs ≡ 0 = omega arith in
    rw e
over f (suc n) xs h =
    ⊎_elim
    (λ e. rw e)
    (λ (l : length xs < suc n).
    set_out (fill f n xs) n (f n) (rw (fill-length f n xs) (le_of_suc-le-suc l))
    ∙ over f n xs (le_of_suc-le-suc l))
    (eq-or-lt_of_le h)

clip : (f : ℕ → ℕ) (n m : ℕ) (xs : List ℕ) → length xs ≡ m → (b : Bool) → leb n m ≡ b → fill f (min n m) xs ≡ fill f n xs
clip f n m xs e true t = ap (λ k. fill f k xs) (min-eq_left (leb-true n m t))
clip f n m xs e false t =
    let h : m < n = leb-false n m t in
    ap (λ k. fill f k xs) (min-eq_right {n = m} {m = n} (omega arith) ∙ sym e) ∙ sym (over f n xs (omega arith))

pub fill-clip : (f : ℕ → ℕ) (n m : ℕ) (xs : List ℕ) → length xs ≡ m → fill f (min n m) xs ≡ fill f n xs
fill-clip f n m xs e = clip f n m xs e (leb n m) refl

-- what a loop leaves that stops at the list's end
pub fill_clipped : (f : ℕ → ℕ) (n m k : ℕ) (xs l : List ℕ) → l ≡ fill f k xs → k ≡ min n m → length xs ≡ m → l ≡ fill f n xs
fill_clipped f n m k xs l e h long = e ∙ ap (λ j. fill f j xs) h ∙ fill-clip f n m xs long
