-- Tests joined by `&&`, and tests of each of n entries.
use mathlib.Core.Path.{◌≡◌, refl, sym, ◌∙◌, ap}
use mathlib.Core.List.{List}
use mathlib.Core.Bool.{Bool, true, false, ◌&&◌}
use mathlib.Core.Logic.{⊎_elim}
use Prim.Native.Nat.{ℕ, zero, suc, ◌<◌, ◌≤◌}
use native.Mathlib.Nat.{not-suc-le-zero, le_of_suc-le-suc, eq-or-lt_of_le}
use native.Mathlib.Numerals.{add-one}
use native.Mathlib.Omega.{arith}
use lib.Dec.{T}
use lib.ListN.{length, get_or, take}
use lib.Seq.{take-length}
use Rattle.std.specs.List.{list_all}
use Rattle.std.proofs.lemmas.List.Folds.{list_all_more}
use Rattle.base.specs.Checks.{every}

pub and_left : (a b : Bool) → (a && b) ≡ true → a ≡ true
and_left true b e = refl
and_left false b e = e

pub and_right : (a b : Bool) → (a && b) ≡ true → b ≡ true
and_right true b e = e
and_right false b e = let z : ◌≡◌ {A = ℕ} 0 1 = cc in let y : ⊥ = omega arith in absurd y

pub and_true : (a b : Bool) → a ≡ true → b ≡ true → (a && b) ≡ true
and_true true b e f = f
and_true false b e f = e

left : (a b : Bool) → T (a && b) → T a
left true b t = tt
left false b t = t

right : (a b : Bool) → T (a && b) → T b
right true b t = t
right false b t = absurd t

-- a test computed over a range holds at each number of it
pub below : (good : ℕ → Bool) (n : ℕ) → T (every good n) → (k : ℕ) → k < n → T (good k)
below good zero t k h = absurd (not-suc-le-zero h)
below good (suc n) t k h =
    ⊎_elim
    (λ e. rw e (left (good n) (every good n) t))
    (λ l. below good n (right (good n) (every good n) t) k l)
    (eq-or-lt_of_le (le_of_suc-le-suc h))

pub every_true : (good : ℕ → Bool) (n : ℕ) → ((k : ℕ) → k < n → good k ≡ true) → every good n ≡ true
every_true good zero h = refl
every_true good (suc n) h = rw (h n (omega arith)) (every_true good n (λ k l. h k (omega arith)))

pub every_at : (good : ℕ → Bool) (n : ℕ) → every good n ≡ true → (k : ℕ) → k < n → good k ≡ true
every_at good zero e k h = absurd (not-suc-le-zero h)
every_at good (suc n) e k h =
    ⊎_elim
    (λ q. rw q (and_left (good n) (every good n) e))
    (λ l. every_at good n (and_right (good n) (every good n) e) k l)
    (eq-or-lt_of_le (le_of_suc-le-suc h))

pub false_or_true : (b : Bool) → (b ≡ true → ⊥) → b ≡ false
false_or_true true f = absurd (f refl)
false_or_true false f = refl

apart : (b : Bool) → b ≡ true → b ≡ false → ⊥
apart b p q =
    let z : ◌≡◌ {A = ℕ} 0 1 = cc in
    omega arith

pub every-false : (good : ℕ → Bool) (n k : ℕ) → k < n → good k ≡ false → every good n ≡ false
every-false good n k h e = false_or_true (every good n) (λ t. apart (good k) (every_at good n t k h) e)

-- the parts of four tests joined
pub and_four : (a b c d : Bool) → (a && b && c && d) ≡ true → (a ≡ true) × (b ≡ true) × (c ≡ true) × (d ≡ true)
and_four a b c d e =
    let abc : (a && b && c) ≡ true = and_left (a && b && c) d e in
    let ab : (a && b) ≡ true = and_left (a && b) c abc in
    (and_left a b ab, and_right a b ab, and_right (a && b) c abc, and_right (a && b && c) d e)

and_swap : (a b : Bool) → (a && b) ≡ (b && a)
and_swap true true = refl
and_swap true false = refl
and_swap false true = refl
and_swap false false = refl

-- a test of every element of a list is one of every place
so_far : (p : ℕ → Bool) (good : ℕ → Bool) (xs : List ℕ) → ((i : ℕ) → i < length xs → p (get_or xs i 0) ≡ good i) → (n : ℕ) → n ≤ length xs → list_all p (take n xs) ≡ every good n
so_far p good xs h zero l = refl
so_far p good xs h (suc n) l =
    ap (λ k. list_all p (take k xs)) (sym (add-one n))
    ∙ list_all_more p xs n 0 l
    ∙ rw (so_far p good xs h n (omega arith), h n l) (and_swap (every good n) (good n))

pub all-every : (p : ℕ → Bool) (good : ℕ → Bool) (xs : List ℕ) → ((i : ℕ) → i < length xs → p (get_or xs i 0) ≡ good i) → list_all p xs ≡ every good (length xs)
all-every p good xs h = ap (λ ys. list_all p ys) (sym (take-length xs)) ∙ so_far p good xs h (length xs) (omega arith)
