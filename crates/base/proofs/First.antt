-- A first-bad search: what its answer says, and that `position` and `find` give the same. By induction on the entries that are left.
use mathlib.Core.Path.{◌≡◌, refl, sym, ◌∙◌}
use mathlib.Core.Bool.{Bool, true, false, cond, not}
use mathlib.Core.List.{List}
use mathlib.Core.Logic.{⊎_elim, ◌↔◌}
use Prim.Native.Nat.{ℕ, zero, suc, ◌+◌, ◌<◌, ◌≤◌}
use native.Mathlib.Nat.{eq-or-lt_of_le}
use native.Mathlib.Omega.{arith}
use borrow.Author.Tests.{ltb-true, ltb-false, not-true, not-false}
use lib.Dec.{ltb}
use lib.ListN.{length, get_or}
use Rattle.std.specs.Prelude.{Option, None, Some, MatchOption, position}
use Rattle.std.specs.List.{position_or_len}
use Rattle.std.proofs.lemmas.List.Sums.{passes_at_first, fails_before_first}
use Rattle.base.specs.Checks.{first_bad, lowest, Lowest}

-- p is the first of the d entries from i on that is not good
record From (good : ℕ → Bool) (d i p : ℕ) : Type 0 where
  start : i ≤ p
  within : p < i + d
  bad : good p ≡ false
  before : (k : ℕ) → i ≤ k → k < p → good k ≡ true

-- the search in its first turn: the entry is good and the rest is searched, or it is the answer
turn : (good : ℕ → Bool) (d i k : ℕ) (b : Bool) → good i ≡ b → cond b (first_bad good d (suc i)) (Some i) ≡ None → (first_bad good d (suc i) ≡ None → i < k → good k ≡ true) → i ≤ k → good k ≡ true
turn good d i k true q e more l = ⊎_elim (λ s. rw (← s) q) (λ s. more e s) (eq-or-lt_of_le l)
turn good d i k false q e more l =
    let z : ◌≡◌ {A = ℕ} 0 1 = cc in
    let y : ⊥ = omega arith in
    absurd y

all_from : (good : ℕ → Bool) (d i : ℕ) → first_bad good d i ≡ None → (k : ℕ) → i ≤ k → k < i + d → good k ≡ true
unfolding first_bad
all_from good zero i e k l h = let z : ⊥ = omega arith in absurd z
all_from good (suc d) i e k l h = turn good d i k (good i) refl e (λ e' s. all_from good d (suc i) e' k s (omega arith)) l

-- good: every entry is good
pub lowest-good : (good : ℕ → Bool) (n : ℕ) → lowest good n ≡ None → (k : ℕ) → k < n → good k ≡ true
lowest-good good n e k h = all_from good n 0 e k (omega arith) (omega arith)

-- every entry is good: good
good-from : (good : ℕ → Bool) (d i : ℕ) → ((k : ℕ) → i ≤ k → k < i + d → good k ≡ true) → first_bad good d i ≡ None
unfolding first_bad
good-from good zero i h = refl
good-from good (suc d) i h = rw (h i (omega arith) (omega arith)) (good-from good d (suc i) (λ k l m. h k (omega arith) (omega arith)))

pub good-lowest : (good : ℕ → Bool) (n : ℕ) → ((k : ℕ) → k < n → good k ≡ true) → lowest good n ≡ None
good-lowest good n h = good-from good n 0 (λ k l m. h k (omega arith))

-- the answer is a place: that entry is bad, and every one before it is good
lowest_on : (good : ℕ → Bool) (d i : ℕ) (b : Bool) (p : ℕ) → good i ≡ b → cond b (first_bad good d (suc i)) (Some i) ≡ Some p → (first_bad good d (suc i) ≡ Some p → From good d (suc i) p) → From good (suc d) i p
lowest_on good d i true p q e more =
    let f = more e in
    record {
      start = omega (arith, f.start);
      within = omega (arith, f.within);
      bad = f.bad;
      before = λ k l h. ⊎_elim (λ s. rw (← s) q) (λ s. f.before k s h) (eq-or-lt_of_le l);
    }
lowest_on good d i false p q e more =
    let s : i ≡ p = cc in
    record {
      start = omega arith;
      within = omega arith;
      bad = rw (← s) q;
      before = λ k l h. let z : ⊥ = omega arith in absurd z;
    }

lowest-from : (good : ℕ → Bool) (d i p : ℕ) → first_bad good d i ≡ Some p → From good d i p
unfolding first_bad
lowest-from good zero i p e = let z : ◌≡◌ {A = ℕ} 0 1 = cc in let y : ⊥ = omega arith in absurd y
lowest-from good (suc d) i p e = lowest_on good d i (good i) p refl e (λ e'. lowest-from good d (suc i) p e')

found_at : (good : ℕ → Bool) (d i p : ℕ) → i ≤ p → p < i + d → good p ≡ false → ((k : ℕ) → i ≤ k → k < p → good k ≡ true) → first_bad good d i ≡ Some p
unfolding first_bad
found_at good zero i p l h e before = let z : ⊥ = omega arith in absurd z
found_at good (suc d) i p l h e before =
    ⊎_elim
    (λ (s : i ≡ p). rw (s, e))
    (λ (s : i < p). rw (before i (omega arith) s) (found_at good d (suc i) p s (omega arith) e (λ k m b. before k (omega arith) b)))
    (eq-or-lt_of_le l)

pub lowest-bad : (good : ℕ → Bool) (n p : ℕ) → (lowest good n ≡ Some p) ↔ Lowest good n p
lowest-bad good n p = (
  λ e. let f = lowest-from good n 0 p e in record { within = omega (arith, f.within); bad = f.bad; before = λ k h. f.before k (omega arith) h },
  λ f. found_at good n 0 p (omega arith) (omega (arith, f.within)) f.bad (λ k l h. f.before k h),
)

-- two tests that agree on the entries find the same
firsts_same : (f g : ℕ → Bool) (d i : ℕ) → ((k : ℕ) → i ≤ k → k < i + d → f k ≡ g k) → first_bad f d i ≡ first_bad g d i
unfolding first_bad
firsts_same f g zero i h = refl
firsts_same f g (suc d) i h = rw (h i (omega arith) (omega arith), firsts_same f g d (suc i) (λ k l m. h k (omega arith) (omega arith)))

pub lowest-same : (f g : ℕ → Bool) (n : ℕ) → ((k : ℕ) → k < n → f k ≡ g k) → lowest f n ≡ lowest g n
lowest-same f g n h = firsts_same f g n 0 (λ k l m. h k (omega arith))

-- What `position` finds in a list is the first entry that is not good, where the test of the elements is true of what is not good.
here : (p : ℕ → Bool) (good : ℕ → Bool) (xs : List ℕ) (b : Bool) → ((i : ℕ) → i < length xs → p (get_or xs i 0) ≡ not (good i)) → ltb (position_or_len p xs) (length xs) ≡ b
    → cond b (Some (position_or_len p xs)) None ≡ lowest good (length xs)
here p good xs true h e =
    let k : ℕ = position_or_len p xs in
    let l : k < length xs = ltb-true k (length xs) e in
    sym
    ((lowest-bad good (length xs) k).1
    (record {
      within = l;
      bad = not-true (good k) (sym (h k l) ∙ passes_at_first p xs 0 l);
      before = λ i b. not-false (good i) (sym (h i (omega arith)) ∙ fails_before_first p xs i 0 b);
    }))
here p good xs false h e =
    let l : length xs ≤ position_or_len p xs = ltb-false (position_or_len p xs) (length xs) e in
    sym (good-lowest good (length xs) (λ i b. not-false (good i) (sym (h i b) ∙ fails_before_first p xs i 0 (omega arith))))

pub position_lowest : (p : ℕ → Bool) (good : ℕ → Bool) (xs : List ℕ) → ((i : ℕ) → i < length xs → p (get_or xs i 0) ≡ not (good i)) → position p xs ≡ lowest good (length xs)
position_lowest p good xs h = here p good xs (ltb (position_or_len p xs) (length xs)) h refl

-- what `find` gives over the numbers below n
pub found_lowest : (good : ℕ → Bool) (n : ℕ) (r : Option ℕ)
    → MatchOption r ((k : ℕ) → 0 ≤ k → k < n → good k ≡ true) (λ i. (0 ≤ i) × (i < n) × (good i ≡ false) × ((k : ℕ) → 0 ≤ k → k < i → good k ≡ true))
    → r ≡ lowest good n
found_lowest good n None h = sym (good-lowest good n (λ k l. h k (omega arith) l))
found_lowest good n (Some p) h = sym ((lowest-bad good n p).1 (record { within = h.1; bad = h.2; before = λ k l. h.3 k (omega arith) l }))
