-- What `position` finds in a list is the lowest entry that is not good, where the test of the elements is true of what is not good: of a list of any type, and of its
-- front (base's `position_lowest` is of numbers and of a whole list).
use Rattle.std.proofs.Common.{◌≡◌, ℕ, ◌<◌, ◌≤◌, Bool, true, false, cond, not, ltb, List, length, get_or, take, sym, refl, ap, ◌∙◌, arith, ltb-true}
use borrow.Author.Tests.{ltb-false, not-true, not-false}
use Rattle.std.specs.Prelude.{None, Some, position}
use lib.Seq.{length-take-le}
use Rattle.std.specs.List.{position_or_len}
use Rattle.std.proofs.lemmas.List.{get_or-take}
use Rattle.std.proofs.lemmas.List.Sums.{passes_at_first, fails_before_first}
use Rattle.base.specs.Checks.{lowest}
use Rattle.base.proofs.First.{lowest-bad, good-lowest}

module _ {A : Type 0} (p : A → Bool) (d : A) (good : ℕ → Bool) (xs : List A) (same : (i : ℕ) → i < length xs → p (get_or xs i d) ≡ not (good i)) where
  position_on : (b : Bool) → ltb (position_or_len p xs) (length xs) ≡ b → cond b (Some (position_or_len p xs)) None ≡ lowest good (length xs)
  position_on true e =
      let k : ℕ = position_or_len p xs in
      let l : k < length xs = ltb-true k (length xs) e in
      sym
      ((lowest-bad good (length xs) k).1
      (record {
        within = l;
        bad = not-true (good k) (sym (same k l) ∙ passes_at_first p xs d l);
        before = λ i b. not-false (good i) (sym (same i (omega arith)) ∙ fails_before_first p xs i d b);
      }))
  position_on false e =
      let l : length xs ≤ position_or_len p xs = ltb-false (position_or_len p xs) (length xs) e in
      sym (good-lowest good (length xs) (λ i b. not-false (good i) (sym (same i b) ∙ fails_before_first p xs i d (omega arith))))

  position_is : position p xs ≡ lowest good (length xs)
  position_is = position_on (ltb (position_or_len p xs) (length xs)) refl

-- the same of the front of a list
pub position_taken : {A : Type 0} (p : A → Bool) (d : A) (good : ℕ → Bool) (xs : List A) (n : ℕ) → n ≤ length xs → ((i : ℕ) → i < n → p (get_or xs i d) ≡ not (good i)) → position p (take n xs) ≡ lowest good n
position_taken p d good xs n h same =
    let k : length (take n xs) ≡ n = length-take-le n xs h in
    position_is p d good (take n xs) (λ i l. ap p (get_or-take n xs i d (rw (← k) l)) ∙ same i (rw (← k) l)) ∙ ap (λ m. lowest good m) k
