-- Checks, numbered and in order: each is good or names its first bad entry, and the first that is not good answers.
use Rattle.std.specs.Prelude.{◌≡◌, Bool, true, false, cond, ◌&&◌, List, [], ◌∷◌, ◌↔◌, ℕ, zero, suc, ◌<◌, ◌≤◌, eqb, take, get_or}
use Rattle.std.specs.Prelude.{Option, None, Some, Result, Ok, Err}
use Rattle.base.specs.declared.Verdict.{Verdict}

-- each of n entries, counted from 0, is good
abbrev pub every : (ℕ → Bool) → ℕ → Bool
every good zero = true
every good (suc n) = good n && every good n

-- the first of the d entries from i on that is not good
unfoldable pub first_bad : (ℕ → Bool) → ℕ → ℕ → Option ℕ
first_bad good zero i = None
first_bad good (suc d) i = cond (good i) (first_bad good d (suc i)) (Some i)

-- the lowest of n entries, counted from 0, that is not good
abbrev pub lowest : (ℕ → Bool) → ℕ → Option ℕ
lowest good n = first_bad good n 0

-- a check that has no entries: its place is 0
abbrev pub whole : Bool → Option ℕ
whole good = cond good None (Some 0)

abbrev pub answered : ℕ → ℕ → Verdict
answered n p = record { answer = n; place = p }

-- 0, done, and its place
abbrev pub done : Verdict
done = answered 0 0

abbrev pub or_else : ℕ → Option ℕ → Verdict → Verdict
or_else n None next = next
or_else n (Some p) next = answered n p

-- the first check that is not good, by its number and its place; done where all are good
unfoldable pub verdict : List (ℕ × Option ℕ) → Verdict
verdict [] = done
verdict ((n, c) ∷ cs) = or_else n c (verdict cs)

-- a verdict as a call gives it: done, or else the number and the place of what refuses
abbrev pub judged : Verdict → Result Unit Verdict
judged v = cond (eqb v.answer 0) (Ok tt) (Err v)

-- one check alone, as a call gives it
abbrev pub passed : ℕ → Option ℕ → Result Unit Verdict
passed n None = Ok tt
passed n (Some p) = Err (answered n p)

-- all checks of a list are good
abbrev pub AllGood : List (ℕ × Option ℕ) → Type 0
AllGood [] = Unit
AllGood ((n, c) ∷ cs) = (c ≡ None) × AllGood cs

-- the checks stand in the order of their numbers, from k on
abbrev pub Rising : ℕ → List (ℕ × Option ℕ) → Type 0
Rising k [] = Unit
Rising k ((n, c) ∷ cs) = (k ≤ n) × Rising (suc n) cs

-- the number of check j of a list, and what it finds
abbrev pub number_of : List (ℕ × Option ℕ) → ℕ → ℕ
number_of cs j = (get_or cs j (0, None)).0

abbrev pub found_by : List (ℕ × Option ℕ) → ℕ → Option ℕ
found_by cs j = (get_or cs j (0, None)).1

-- p is the lowest of n entries that is not good
pub record Lowest (good : ℕ → Bool) (n p : ℕ) : Type 0 where
  pub within : p < n
  pub bad : good p ≡ false
  pub before : (k : ℕ) → k < p → good k ≡ true

-- Check j of a list answers exactly: its number, with that place, if and only if all checks before are good and it finds that place.
abbrev pub ExactAt : List (ℕ × Option ℕ) → ℕ → ℕ → Type 0
ExactAt cs j p = (verdict cs ≡ answered (number_of cs j) p) ↔ (AllGood (take j cs) × (found_by cs j ≡ Some p))
