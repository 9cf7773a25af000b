-- Lists in order: entries one behind the other, kept where a test holds.
use Rattle.std.specs.Prelude.{ℕ, zero, suc, max, Bool, false, cond, ◌||◌, List, [], ◌∷◌, ◌++◌, ◌==◌, slice_set}

module _ {A : Type 0} where
  -- f 0, f 1, .., up to f (n - 1), one behind the other
  unfoldable pub listed : ℕ → (ℕ → List A) → List A
  listed zero f = []
  listed (suc n) f = listed n f ++ f n

  -- f of each entry, stored from place k on; past the end of xs nothing is stored
  unfoldable pub laid : (A → ℕ) → ℕ → List A → List ℕ → List ℕ
  laid f k [] xs = xs
  laid f k (q ∷ qs) xs = laid f (suc k) qs (slice_set xs k (f q))

  -- one entry, where the test holds
  abbrev pub one_if : Bool → A → List A
  one_if b x = cond b (x ∷ []) []

-- one of the n entries from 0 on passes the test
unfoldable pub some : ℕ → (ℕ → Bool) → Bool
some zero t = false
some (suc n) t = t n || some n t

-- i stands in a list
abbrev pub member : ℕ → List ℕ → Bool
member i [] = false
member i (x ∷ xs) = i == x || member i xs

-- the largest of f 0, f 1, .., up to f (n - 1); 0 for none
unfoldable pub largest : ℕ → (ℕ → ℕ) → ℕ
largest zero f = 0
largest (suc n) f = max (f n) (largest n f)
