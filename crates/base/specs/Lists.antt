-- Lists that loops leave: filled from the front, put one behind the other, or written over in the middle.
use Rattle.std.specs.Prelude.{List, [], ◌++◌, ℕ, zero, suc, ◌+◌, length, take, drop, set}

-- the first n elements are f 0, f 1, .., the rest as they were
unfoldable pub fill : (ℕ → ℕ) → ℕ → List ℕ → List ℕ
fill f zero xs = xs
fill f (suc n) xs = set (fill f n xs) n (f n)

-- f 0, f 1, .., up to f (n - 1), one behind the other
unfoldable pub flat : (ℕ → List ℕ) → ℕ → List ℕ
flat f zero = []
flat f (suc n) = flat f n ++ f n

-- bs stands from place i on, the rest as it was
unfoldable pub patch : List ℕ → ℕ → List ℕ → List ℕ
patch xs i bs = take i xs ++ bs ++ drop (i + length bs) xs
