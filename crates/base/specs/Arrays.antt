-- Lists as arrays hold them: bytes below 256, so many elements each of its type, and zeros past a count.
use Rattle.std.specs.Prelude.{◌≡◌, List, ℕ, ◌<◌, ◌≤◌, length, get_or, replicate}
use Rattle.base.specs.Lists.{fill}

-- every element is below m
abbrev pub Below : ℕ → List ℕ → Type 0
Below m xs = (i : ℕ) → get_or xs i 0 < m

abbrev pub Bytes : List ℕ → Type 0
Bytes s = Below 256 s

-- an array of m elements, each below b
pub record Array (m b : ℕ) (xs : List ℕ) : Type 0 where
  pub long : length xs ≡ m
  pub each : Below b xs

-- a list of m elements with zeros from n on
abbrev pub cleared : ℕ → ℕ → List ℕ → List ℕ
cleared m n xs = fill (λ i. get_or xs i 0) n (replicate m 0)

-- zeros from n on
abbrev pub ZerosFrom : ℕ → List ℕ → Type 0
ZerosFrom n xs = (i : ℕ) → n ≤ i → get_or xs i 0 ≡ 0
