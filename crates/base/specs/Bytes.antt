-- Numbers in sheets: little-endian, in two bytes or in four.
use Rattle.std.specs.Prelude.{List, [], ◌∷◌, ℕ, ◌+◌, ◌*◌, ◌/◌, ◌%◌, get_or}

-- the number that two bytes hold, and that four hold, the lowest byte first
abbrev pub two : ℕ → ℕ → ℕ
two x y = x + y * 256

abbrev pub four : ℕ → ℕ → ℕ → ℕ → ℕ
four x y z u = two x y + two z u * 65536

-- the number that stands at a byte of a sheet
abbrev pub two_at : List ℕ → ℕ → ℕ
two_at s i = two (get_or s i 0) (get_or s (i + 1) 0)

abbrev pub four_at : List ℕ → ℕ → ℕ
four_at s i = four (get_or s i 0) (get_or s (i + 1) 0) (get_or s (i + 2) 0) (get_or s (i + 3) 0)

-- the bytes of a number
abbrev pub le2 : ℕ → List ℕ
le2 n = n % 256 ∷ n / 256 % 256 ∷ []

abbrev pub le4 : ℕ → List ℕ
le4 n = n % 256 ∷ n / 256 % 256 ∷ n / 65536 % 256 ∷ n / 16777216 % 256 ∷ []
