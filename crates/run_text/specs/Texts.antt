-- Texts: where a byte stands, what hexadecimal and decimal digits say, whether two texts are alike, and what is printed, whole or in front.
use Rattle.std.specs.Prelude.{ℕ, suc, ◌+◌, ◌-◌, ◌*◌, ◌/◌, ◌%◌, ◌^◌, Bool, cond, ◌&&◌, List, [], ◌∷◌, ◌++◌, length, take, ◌==◌, nat_eq, nat_le, nat_lt, codes, slice_index, Option}
use Rattle.std.specs.List.{flat_map}
use Rattle.std.specs.Io.KnownBytes.{Appends}
use Rattle.base.specs.Checks.{every}

-- the first place that holds the byte, or the text's length
unfoldable pub first_in : ℕ → List ℕ → ℕ
first_in b [] = 0
first_in b (x ∷ xs) = cond (x == b) 0 (suc (first_in b xs))

-- the value of a digit, of 0 to 9 and a to f; 0 for any other byte
abbrev pub digit_of : ℕ → ℕ
digit_of x = cond (nat_lt x 48) 0 (cond (nat_le x 57) (x - 48) (cond (nat_lt x 97) 0 (cond (nat_le x 102) (x - 87) 0)))

-- byte i of a text of hexadecimal digits, two for each
abbrev pub byte_of : List ℕ → ℕ → ℕ
byte_of hex i = digit_of (slice_index hex (i * 2)) * 16 + digit_of (slice_index hex (i * 2 + 1))

-- the number that n is the front of, with decimal digits behind it, in 64 bits
unfoldable pub number_on : ℕ → List ℕ → ℕ
number_on n [] = n
number_on n (d ∷ ds) = number_on ((n * 10 + digit_of d) % 2 ^ 64) ds

-- whether two texts have the same bytes
unfoldable pub alike : List ℕ → List ℕ → Bool
alike a b = length a == length b && every (λ i. nat_eq (slice_index a i) (slice_index b i)) (length a)

-- whether each byte of a text is b
unfoldable pub all_are : ℕ → List ℕ → Bool
all_are b a = every (λ i. nat_eq (slice_index a i) b) (length a)

-- a word as it is printed, after a space
abbrev pub spaced : List ℕ → List ℕ
spaced word = 32 ∷ word

-- the hexadecimal digit of a number below 16, of 0 to 9 and a to f
abbrev pub hex_digit_of : ℕ → ℕ
hex_digit_of n = cond (nat_lt n 10) (48 + n) (87 + n)

-- a byte in two hexadecimal digits
abbrev pub hex_of : ℕ → List ℕ
hex_of x = hex_digit_of (x / 16) ∷ hex_digit_of (x % 16) ∷ []

-- bytes in hexadecimal as they are printed, after 'x'
abbrev pub hex_text : List ℕ → List ℕ
hex_text bytes = spaced (codes "x") ++ flat_map hex_of bytes

-- what is printed of a buffer that holds the image in front and was A5: whether the image is the sheet, or else its bytes, and whether the rest is still A5
abbrev pub image_text : List ℕ → List ℕ → List ℕ → List ℕ
image_text image rest sheet = cond (alike image sheet) (spaced (codes "same")) (hex_text image) ++ spaced (cond (all_are 165 rest) (codes "kept") (codes "SPOILT"))

-- known bytes grow by a front of the text, which may be none of it or the whole
abbrev pub AppendsFront : Option (List ℕ) → Option (List ℕ) → List ℕ → Type 0
AppendsFront old new text = (n : ℕ) × Appends old new (take n text)
