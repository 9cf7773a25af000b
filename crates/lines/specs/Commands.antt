-- The commands of `trace` (outline, "The bench example, whole"): their texts, and a line read byte by byte.
use Rattle.std.specs.Prelude.{Bool, cond, not, ◌&&◌, ◌||◌, List, [], ◌∷◌, ◌++◌, ℕ, ◌+◌, ◌-◌, ◌*◌, ◌^◌, ◌<◌, eqb, ltb}
use Rattle.std.specs.Fmt.{decimal}
use Rattle.lines.specs.declared.Reading.{Reading}

-- ---- the texts: single spaces, decimals below 2^32 without leading zeros

pub data Command : Type 0 where
  feed : ℕ → ℕ → Command
  drain : ℕ → Command
  fire : ℕ → Command
  round : Command

abbrev pub command_text : Command → List ℕ
command_text (feed i v) = 102 ∷ 32 ∷ decimal i ++ (32 ∷ decimal v)
command_text (drain j) = 100 ∷ 32 ∷ decimal j
command_text (fire k) = 114 ∷ 32 ∷ decimal k
command_text round = 97 ∷ []

abbrev pub Small : Command → Type 0
Small (feed i v) = (i < 2 ^ 32) × (v < 2 ^ 32)
Small (drain j) = j < 2 ^ 32
Small (fire k) = k < 2 ^ 32
Small round = 0 < 1

-- ---- a line, byte by byte

-- places: 0 no byte yet; 1 the letter f, d or r; 2 a space; 3 in the first number; 4 a space; 5 in the second number; 6 the letter a; 7 no command
abbrev pub reading : ℕ → ℕ → ℕ → ℕ → Reading
reading place kind index value = record { place = place; kind = kind; index = index; value = value }

abbrev pub nothing : Reading
nothing = reading 0 0 0 0

abbrev pub bad : Reading
bad = reading 7 0 0 0

abbrev pub after_letter : ℕ → Reading
after_letter b =
    cond (eqb b 102) (reading 1 0 0 0) (cond (eqb b 100) (reading 1 1 0 0) (cond (eqb b 114) (reading 1 2 0 0) (cond (eqb b 97) (reading 6 3 0 0) bad)))

unfoldable pub is_digit : ℕ → Bool
is_digit b = ltb 47 b && ltb b 58

-- a number with one more digit: not behind a 0, and below 2^32
abbrev pub longer : ℕ → ℕ → ℕ
longer x b = x * 10 + (b - 48)

unfoldable pub goes_on : ℕ → ℕ → Bool
goes_on x b = is_digit b && (ltb 0 x && ltb (longer x b) (2 ^ 32))

unfoldable pub byte_read : Reading → ℕ → Reading
byte_read R b =
    cond (eqb R.place 0) (after_letter b)
    (cond (eqb R.place 1) (cond (eqb b 32) (reading 2 R.kind 0 0) bad)
    (cond (eqb R.place 2) (cond (is_digit b) (reading 3 R.kind (b - 48) 0) bad)
    (cond (eqb R.place 3)
    (cond (goes_on R.index b) (reading 3 R.kind (longer R.index b) 0) (cond (eqb b 32 && eqb R.kind 0) (reading 4 0 R.index 0) bad))
    (cond (eqb R.place 4) (cond (is_digit b) (reading 5 R.kind R.index (b - 48)) bad)
    (cond (eqb R.place 5) (cond (goes_on R.value b) (reading 5 R.kind R.index (longer R.value b)) bad) bad)))))

unfoldable pub bytes_read : Reading → List ℕ → Reading
bytes_read R [] = R
bytes_read R (b ∷ bs) = bytes_read (byte_read R b) bs

abbrev pub line_read : List ℕ → Reading
line_read line = bytes_read nothing line

-- a whole command: a feed with both numbers, a drain or a fire with one, or the letter a
unfoldable pub is_command : Reading → Bool
is_command R = eqb R.place 5 || (eqb R.place 3 && not (eqb R.kind 0)) || eqb R.place 6

-- what is read of a command's text
abbrev pub command_read : Command → Reading
command_read (feed i v) = reading 5 0 i v
command_read (drain j) = reading 3 1 j 0
command_read (fire k) = reading 3 2 k 0
command_read round = reading 6 3 0 0
