-- Decimals and lines in the outline's words: a command's text is read number by number, and a line's way says which text it is.
use mathlib.Core.Path.{◌≡◌, refl, ap, ◌∙◌}
use mathlib.Core.Bool.{true, false}
use mathlib.Core.List.{List, [], ◌∷◌}
use Prim.Native.Nat.{ℕ, ◌^◌, ◌<◌}
use native.Mathlib.Omega.{arith}
use Rattle.lines.specs.declared.Reading.{Reading}
use Rattle.std.specs.Fmt.{decimal}
use Rattle.lines.specs.Commands.{Command, feed, drain, fire, round, command_text, Small, reading, is_digit, goes_on, byte_read, bytes_read, line_read, is_command, command_read}
use Rattle.lines.specs.Meaning.{DecimalSays, DecimalAlone, TwentySuffice, EachRead, OnlyThose, NoBytes}
use Rattle.lines.proofs.Digits.{spelled_spells, decimal-length, alone}
use Rattle.lines.proofs.Ways.{append_read, number_read, Letter, feeds, drains, fires, Way, start, letter, space, number, number-space, numbers, all-rules, no_way, way}

pub decimal-says : DecimalSays
decimal-says n h = (spelled_spells n h, decimal-length n h)

pub decimal-alone : DecimalAlone
decimal-alone = alone

pub twenty_suffice : TwentySuffice
twenty_suffice n h = omega arith

-- ---- each command's text

-- the first number, behind a letter and a space
first-number : (k i : ℕ) → i < 2 ^ 32 → bytes_read (reading 2 k 0 0) (decimal i) ≡ reading 3 k i 0
unfolding byte_read
first-number k = number_read (reading 2 k 0 0) (λ x. reading 3 k x 0) (λ b t. rw t) (λ x b t. rw t)

-- the second, behind a feed's first and a space
second-number : (i v : ℕ) → v < 2 ^ 32 → bytes_read (reading 4 0 i 0) (decimal v) ≡ reading 5 0 i v
unfolding byte_read
second-number i = number_read (reading 4 0 i 0) (λ x. reading 5 0 i x) (λ b t. rw t) (λ x b t. rw t)

pub each_read : EachRead
unfolding bytes_read byte_read is_digit goes_on is_command
each_read (feed i v) h = (
  append_read (reading 2 0 0 0) (decimal i) (32 ∷ decimal v) ∙ ap (λ R. bytes_read R (32 ∷ decimal v)) (first-number 0 i h.0) ∙ second-number i v h.1,
  refl,
)
each_read (drain j) h = (first-number 1 j h, refl)
each_read (fire k) h = (first-number 2 k h, refl)
each_read round h = (refl, refl)

-- ---- no other line

abbrev IsText : List ℕ → Reading → Type 0
IsText line R = (c : Command) × Small c × (line ≡ command_text c) × (R ≡ command_read c)

wrong : {A : Type 0} (R S : Reading) → R ≡ S → is_command R ≡ true → is_command S ≡ false → A
wrong R S e t f = let z : ◌≡◌ {A = ℕ} 0 1 = cc in let y : ⊥ = omega arith in absurd y

-- one number makes a drain or a fire
with_one : (line : List ℕ) (R : Reading) (c k i : ℕ) → Letter c k → i < 2 ^ 32 → line ≡ c ∷ 32 ∷ decimal i → R ≡ reading 3 k i 0 → is_command R ≡ true → IsText line R
unfolding is_command
with_one line R c k i feeds h e f t = wrong R (reading 3 0 i 0) f t refl
with_one line R c k i drains h e f t = (drain i, h, e, f)
with_one line R c k i fires h e f t = (fire i, h, e, f)

is_text : (line : List ℕ) (R : Reading) → Way line R → is_command R ≡ true → IsText line R
unfolding is_command
is_text line R (start e f) t = wrong R (reading 0 0 0 0) f t refl
is_text line R (letter c k l e f) t = wrong R (reading 1 k 0 0) f t refl
is_text line R (space c k l e f) t = wrong R (reading 2 k 0 0) f t refl
is_text line R (number c k i l h e f) t = with_one line R c k i l h e f t
is_text line R (number-space i h e f) t = wrong R (reading 4 0 i 0) f t refl
is_text line R (numbers i v h g e f) t = (feed i v, (h, g), e, f)
is_text line R (all-rules e f) t = (round, omega arith, e, f)
is_text line R (no_way f) t = wrong R (reading 7 0 0 0) f t refl

pub only_those : OnlyThose
only_those line t = is_text line (line_read line) (way line) t

-- ---- no byte

later : {A : Type 0} (R S : Reading) → R ≡ S → R.place ≡ 0 → 0 < S.place → A
later R S e f h = let g : R.place ≡ S.place = ap (λ R. R.place) e in let y : ⊥ = omega arith in absurd y

none_read : (line : List ℕ) (R : Reading) → Way line R → R.place ≡ 0 → line ≡ []
none_read line R (start e f) z = e
none_read line R (letter c k l e f) z = later R (reading 1 k 0 0) f z (omega arith)
none_read line R (space c k l e f) z = later R (reading 2 k 0 0) f z (omega arith)
none_read line R (number c k i l h e f) z = later R (reading 3 k i 0) f z (omega arith)
none_read line R (number-space i h e f) z = later R (reading 4 0 i 0) f z (omega arith)
none_read line R (numbers i v h g e f) z = later R (reading 5 0 i v) f z (omega arith)
none_read line R (all-rules e f) z = later R (reading 6 3 0 0) f z (omega arith)
none_read line R (no_way f) z = later R (reading 7 0 0 0) f z (omega arith)

pub no_bytes : NoBytes
unfolding bytes_read
no_bytes line = (none_read line (line_read line) (way line), λ e. ap (λ l. (line_read l).place) e)
