-- What the decimals of `trace` say, and which lines are its commands: exactly the commands' texts.
use Rattle.std.specs.Prelude.{◌≡◌, true, ◌↔◌, List, [], ◌∷◌, ℕ, ◌+◌, ◌-◌, ◌*◌, ◌^◌, ◌≤◌, ◌<◌, length, get_or}
use Rattle.std.specs.Fmt.{decimal}
use Rattle.lines.specs.Commands.{Command, command_text, Small, line_read, is_command, command_read}

-- ---- decimals

-- the number that digits say behind those of n, the most significant first: a digit counts what it is above 48, and those before it count ten times
unfoldable pub said_behind : ℕ → List ℕ → ℕ
said_behind n [] = n
said_behind n (b ∷ bs) = said_behind (n * 10 + (b - 48)) bs

abbrev pub said : List ℕ → ℕ
said digits = said_behind 0 digits

-- the decimals of n without leading zeros: a digit at least, each from 48 to 57, a zero in front only where it is the whole number, and they say n
pub record Spells (n : ℕ) (digits : List ℕ) : Type 0 where
  pub a_digit : 0 < length digits
  pub each_digit : (k : ℕ) → k < length digits → (48 ≤ get_or digits k 0) × (get_or digits k 0 ≤ 57)
  pub no_zeros : get_or digits 0 0 ≡ 48 → (n ≡ 0) × (length digits ≡ 1)
  pub says : said digits ≡ n

-- The digits of `decimal n` are decimals of n without leading zeros, at most twenty.
abbrev pub DecimalSays : Type 0
DecimalSays = (n : ℕ) → n < 10 ^ 20 → Spells n (decimal n) × (length (decimal n) ≤ 20)

-- There are no others.
abbrev pub DecimalAlone : Type 0
DecimalAlone = (n : ℕ) (digits : List ℕ) → n < 10 ^ 20 → Spells n digits → digits ≡ decimal n

-- Twenty digits hold every 64-bit number.
abbrev pub TwentySuffice : Type 0
TwentySuffice = (n : ℕ) → n < 2 ^ 64 → n < 10 ^ 20

-- ---- lines

-- The text of each command whose numbers are below 2^32 is read as that command.
abbrev pub EachRead : Type 0
EachRead = (c : Command) → Small c → (line_read (command_text c) ≡ command_read c) × (is_command (command_read c) ≡ true)

-- No other line is read as a command: a line that is so read is the text of such a command, and is read as that one.
abbrev pub OnlyThose : Type 0
OnlyThose =
    (line : List ℕ)
    → is_command (line_read line) ≡ true
    → (c : Command) × Small c × (line ≡ command_text c) × (line_read line ≡ command_read c)

-- The place is 0 exactly where a line has no byte.
abbrev pub NoBytes : Type 0
NoBytes = (line : List ℕ) → ((line_read line).place ≡ 0) ↔ (line ≡ [])
