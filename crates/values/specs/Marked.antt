-- The outline's marked examples of what the codes give.
use Rattle.std.specs.Prelude.{◌≡◌, ℕ, List, [], ◌∷◌, map}
use Rattle.values.specs.Values.{value_of}

-- a node and the values of its operands, as `value_of` takes them, and what the outline says it gives
pub record Example : Type 0 where
  pub code : ℕ
  pub w : ℕ
  pub v : ℕ
  pub k : ℕ
  pub x : ℕ
  pub y : ℕ
  pub z : ℕ
  pub gives : ℕ

abbrev pub example : ℕ → ℕ → ℕ → ℕ → ℕ → ℕ → ℕ → ℕ → Example
example code w v k x y z gives = record { code = code; w = w; v = v; k = k; x = x; y = y; z = z; gives = gives }

-- ADD, SUB, NEG twice, PAR, SHL, SHR, CAT, SLICE, LTU
abbrev pub marked : List Example
marked =
    example 0x23 8 8 0 250 15 0 9
    ∷ example 0x24 4 4 0 3 5 0 14
    ∷ example 0x11 8 0 0 0 0 0 0
    ∷ example 0x11 8 0 0 1 0 0 255
    ∷ example 0x13 1 0 0 7 0 0 1
    ∷ example 0x40 8 8 0 3 7 0 128
    ∷ example 0x41 8 8 0 200 32 0 200
    ∷ example 0x51 7 4 0 5 2 0 82
    ∷ example 0x52 3 0 2 182 0 0 5
    ∷ example 0x31 1 8 0 7 7 0 0
    ∷ []

abbrev pub given : Example → ℕ
given e = value_of e.code e.w e.v e.k e.x e.y e.z

-- every example gives what the outline says
abbrev pub MarkedHold : Type 0
MarkedHold = map given marked ≡ map (λ e. e.gives) marked
