-- The nineteen codes: one table of nineteen rows, each a code, its operand count and its width rule (outline, "The nineteen codes").
use Rattle.std.specs.Prelude.{Bool, cond, List, [], ◌∷◌, ℕ, suc, eqb, get_or}
use Rattle.codes.specs.declared.Rule.{Rule}
use Rattle.codes.specs.declared.Rule.TheVariants.{Free, Constant, Register, Same, Flag, Pair, Compare, Shift, Choose, Join, Part}
use Rattle.codes.specs.declared.Row.{Row}

abbrev pub mk : ℕ → ℕ → Rule → Row
mk c n u = record { code = c; operands = n; rule = u }

unfoldable pub rows : List Row
rows =
    mk 0x00 0 Free  -- IN
    ∷ mk 0x01 0 Constant  -- CONST
    ∷ mk 0x02 1 Register  -- REG
    ∷ mk 0x10 1 Same  -- NOT
    ∷ mk 0x11 1 Same  -- NEG
    ∷ mk 0x12 1 Flag  -- ANY
    ∷ mk 0x13 1 Flag  -- PAR
    ∷ mk 0x20 2 Pair  -- AND
    ∷ mk 0x21 2 Pair  -- OR
    ∷ mk 0x22 2 Pair  -- XOR
    ∷ mk 0x23 2 Pair  -- ADD
    ∷ mk 0x24 2 Pair  -- SUB
    ∷ mk 0x30 2 Compare  -- EQ
    ∷ mk 0x31 2 Compare  -- LTU
    ∷ mk 0x40 2 Shift  -- SHL
    ∷ mk 0x41 2 Shift  -- SHR
    ∷ mk 0x50 3 Choose  -- MUX
    ∷ mk 0x51 2 Join  -- CAT
    ∷ mk 0x52 1 Part  -- SLICE
    ∷ []

-- the row at a place of the table
abbrev pub row_at : ℕ → Row
row_at i = get_or rows i (mk 0 0 Free)

-- the place of the first row with that code, counted from i; one past the last where there is none
unfoldable pub place : List Row → ℕ → ℕ → ℕ
place [] i code = i
place (r ∷ rs) i code = cond (eqb r.code code) i (place rs (suc i) code)

-- the place of a code in the table; 19 for no code
abbrev pub place_of : ℕ → ℕ
place_of code = place rows 0 code

-- how many operands a code takes
abbrev pub count_of : ℕ → ℕ
count_of code = (row_at (place_of code)).operands

-- IN, and REG
abbrev pub is_in : ℕ → Bool
is_in code = eqb code 0x00

abbrev pub is_reg : ℕ → Bool
is_reg code = eqb code 0x02
