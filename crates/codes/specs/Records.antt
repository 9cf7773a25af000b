-- The rule of a record (outline, "The net sheet" and "The nineteen codes").
use Rattle.std.specs.Prelude.{Bool, true, false, cond, ◌&&◌, ◌||◌, List, [], ◌∷◌, ℕ, ◌+◌, ◌^◌, eqb, ltb, leb, get_or, take}
use Rattle.codes.specs.declared.Rule.{Rule}
use Rattle.codes.specs.declared.Rule.TheVariants.{Free, Constant, Register, Same, Flag, Pair, Compare, Shift, Choose, Join, Part}
use Rattle.codes.specs.declared.Row.{Row}
use Rattle.codes.specs.declared.Record.{Record}
use Rattle.codes.specs.Rows.{row_at, place_of, count_of}

-- every operand is an existing node; for every code but REG it has a smaller number than its own node
abbrev pub operand_good : ℕ → ℕ → ℕ → ℕ → Bool
operand_good nodes i code x = ltb x nodes && (eqb code 0x02 || ltb x i)

-- a field that the code doesn't use is zero
abbrev pub field_good : Bool → ℕ → ℕ → ℕ → ℕ → Bool
field_good used nodes i code x = cond used (operand_good nodes i code x) (eqb x 0)

-- k is used by CONST, REG and SLICE
abbrev pub uses_k : Rule → Bool
uses_k Free = false
uses_k Constant = true
uses_k Register = true
uses_k Same = false
uses_k Flag = false
uses_k Pair = false
uses_k Compare = false
uses_k Shift = false
uses_k Choose = false
uses_k Join = false
uses_k Part = true

unfoldable pub fields_good : Row → ℕ → ℕ → Record → Bool
fields_good row nodes i r =
    field_good (ltb 0 row.operands) nodes i r.code r.a
    && field_good (ltb 1 row.operands) nodes i r.code r.b
    && field_good (ltb 2 row.operands) nodes i r.code r.c
    && (uses_k row.rule || eqb r.k 0)

-- the width rule: w is the record's width, x, y and z are those of its operands a, b and c
abbrev pub widths_good : Rule → ℕ → ℕ → ℕ → ℕ → ℕ → Bool
widths_good Free w x y z k = true
widths_good Constant w x y z k = ltb k (2 ^ w)
widths_good Register w x y z k = eqb x w && ltb k (2 ^ w)
widths_good Same w x y z k = eqb x w
widths_good Flag w x y z k = eqb w 1
widths_good Pair w x y z k = eqb x w && eqb y w
widths_good Compare w x y z k = eqb w 1 && eqb x y
widths_good Shift w x y z k = eqb x w
widths_good Choose w x y z k = eqb x 1 && eqb y w && eqb z w
widths_good Join w x y z k = eqb (x + y) w
widths_good Part w x y z k = leb (k + w) x

-- a width is 1 to 32 bits
abbrev pub width_good : ℕ → Bool
width_good w = leb 1 w && leb w 32

-- Record i of a sheet with so many nodes, whose widths are listed: it has a row, by which all its fields are good.
unfoldable pub record_good : List ℕ → ℕ → ℕ → Record → Bool
record_good widths nodes i r =
    ltb (place_of r.code) 19
    && width_good r.width
    && fields_good (row_at (place_of r.code)) nodes i r
    && widths_good (row_at (place_of r.code)).rule r.width (get_or widths r.a 0) (get_or widths r.b 0) (get_or widths r.c 0) r.k

-- a record's operands: a field that the code doesn't use is none
abbrev pub operands_in : Record → List ℕ
operands_in r = take (count_of r.code) (r.a ∷ r.b ∷ r.c ∷ [])
