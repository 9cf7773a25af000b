-- The trailer of a sheet (outline, "The net sheet" and "The cut sheet").
use Rattle.std.specs.Prelude.{Bool, true, false, cond, ◌&&◌, List, [], ◌∷◌, ◌++◌, ℕ, ◌+◌, ◌-◌, eqb, leb, length, get_or}
use Rattle.base.specs.Bytes.{two_at, four_at, le2, le4}
use Rattle.std.specs.Prelude.{Option, Some, None}
use Rattle.layout.specs.declared.trailer.Sections.{Sections}

-- the trailer's first byte
abbrev pub trailer_at : List ℕ → ℕ
trailer_at s = length s - 16

-- the three distances back from it: to the first label byte, to the first byte of the middle section, to byte 0
abbrev pub to_labels : List ℕ → ℕ
to_labels s = four_at s (trailer_at s)

abbrev pub to_middle : List ℕ → ℕ
to_middle s = four_at s (trailer_at s + 4)

abbrev pub to_front : List ℕ → ℕ
to_front s = four_at s (trailer_at s + 8)

-- the rules that both sheets share: the distances rise or stay equal, the third is the length less 16, edition 1, `S` and the sheet's letter
abbrev pub trailer_good : ℕ → List ℕ → Bool
trailer_good letter s =
    leb (to_labels s) (to_middle s)
    && leb (to_middle s) (to_front s)
    && (eqb (to_front s) (trailer_at s)
    && eqb (two_at s (trailer_at s + 12)) 1
    && eqb (get_or s (trailer_at s + 14) 0) 0x53
    && eqb (get_or s (trailer_at s + 15) 0) letter)

-- the three sections, in bytes
abbrev pub front_bytes : List ℕ → ℕ
front_bytes s = to_front s - to_middle s

abbrev pub middle_bytes : List ℕ → ℕ
middle_bytes s = to_middle s - to_labels s

abbrev pub label_bytes : List ℕ → ℕ
label_bytes s = to_labels s

-- what a trailer names: whether it keeps to those rules, and the sections; zeros where it does not
pub record Named : Type 0 where
  pub good : Bool
  pub front : ℕ
  pub middle : ℕ
  pub labels : ℕ

abbrev pub no_sections : Named
no_sections = record { good = false; front = 0; middle = 0; labels = 0 }

unfoldable pub sections_of : ℕ → List ℕ → Named
sections_of letter s =
    cond (leb 16 (length s) && trailer_good letter s)
    (record { good = true; front = front_bytes s; middle = middle_bytes s; labels = label_bytes s })
    no_sections

-- the sections alone, where the trailer is good
abbrev pub parts : Named → Sections
parts n = record { front = n.front; middle = n.middle; labels = n.labels }

abbrev pub where_good : Named → Option Sections
where_good n = cond n.good (Some (parts n)) None

-- the trailer behind sections of these many bytes
abbrev pub trailer_bytes : ℕ → ℕ → ℕ → ℕ → List ℕ
trailer_bytes front middle labels letter =
    le4 labels ++ le4 (middle + labels) ++ le4 (front + (middle + labels)) ++ le2 1 ++ (0x53 ∷ letter ∷ [])
