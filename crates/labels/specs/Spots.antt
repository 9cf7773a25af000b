-- Where a node's label stands (outline, "The cut sheet"): the cut sheet's if it has one, else the net sheet's; with neither, or with sheets that opening refuses, the empty part at the net sheet's end.
use Rattle.std.specs.Prelude.{◌≡◌, Bool, false, cond, ◌&&◌, List, ℕ, ◌+◌, eqb, length, take, drop, Option, Some, None}
use Rattle.std.specs.Borrow.{Bor}
use Rattle.layout.specs.Trailer.{front_bytes, middle_bytes, label_bytes}
use Rattle.net_sheet.specs.Image.{net_letter}
use Rattle.net_sheet.specs.Reading.{net_read}
use Rattle.cut_sheet.specs.Image.{cut_letter}
use Rattle.cut_sheet.specs.Reading.{cut_read}
use Rattle.texts.specs.Texts.{Found, text_of}
use Rattle.labels.specs.declared.Spot.{Spot}

-- no limit is asked for: opening refuses at every limit what the reader of a sheet refuses
abbrev pub opens : List ℕ → List ℕ → Bool
opens net cut = eqb (net_read net).answer 0 && eqb (cut_read (net_read net).net cut).answer 0

-- a sheet's labels stand behind its first two sections
abbrev pub labels_at : List ℕ → ℕ
labels_at s = front_bytes s + middle_bytes s

abbrev pub label_section : List ℕ → List ℕ
label_section s = take (label_bytes s) (drop (labels_at s) s)

-- a text of the section, counted from the sheet's byte 0
abbrev pub moved : ℕ → Found → Found
moved at t = record { found = t.found; from = at + t.from; length = t.length }

abbrev pub sheet_text : List ℕ → ℕ → Found
sheet_text s node = moved (labels_at s) (text_of (label_section s) node)

abbrev pub text_spot : Bool → Found → Spot
text_spot cut t = record { cut = cut; found = t.found; from = t.from; length = t.length }

-- the spot of the node's text in a sheet, the sheet's second letter given
abbrev pub sheet_spot : ℕ → List ℕ → ℕ → Spot
sheet_spot letter s node = text_spot (eqb letter cut_letter) (sheet_text s node)

-- the empty part at the net sheet's end
abbrev pub net_end : List ℕ → Spot
net_end net = record { cut = false; found = false; from = length net; length = 0 }

abbrev pub first_found : Spot → Spot → Spot
first_found p q = cond p.found p q

-- a spot, where it is a label
abbrev pub where_label : Spot → Option Spot
where_label p = cond p.found (Some p) None

unfoldable pub open_spot : List ℕ → List ℕ → ℕ → Spot
open_spot net cut node = first_found (sheet_spot cut_letter cut node) (first_found (sheet_spot net_letter net node) (net_end net))

unfoldable pub spot_of : List ℕ → List ℕ → ℕ → Spot
spot_of net cut node = cond (opens net cut) (open_spot net cut node) (net_end net)

-- the one of the two sheets that a spot is in
abbrev pub of_sheet : {A : Type 0} → Spot → A → A → A
of_sheet p net cut = cond p.cut cut net

-- the bytes of a sheet at a spot
abbrev pub bytes_at : Spot → List ℕ → List ℕ
bytes_at p s = take p.length (drop p.from s)

-- r is that part of that sheet: it has these bytes, and they lie where the sheet's lie
abbrev pub IsPart : Spot → Bor (List ℕ) → Bor (List ℕ) → Bor (List ℕ) → Type 0
IsPart p net cut r =
    (r.now ≡ bytes_at p (of_sheet p net cut).now)
    × (r.ref_ptr.0 ≡ (of_sheet p net cut).ref_ptr.0)
    × (r.ref_ptr.1 ≡ p.from + (of_sheet p net cut).ref_ptr.1)
