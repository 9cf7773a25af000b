-- Where the text of a node's label entry stands in a labels section (outline, "The net sheet": node number, length, that many bytes).
use Rattle.std.specs.Prelude.{Bool, true, false, cond, List, ℕ, zero, suc, ◌+◌, eqb, leb, length}
use Rattle.layout.specs.Labels.{entry_node, entry_length, entry_end}
use Rattle.std.specs.Prelude.{Option, Some, None}
use Rattle.texts.specs.declared.Text.{Text}

-- what is found: whether an entry has the node, and where its text stands; zeros where none has
pub record Found : Type 0 where
  pub found : Bool
  pub from : ℕ
  pub length : ℕ

abbrev pub no_text : Found
no_text = record { found = false; from = 0; length = 0 }

-- the text of the entry at byte i, behind its number and its length
abbrev pub text_at : List ℕ → ℕ → Found
text_at s i = record { found = true; from = i + 3; length = entry_length s i }

-- The first entry from byte i on that has the node, up to one that the section's end cuts off. An entry takes more than one byte, so a section of d bytes has no more than d entries.
unfoldable pub text_from : ℕ → List ℕ → ℕ → ℕ → Found
text_from zero s node i = no_text
text_from (suc d) s node i =
    cond (leb (entry_end s i) (length s))
    (cond (eqb (entry_node s i) node) (text_at s i) (text_from d s node (entry_end s i)))
    no_text

abbrev pub text_of : List ℕ → ℕ → Found
text_of s node = text_from (length s) s node 0

-- the text alone, where one is found
abbrev pub where_found : Found → Option Text
where_found t = cond t.found (Some (record { from = t.from; length = t.length })) None
