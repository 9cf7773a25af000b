-- Where the labels section of a sheet with a good trailer lies: behind the first two sections, and in front of the trailer.
use mathlib.Core.Path.{◌≡◌, refl, ap}
use mathlib.Core.Bool.{Bool, true, false, cond}
use mathlib.Core.List.{List}
use Prim.Native.Nat.{ℕ, ◌+◌, ◌-◌, ◌≤◌}
use native.Mathlib.Omega.{arith}
use borrow.Author.Tests.{le-leb}
use Rattle.std.specs.Prelude.{Option, Some, None}
use lib.ListN.{length, take, drop, length-drop}
use lib.Seq.{length-take-le}
use Rattle.layout.specs.declared.trailer.Sections.{Sections}
use Rattle.layout.specs.Trailer.{trailer_good, label_bytes, sections_of, parts, where_good}
use Rattle.layout.proofs.Found.{answered_some, found, named, fills}
use Rattle.texts.specs.declared.Text.{Text}
use Rattle.texts.specs.Texts.{Found, text_of, where_found}
use Rattle.texts.proofs.Meaning.{text-within}
use Rattle.labels.specs.Spots.{labels_at, label_section, moved, sheet_text}

pub sections_good : (letter : ℕ) (s : List ℕ) → 16 ≤ length s → trailer_good letter s ≡ true → (sections_of letter s).good ≡ true
unfolding sections_of
sections_good letter s h g = rw (le-leb 16 (length s) h, g)

-- a text that was found is that of the definition, and one that was not is none there
some_on : (f : Found) (u : Text) (b : Bool) → f.found ≡ b → Some u ≡ cond b (Some (record { from = f.from; length = f.length })) None → f ≡ record { found = true; from = u.from; length = u.length }
some_on f u true q e =
    let same : u ≡ record { from = f.from; length = f.length } = cc in
    rw (q, same)
some_on f u false q e = let z : ◌≡◌ {A = ℕ} 0 1 = cc in let y : ⊥ = omega arith in absurd y

pub text_some : (f : Found) (u : Text) → Some u ≡ where_found f → f ≡ record { found = true; from = u.from; length = u.length }
text_some f u e = some_on f u f.found refl e

none_on : (f : Found) (b : Bool) → f.found ≡ b → ◌≡◌ {A = Option Text} None (cond b (Some (record { from = f.from; length = f.length })) None) → b ≡ false
none_on f true q e = let z : ◌≡◌ {A = ℕ} 0 1 = cc in let y : ⊥ = omega arith in absurd y
none_on f false q e = refl

pub text_none : (f : Found) → None ≡ where_found f → f.found ≡ false
text_none f e = none_on f f.found refl e

module _ (letter : ℕ) (s : List ℕ) (g : (sections_of letter s).good ≡ true) where
  pub section_room : labels_at s + label_bytes s ≤ length s
  section_room =
      let f = found letter s g in
      omega (arith, fills letter s f.good, f.long)

  pub section_length : length (label_section s) ≡ label_bytes s
  section_length = length-take-le (label_bytes s) (drop (labels_at s) s) (rw (length-drop (labels_at s) s) (omega (arith, section_room)))

  -- the sections that were found are these
  pub record Found_at (t : Sections) : Type 0 where
    pub at : t.front + t.middle ≡ labels_at s
    pub bytes : t.labels ≡ label_bytes s

  pub found_at : (t : Sections) → Some t ≡ where_good (sections_of letter s) → Found_at t
  found_at t e =
      let q : t ≡ parts (named s) = (answered_some letter s t e).is in
      record { at = ap (λ x. x.front + x.middle) q; bytes = ap (λ x. x.labels) q }

  -- a text that was looked for in the part of the sheet that they name
  pub text-moved : (t : Sections) → Some t ≡ where_good (sections_of letter s) → (node : ℕ) → moved (t.front + t.middle) (text_of (take (t.front + t.middle + t.labels - (t.front + t.middle)) (drop (t.front + t.middle) s)) node) ≡ sheet_text s node
  text-moved t e node =
      let f = found_at t e in
      let n : t.front + t.middle + t.labels - (t.front + t.middle) ≡ label_bytes s = omega (arith, f.bytes) in
      rw (n, f.at)

  -- a text lies within the sheet
  pub text-room : (node : ℕ) → (sheet_text s node).from + (sheet_text s node).length ≤ length s
  text-room node = omega (arith, section_room, section_length, text-within (label_section s) node)
