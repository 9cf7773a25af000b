-- Check 7 from the sections that were found: the rules that both sheets share, and the bound on the label bytes.
use mathlib.Core.Path.{◌≡◌, refl, sym, ◌∙◌, ap}
use mathlib.Core.Bool.{Bool, true, false, cond, ◌&&◌}
use mathlib.Core.List.{List, ◌∷◌}
use Prim.Native.Nat.{ℕ, ◌+◌, ◌≤◌}
use native.Mathlib.Omega.{arith}
use borrow.Author.Tests.{le-leb}
use lib.Dec.{leb}
use Rattle.std.specs.Prelude.{Option, Some, None}
use lib.ListN.{length}
use Rattle.base.specs.Checks.{verdict, whole, answered}
use Rattle.base.proofs.Tests.{and_right}
use Rattle.base.proofs.Verdicts.{verdict-good, verdict-bad}
use Rattle.layout.specs.declared.trailer.Sections.{Sections}
use Rattle.layout.specs.Trailer.{trailer_good, front_bytes, middle_bytes, label_bytes, sections_of, where_good, no_sections}
use Rattle.layout.proofs.Found.{Answered, answered_some, named, split, fills}
use Rattle.netlist.specs.declared.Netlist.{Netlist}
use Rattle.netlist.specs.Checks.{numbers_good}
use Rattle.cut.specs.Checks.{labels_few, part_checks, cut_checks}
use Rattle.cut_sheet.specs.Image.{cut_letter}
use Rattle.cut_sheet.specs.Reading.{cut_from, cut_of, frame_good, read_verdict}

-- long enough, and the shared rules kept
abbrev pub shared : List ℕ → Bool
shared s = leb 16 (length s) && trailer_good cut_letter s

none_on : (s : List ℕ) (b : Bool) → shared s ≡ b → ◌≡◌ {A = Option Sections} None (where_good (cond b (named s) no_sections)) → frame_good s ≡ false
none_on s true e h = let z : ◌≡◌ {A = ℕ} 0 1 = cc in let y : ⊥ = omega arith in absurd y
none_on s false e h = rw e

-- no sections were found
pub frame_none : (s : List ℕ) → None ≡ where_good (sections_of cut_letter s) → frame_good s ≡ false
frame_none s h = none_on s (shared s) refl (h ∙ ap where_good (split cut_letter s (shared s) refl))

-- they were: the bound on the label bytes is left to test
module _ (s : List ℕ) (t : Sections) (h : Some t ≡ where_good (sections_of cut_letter s)) where
  a : Answered cut_letter s t
  a = answered_some cut_letter s t h

  pub frame_is : frame_good s ≡ leb t.labels 4096
  frame_is = rw (le-leb 16 (length s) a.found_it.long, a.found_it.good, a.is)

  pub cut_is : cut_from s t.front t.middle t.labels ≡ cut_of s
  cut_is = ap (λ x. cut_from s x.front x.middle x.labels) a.is

  -- the sections lie within the sheet
  pub cut_room : t.front + (t.middle + t.labels) ≤ length s
  cut_room =
      let q : t.front + (t.middle + t.labels) ≡ front_bytes s + (middle_bytes s + label_bytes s) = ap (λ x. x.front + (x.middle + x.labels)) a.is in
      let f = fills cut_letter s a.found_it.good in
      rw (q, f) (omega arith)

-- where the frame is good the cut's own checks answer
pub cut_answers : (n : Netlist) (s : List ℕ) → frame_good s ≡ true → read_verdict n s ≡ verdict (cut_checks n (cut_of s))
unfolding cut_from
cut_answers n s g =
    let few : labels_few (label_bytes s) ≡ true = and_right (shared s) (labels_few (label_bytes s)) g in
    ap (λ b. verdict ((3, whole (numbers_good n)) ∷ (7, whole b) ∷ part_checks n (cut_of s))) (g ∙ sym few)

-- the checks before them
pub numbers-bad : (n : Netlist) (s : List ℕ) → numbers_good n ≡ false → read_verdict n s ≡ answered 3 0
numbers-bad n s e = verdict-bad 3 0 _ _ (ap whole e)

pub frame-bad : (n : Netlist) (s : List ℕ) → numbers_good n ≡ true → frame_good s ≡ false → read_verdict n s ≡ answered 7 0
frame-bad n s e f = verdict-good 3 _ _ (ap whole e) ∙ verdict-bad 7 0 _ _ (ap whole f)
