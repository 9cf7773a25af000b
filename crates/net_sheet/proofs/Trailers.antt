-- Check 2 from the sections that were found: the rules that both sheets share, and the net sheet's own two.
use mathlib.Core.Path.{◌≡◌, refl, sym, ◌∙◌, ap}
use mathlib.Core.Bool.{Bool, true, false, cond, ◌&&◌}
use mathlib.Core.List.{List}
use Prim.Native.Nat.{ℕ, ◌+◌, ◌%◌, ◌≤◌}
use native.Mathlib.Omega.{arith}
use borrow.Author.Tests.{le-leb, leb-true}
use lib.Dec.{eqb}
use lib.ListN.{length}
use Rattle.std.specs.Prelude.{Option, Some, None}
use Rattle.std.specs.Bool.{then_some}
use Rattle.base.specs.Checks.{verdict, whole}
use Rattle.base.proofs.Tests.{and_left, and_right}
use Rattle.base.proofs.Verdicts.{verdict-good}
use Rattle.layout.specs.declared.trailer.Sections.{Sections}
use Rattle.layout.specs.Trailer.{trailer_good, front_bytes, middle_bytes, label_bytes, sections_of, parts, where_good}
use Rattle.layout.proofs.Found.{Found, Answered, answered_none, named, split, fills}
use Rattle.netlist.specs.Checks.{net_checks}
use Rattle.net_sheet.specs.Image.{net_letter}
use Rattle.net_sheet.specs.Reading.{net_of, net_from, long_enough, net_trailer_good, net_sections, sheet_verdict}

pub sections_by : (s : List ℕ) (b : Bool) → (long_enough s && net_trailer_good s) ≡ b → net_sections s ≡ cond b (Some (parts (named s))) None
unfolding net_sections
sections_by s b e = rw e

-- the reader's two tests, of sections that were found or not
none_on : (s : List ℕ) (b : Bool) → long_enough s ≡ b → None ≡ where_good (sections_of net_letter s) → None ≡ net_sections s
none_on s true l e =
    let t : trailer_good net_letter s ≡ false = answered_none net_letter s (leb-true 16 (length s) l) e in
    sym (sections_by s false (rw (l, t)))
none_on s false l e = sym (sections_by s false (rw l))

pub sections_none : (s : List ℕ) → None ≡ where_good (sections_of net_letter s) → None ≡ net_sections s
sections_none s e = none_on s (long_enough s) refl e

by : (b : Bool) (t : Sections) → then_some b t ≡ cond b (Some t) None
by true t = refl
by false t = refl

pub sections_tested : (s : List ℕ) (t : Sections) → Answered net_letter s t → then_some (eqb (t.middle % 2) 0 && eqb (t.front % 12) 0) t ≡ net_sections s
sections_tested s t a =
    let f = a.found_it in
    rw a.is (by _ (parts (named s)) ∙ sym (sections_by s (eqb (middle_bytes s % 2) 0 && eqb (front_bytes s % 12) 0) (rw (le-leb 16 (length s) f.long, f.good))))

pub record Passed (s : List ℕ) (t : Sections) : Type 0 where
  pub found_it : Found net_letter s
  pub is : t ≡ parts (named s)
  pub good : net_trailer_good s ≡ true

passed_on : (s : List ℕ) (t : Sections) (b : Bool) → (long_enough s && net_trailer_good s) ≡ b → Some t ≡ cond b (Some (parts (named s))) None → Passed s t
passed_on s t true g e =
    let l : long_enough s ≡ true = and_left (long_enough s) (net_trailer_good s) g in
    let n : net_trailer_good s ≡ true = and_right (long_enough s) (net_trailer_good s) g in
    let even : Bool = eqb (middle_bytes s % 2) 0 in
    let twelve : Bool = eqb (front_bytes s % 12) 0 in
    let tr : trailer_good net_letter s ≡ true = and_left (trailer_good net_letter s) even (and_left (trailer_good net_letter s && even) twelve n) in
    record {
      found_it = record { long = leb-true 16 (length s) l; good = tr; is = split net_letter s true (rw (l, tr)) };
      is = cc;
      good = n;
    }
passed_on s t false g e = let z : ◌≡◌ {A = ℕ} 0 1 = cc in let y : ⊥ = omega arith in absurd y

pub passed : (s : List ℕ) (t : Sections) → Some t ≡ net_sections s → Passed s t
passed s t e = passed_on s t (long_enough s && net_trailer_good s) refl (e ∙ sections_by s (long_enough s && net_trailer_good s) refl)

failed_on : (s : List ℕ) (b : Bool) → net_trailer_good s ≡ b → 16 ≤ length s → ◌≡◌ {A = Option Sections} None (cond b (Some (parts (named s))) None) → b ≡ false
failed_on s true g l e = let z : ◌≡◌ {A = ℕ} 0 1 = cc in let y : ⊥ = omega arith in absurd y
failed_on s false g l e = refl

pub failed : (s : List ℕ) → 16 ≤ length s → None ≡ net_sections s → net_trailer_good s ≡ false
failed s l e = failed_on s (net_trailer_good s) refl l (e ∙ sections_by s (net_trailer_good s) (rw (le-leb 16 (length s) l)))

-- where the trailer is good the netlist's own checks answer
pub net_answers : (s : List ℕ) (t : Sections) → Passed s t → sheet_verdict s ≡ verdict (net_checks (net_of s))
net_answers s t p = verdict-good 1 _ _ (ap whole (le-leb 16 (length s) p.found_it.long)) ∙ verdict-good 2 _ _ (ap whole p.good)

pub net_is : (s : List ℕ) (t : Sections) → Passed s t → net_from s t.front t.middle t.labels ≡ net_of s
net_is s t p = ap (λ x. net_from s x.front x.middle x.labels) p.is

-- the sections lie within the sheet
pub net-room : (s : List ℕ) (t : Sections) → Passed s t → t.front + (t.middle + t.labels) ≤ length s
net-room s t p =
    let e : t.front + (t.middle + t.labels) ≡ front_bytes s + (middle_bytes s + label_bytes s) = ap (λ x. x.front + (x.middle + x.labels)) p.is in
    let f = fills net_letter s p.found_it.good in
    rw (e, f) (omega arith)
