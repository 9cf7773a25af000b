-- What a trailer that was found good, or bad, says of the sheet.
use mathlib.Core.Path.{◌≡◌, refl, sym, ◌∙◌, ap}
use mathlib.Core.Bool.{Bool, true, false, cond, ◌&&◌}
use mathlib.Core.List.{List}
use Prim.Native.Nat.{ℕ, ◌+◌, ◌-◌, ◌<◌, ◌≤◌}
use native.Mathlib.Omega.{arith}
use borrow.Author.Tests.{leb-true, eqb-true, le-leb, lt-leb}
use lib.Dec.{leb, eqb}
use lib.ListN.{length, get_or}
use Rattle.std.specs.Prelude.{Option, None, Some}
use Rattle.std.specs.Bool.{then_some}
use Rattle.base.specs.Bytes.{two_at, four_at}
use Rattle.base.proofs.Tests.{and_left, and_right, and_four}
use Rattle.layout.specs.declared.trailer.Sections.{Sections}
use Rattle.layout.specs.Trailer.{Named, trailer_at, to_labels, to_middle, to_front, trailer_good, front_bytes, middle_bytes, label_bytes, sections_of, parts, where_good, no_sections}

-- the sections of a good trailer
abbrev pub named : List ℕ → Named
named s = record { good = true; front = front_bytes s; middle = middle_bytes s; labels = label_bytes s }

pub record Found (letter : ℕ) (s : List ℕ) : Type 0 where
  pub long : 16 ≤ length s
  pub good : trailer_good letter s ≡ true
  pub is : sections_of letter s ≡ named s

-- the sections, by whether the sheet is long enough and its trailer good
pub split : (letter : ℕ) (s : List ℕ) (b : Bool) → (leb 16 (length s) && trailer_good letter s) ≡ b → sections_of letter s ≡ cond b (named s) no_sections
unfolding sections_of
split letter s b e = rw e

-- by the last test alone, where all before it are good
kept : (b : Bool) (n : Named) → n.good ≡ true → then_some b (parts n) ≡ where_good (cond b n no_sections)
kept true n g = rw g
kept false n g = refl

-- the trailer at byte t, and x, y and z its three distances
module _ (letter : ℕ) (s : List ℕ) (t x y z : ℕ) (at : t ≡ trailer_at s) (labels : x ≡ four_at s t) (middle : y ≡ four_at s (t + 4)) (front : z ≡ four_at s (t + 8)) (long : 16 ≤ length s) where
  pub middle-falls : y < x → where_good (sections_of letter s) ≡ None
  unfolding sections_of
  middle-falls h = rw (le-leb 16 (length s) long, ← at, ← labels, ← middle, lt-leb x y h)

  pub front-falls : x ≤ y → z < y → where_good (sections_of letter s) ≡ None
  unfolding sections_of
  front-falls r h = rw (le-leb 16 (length s) long, ← at, ← labels, ← middle, ← front, le-leb x y r, lt-leb y z h)

  pub by_rest : (f m e : ℕ) → e ≡ two_at s (t + 12) → x ≤ y → y ≤ z → m ≡ y - x → f ≡ z - y
      → then_some (eqb z t && eqb e 1 && eqb (get_or s (t + 14) 0) 0x53 && eqb (get_or s (t + 15) 0) letter) (record { front = f; middle = m; labels = x })
      ≡ where_good (sections_of letter s)
  unfolding sections_of
  by_rest f m e edition r k p q =
      rw (le-leb 16 (length s) long, ← at, ← labels, ← middle, ← front, le-leb x y r, le-leb y z k, p, q, edition)
      (kept _ (record { good = true; front = z - y; middle = y - x; labels = x }) refl)

pub too_short : (letter : ℕ) (s : List ℕ) → length s < 16 → where_good (sections_of letter s) ≡ None
unfolding sections_of
too_short letter s h = rw (lt-leb 16 (length s) h)

found_on : (letter : ℕ) (s : List ℕ) (b : Bool) → (leb 16 (length s) && trailer_good letter s) ≡ b → (cond b (named s) no_sections).good ≡ true → Found letter s
found_on letter s true e g =
    record {
      long = leb-true 16 (length s) (and_left (leb 16 (length s)) (trailer_good letter s) e);
      good = and_right (leb 16 (length s)) (trailer_good letter s) e;
      is = split letter s true e;
    }
found_on letter s false e g =
    let z : ◌≡◌ {A = ℕ} 0 1 = cc in
    let y : ⊥ = omega arith in
    absurd y

-- the sections were found
pub found : (letter : ℕ) (s : List ℕ) → (sections_of letter s).good ≡ true → Found letter s
found letter s g =
    let b : Bool = leb 16 (length s) && trailer_good letter s in
    found_on letter s b refl (ap (λ x. x.good) (sym (split letter s b refl)) ∙ g)

lost_on : (letter : ℕ) (s : List ℕ) (t b : Bool) → trailer_good letter s ≡ t → (true && t) ≡ b → (cond b (named s) no_sections).good ≡ false → t ≡ false
lost_on letter s true true q e g =
    let z : ◌≡◌ {A = ℕ} 0 1 = cc in
    let y : ⊥ = omega arith in
    absurd y
lost_on letter s true false q e g = e
lost_on letter s false b q e g = refl

-- they were not, in a sheet that is long enough
pub lost : (letter : ℕ) (s : List ℕ) → 16 ≤ length s → (sections_of letter s).good ≡ false → trailer_good letter s ≡ false
lost letter s h g =
    let e : (leb 16 (length s) && trailer_good letter s) ≡ (true && trailer_good letter s) = rw (le-leb 16 (length s) h) in
    lost_on letter s (trailer_good letter s) (true && trailer_good letter s) refl refl (ap (λ x. x.good) (sym (split letter s (true && trailer_good letter s) e)) ∙ g)

-- the rules one by one
pub record Trailer (letter : ℕ) (s : List ℕ) : Type 0 where
  pub rise : to_labels s ≤ to_middle s
  pub rise_on : to_middle s ≤ to_front s
  pub third : to_front s ≡ trailer_at s
  pub edition : two_at s (trailer_at s + 12) ≡ 1
  pub first_letter : get_or s (trailer_at s + 14) 0 ≡ 0x53
  pub second_letter : get_or s (trailer_at s + 15) 0 ≡ letter

pub rules : (letter : ℕ) (s : List ℕ) → trailer_good letter s ≡ true → Trailer letter s
rules letter s e =
    let x : Bool = leb (to_labels s) (to_middle s) in
    let y : Bool = leb (to_middle s) (to_front s) in
    let p : Bool = eqb (to_front s) (trailer_at s) in
    let q : Bool = eqb (two_at s (trailer_at s + 12)) 1 in
    let u : Bool = eqb (get_or s (trailer_at s + 14) 0) 0x53 in
    let v : Bool = eqb (get_or s (trailer_at s + 15) 0) letter in
    let front : (x && y) ≡ true = and_left (x && y) (p && q && u && v) e in
    let f = and_four p q u v (and_right (x && y) (p && q && u && v) e) in
    record {
      rise = leb-true (to_labels s) (to_middle s) (and_left x y front);
      rise_on = leb-true (to_middle s) (to_front s) (and_right x y front);
      third = eqb-true (to_front s) (trailer_at s) f.0;
      edition = eqb-true (two_at s (trailer_at s + 12)) 1 f.1;
      first_letter = eqb-true (get_or s (trailer_at s + 14) 0) 0x53 f.2;
      second_letter = eqb-true (get_or s (trailer_at s + 15) 0) letter f.3;
    }

-- the three sections fill what is in front of the trailer
pub fills : (letter : ℕ) (s : List ℕ) → trailer_good letter s ≡ true → front_bytes s + (middle_bytes s + label_bytes s) ≡ trailer_at s
fills letter s e =
    let t = rules letter s e in
    omega (arith, t.rise, t.rise_on, t.third)

-- what a call answers: the sections of a good trailer, or none, and then the trailer of a sheet that is long enough is bad
pub record Answered (letter : ℕ) (s : List ℕ) (t : Sections) : Type 0 where
  pub found_it : Found letter s
  pub is : t ≡ parts (named s)

answered_on : (letter : ℕ) (s : List ℕ) (t : Sections) (b : Bool) → (sections_of letter s).good ≡ b → Some t ≡ cond b (Some (parts (sections_of letter s))) None → Answered letter s t
answered_on letter s t true g e =
    let f : Found letter s = found letter s g in
    let same : t ≡ parts (sections_of letter s) = cc in
    record { found_it = f; is = same ∙ ap parts f.is }
answered_on letter s t false g e = let z : ◌≡◌ {A = ℕ} 0 1 = cc in let y : ⊥ = omega arith in absurd y

pub answered_some : (letter : ℕ) (s : List ℕ) (t : Sections) → Some t ≡ where_good (sections_of letter s) → Answered letter s t
answered_some letter s t e = answered_on letter s t (sections_of letter s).good refl e

none_on : (n : Named) (b : Bool) → n.good ≡ b → ◌≡◌ {A = Option Sections} None (cond b (Some (parts n)) None) → b ≡ false
none_on n true g e = let z : ◌≡◌ {A = ℕ} 0 1 = cc in let y : ⊥ = omega arith in absurd y
none_on n false g e = refl

pub answered_none : (letter : ℕ) (s : List ℕ) → 16 ≤ length s → None ≡ where_good (sections_of letter s) → trailer_good letter s ≡ false
answered_none letter s h e = lost letter s h (none_on (sections_of letter s) (sections_of letter s).good refl e)
