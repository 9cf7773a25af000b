-- The cases of the definitions: a record whose bytes are there or not, and the count of records from the sections that were found.
use mathlib.Core.Path.{◌≡◌, refl, sym, ◌∙◌, ap}
use mathlib.Core.Bool.{Bool, true, false, cond, ◌&&◌}
use mathlib.Core.List.{List}
use Prim.Native.Nat.{ℕ, ◌/◌, ◌≤◌, ◌<◌, min}
use native.Mathlib.Omega.{arith}
use native.Mathlib.Nat.{min-eq_left, min-eq_right}
use borrow.Author.Tests.{le-leb, leb-true, leb-false}
use lib.Dec.{leb}
use lib.ListN.{length}
use Rattle.layout.specs.declared.trailer.Sections.{Sections}
use Rattle.std.specs.Prelude.{Option, Some, None}
use Rattle.layout.specs.Trailer.{front_bytes, parts}
use Rattle.layout.proofs.Found.{named}
use Rattle.net_sheet.specs.Reading.{record_at, no_record, record_there, long_enough, net_trailer_good, net_sections}
use Rattle.net_sheet.proofs.Loads as here
use Rattle.net_sheet.proofs.Trailers.{sections_by, passed}
use Rattle.walker.specs.Walking.{stands_at, record_count}

-- the same record as the net sheet's function gives
pub stands_there : (s : List ℕ) (i : ℕ) → record_there s i ≡ stands_at s i
unfolding stands_at record_there
stands_there s i = refl

pub is_there : (s : List ℕ) (i : ℕ) → i < length s / 12 → stands_at s i ≡ record_at s i
is_there s i h = sym (stands_there s i) ∙ here.is_there s i (omega (arith, h))

pub not_there : (s : List ℕ) (i : ℕ) → length s / 12 ≤ i → stands_at s i ≡ no_record
not_there s i h = sym (stands_there s i) ∙ here.not_there s i (omega (arith, h))

-- past the sheet's last 12 bytes every number stands at zeros
pub stands_past : (s : List ℕ) (i j : ℕ) → length s / 12 ≤ i → length s / 12 ≤ j → stands_at s i ≡ stands_at s j
stands_past s i j h l = not_there s i h ∙ sym (not_there s j l)

-- the count, from the sections that were found or not
count_by : (s : List ℕ) (b : Bool) → (long_enough s && net_trailer_good s) ≡ b → record_count s ≡ cond b (front_bytes s / 12) 0
unfolding record_count
count_by s b e = rw e

none_on : (s : List ℕ) (b : Bool) → (long_enough s && net_trailer_good s) ≡ b → ◌≡◌ {A = Option Sections} None (cond b (Some (parts (named s))) None) → record_count s ≡ 0
none_on s true e h = let z : ◌≡◌ {A = ℕ} 0 1 = cc in let y : ⊥ = omega arith in absurd y
none_on s false e h = count_by s false e

pub count-none : (s : List ℕ) → None ≡ net_sections s → record_count s ≡ 0
count-none s h = none_on s (long_enough s && net_trailer_good s) refl (h ∙ sections_by s (long_enough s && net_trailer_good s) refl)

-- where the sheet has 16 bytes the trailer decides
decided : (s : List ℕ) (b : Bool) → 16 ≤ length s → net_trailer_good s ≡ b → record_count s ≡ cond b (front_bytes s / 12) 0
unfolding record_count
decided s b h e =
    ap (λ x. cond (x && net_trailer_good s) (front_bytes s / 12) 0) (le-leb 16 (length s) h) ∙ ap (λ x. cond x (front_bytes s / 12) 0) e

pub count-good : (s : List ℕ) → 16 ≤ length s → net_trailer_good s ≡ true → record_count s ≡ front_bytes s / 12
count-good s h e = decided s true h e

pub count-some : (s : List ℕ) (t : Sections) → Some t ≡ net_sections s → record_count s ≡ t.front / 12
count-some s t h =
    let p = passed s t h in
    count-good s p.found_it.long p.good ∙ ap (λ (x : Sections). x.front / 12) (sym p.is)

-- so that a walk may end there
stands_on : (s : List ℕ) (n : ℕ) (b : Bool) → leb n (length s / 12) ≡ b → stands_at s (min n (length s / 12)) ≡ stands_at s n
stands_on s n true e = ap (λ i. stands_at s i) (min-eq_left (leb-true n (length s / 12) e))
stands_on s n false e =
    let past : length s / 12 < n = leb-false n (length s / 12) e in
    let m : min n (length s / 12) ≡ length s / 12 = min-eq_right {n = length s / 12} {m = n} (omega arith) in
    stands_past s (min n (length s / 12)) n (omega arith) (omega arith)

pub stands_clipped : (s : List ℕ) (n : ℕ) → stands_at s (min n (length s / 12)) ≡ stands_at s n
stands_clipped s n = stands_on s n (leb n (length s / 12)) refl
