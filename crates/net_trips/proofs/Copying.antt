-- What reading and then writing leaves, by cases: refused by the reader, no room, or the same bytes.
use mathlib.Core.Path.{◌≡◌, refl, ◌∙◌}
use mathlib.Core.Bool.{Bool, true, false}
use mathlib.Core.List.{List}
use Prim.Native.Nat.{ℕ}
use native.Mathlib.Omega.{arith}
use borrow.Author.Tests.{leb-true, leb-false, eq-eqb, ne_eqb}
use lib.Dec.{leb}
use lib.ListN.{length}
use Rattle.base.specs.Arrays.{Bytes}
use Rattle.base.specs.Checks.{answered}
use Rattle.base.proofs.Verdicts.{whole-good}
use Rattle.layout.specs.Write.{wrote_as}
use Rattle.net_sheet.specs.Reading.{net_of, net_trailer_good, sheet_verdict, net_read}
use Rattle.net_sheet.specs.Writing.{net_wrote, net_written}
use Rattle.net_sheet.proofs.Verdicts.{net-within, write_short, wrote-refused}
use Rattle.net_trips.specs.Again.{copied, copied_into}
use Rattle.net_trips.proofs.Copies.{image_of}
use Rattle.net_trips.proofs.Trips.{accepted, write_after_read}

module _ (s old : List ℕ) where
  pub copy-refused : ((net_read s).answer ≡ 0 → ⊥) → (wrote_as (net_read s).answer (net_read s).place 0 ≡ copied s (length old)) × (old ≡ copied_into s old)
  unfolding net_read copied copied_into
  copy-refused h = (rw (ne_eqb (sheet_verdict s).answer 0 h), rw (ne_eqb (sheet_verdict s).answer 0 h))

  on : Bytes s → (e : (net_read s).answer ≡ 0) → (b : Bool) → leb (length s) (length old) ≡ b → (net_wrote (net_read s).net (length old) ≡ copied s (length old)) × (net_written (net_read s).net old ≡ copied_into s old)
  unfolding net_read copied copied_into
  on b e true l =
      let w = write_after_read s old b e (leb-true (length s) (length old) l) in
      let a = eq-eqb (sheet_verdict s).answer 0 e in
      (w.0 ∙ rw (a, l), w.1 ∙ rw (a, l))
  on b e false l =
      let g = accepted s e in
      let long = leb-true 16 (length s) (whole-good _ g.0) in
      let same = image_of s b long (whole-good (net_trailer_good s) g.1.0) (net-within (net_of s) g.1.1) in
      let r = wrote-refused (net_of s) old (answered 16 0) (write_short (net_of s) (length old) g.1.1 (rw same (leb-false (length s) (length old) l))) (λ z. omega arith) in
      let a = eq-eqb (sheet_verdict s).answer 0 e in
      rw a (r.0 ∙ rw l, r.1 ∙ rw l)

  pub copy_done : Bytes s → (net_read s).answer ≡ 0 → (net_wrote (net_read s).net (length old) ≡ copied s (length old)) × (net_written (net_read s).net old ≡ copied_into s old)
  copy_done b e = on b e (leb (length s) (length old)) refl
