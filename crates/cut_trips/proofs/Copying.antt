-- What reading and then writing leaves, by cases: refused by the reader, no room, or the same bytes.
use mathlib.Core.Path.{◌≡◌, refl, ◌∙◌}
use mathlib.Core.Bool.{Bool, true, false}
use mathlib.Core.List.{List}
use Prim.Native.Nat.{ℕ}
use native.Mathlib.Omega.{arith}
use borrow.Author.Tests.{leb-true, leb-false, eq-eqb, ne_eqb}
use lib.Dec.{leb}
use lib.ListN.{length}
use Rattle.base.specs.Arrays.{Bytes}
use Rattle.base.specs.Checks.{answered}
use Rattle.layout.specs.Write.{wrote_as}
use Rattle.netlist.specs.declared.Netlist.{Netlist}
use Rattle.cut_sheet.specs.Reading.{cut_of, read_verdict, cut_read}
use Rattle.cut_sheet.specs.Writing.{cut_wrote, cut_written}
use Rattle.cut_sheet.proofs.Verdicts.{write_short, wrote-refused}
use Rattle.cut_trips.specs.Again.{copied, copied_into}
use Rattle.cut_trips.proofs.Trips.{accepted, image-back, write_after_read}

module _ (n : Netlist) (s old : List ℕ) where
  pub copy-refused : ((cut_read n s).answer ≡ 0 → ⊥) → (wrote_as (cut_read n s).answer (cut_read n s).place 0 ≡ copied n s (length old)) × (old ≡ copied_into n s old)
  unfolding cut_read copied copied_into
  copy-refused h = (rw (ne_eqb (read_verdict n s).answer 0 h), rw (ne_eqb (read_verdict n s).answer 0 h))

  on : Bytes s → (e : (cut_read n s).answer ≡ 0) → (b : Bool) → leb (length s) (length old) ≡ b → (cut_wrote n (cut_read n s).cut (length old) ≡ copied n s (length old)) × (cut_written n (cut_read n s).cut old ≡ copied_into n s old)
  unfolding cut_read copied copied_into
  on b e true l =
      let w = write_after_read n s old b e (leb-true (length s) (length old) l) in
      let a = eq-eqb (read_verdict n s).answer 0 e in
      (w.0 ∙ rw (a, l), w.1 ∙ rw (a, l))
  on b e false l =
      let g = accepted n s e in
      let same = image-back n s b g in
      let r = wrote-refused n (cut_of s) old (answered 16 0) (write_short n (cut_of s) (length old) g.good (rw same (leb-false (length s) (length old) l))) (λ z. omega arith) in
      let a = eq-eqb (read_verdict n s).answer 0 e in
      rw a (r.0 ∙ rw l, r.1 ∙ rw l)

  pub copy_done : Bytes s → (cut_read n s).answer ≡ 0 → (cut_wrote n (cut_read n s).cut (length old) ≡ copied n s (length old)) × (cut_written n (cut_read n s).cut old ≡ copied_into n s old)
  copy_done b e = on b e (leb (length s) (length old)) refl
