-- What writing and then reading leaves, by cases: refused by the writer, or what the checks say of the cut with zeros past its counts.
use mathlib.Core.Path.{◌≡◌, ◌∙◌, ap}
use mathlib.Core.List.{List, [], ◌∷◌, ◌++◌}
use Prim.Native.Nat.{ℕ, ◌≤◌}
use borrow.Author.Tests.{leb-true, eq-eqb, ne_eqb}
use lib.Dec.{leb, lit<}
use lib.ListN.{length, take, drop}
use lib.Seq.{take-append_seam}
use Rattle.base.specs.Checks.{whole, AllGood}
use Rattle.base.proofs.Verdicts.{good-all, good-apart, whole-good}
use Rattle.netlist.specs.declared.Netlist.{Netlist}
use Rattle.queues.specs.Found.{no_queues}
use Rattle.cut.specs.declared.Cut.{Cut}
use Rattle.cut.specs.Cuts.{no_cut}
use Rattle.cut.specs.Checks.{cut_checks}
use Rattle.cut.proofs.Within.{cut_within}
use Rattle.cut_sheet.specs.Image.{cut_image}
use Rattle.cut_sheet.specs.Reading.{cut_read}
use Rattle.cut_sheet.specs.Writing.{write_checks, write_verdict, cut_wrote, cut_written}
use Rattle.cut_trips.specs.Typed.{Typed}
use Rattle.cut_trips.specs.Again.{reread, RereadSame, RereadClean}
use Rattle.cut_trips.proofs.Refusals.{write_rising}
use Rattle.cut_trips.proofs.Rereads.{image-read}
use Rattle.cut_trips.proofs.Trips.{trimmed-read, clean_read}

-- what the writer accepts passed the cut's checks, and has room
accepted : (n : Netlist) (c : Cut) (room : ℕ) → (write_verdict n c room).answer ≡ 0 → AllGood (cut_checks n c) × (length (cut_image c) ≤ room)
accepted n c room e =
    let g = good-all 1 (write_checks n c room) (lit< tt) (write_rising n c room) e in
    let r = good-apart (cut_checks n c) ((16, whole (leb (length (cut_image c)) room)) ∷ []) g in
    (r.0, leb-true (length (cut_image c)) room (whole-good _ r.1.0))

module _ (n : Netlist) (c : Cut) (old : List ℕ) where
  pub reread-refused : ((cut_wrote n c (length old)).answer ≡ 0 → ⊥) → record { answer = (cut_wrote n c (length old)).answer; place = (cut_wrote n c (length old)).place; cut = no_cut; queues = no_queues } ≡ reread n c (length old)
  unfolding cut_wrote reread
  reread-refused h = rw (ne_eqb (write_verdict n c (length old)).answer 0 h)

  -- what the writer left where it was done
  pub record Done : Type 0 where
    pub good : AllGood (cut_checks n c)
    pub size : (cut_wrote n c (length old)).length ≡ length (cut_image c)
    pub room : length (cut_image c) ≤ length old
    pub image : cut_written n c old ≡ cut_image c ++ drop (length (cut_image c)) old

  pub wrote : (cut_wrote n c (length old)).answer ≡ 0 → Done
  unfolding cut_wrote cut_written
  wrote e =
      let r = accepted n c (length old) e in
      let a = eq-eqb (write_verdict n c (length old)).answer 0 e in
      record {
        good = r.0;
        size = rw a;
        room = r.1;
        image = rw a;
      }

  pub reread-done : Typed c → (cut_wrote n c (length old)).answer ≡ 0 → cut_read n (take (cut_wrote n c (length old)).length (cut_written n c old)) ≡ reread n c (length old)
  unfolding cut_wrote reread
  reread-done ty e =
      let d = wrote e in
      let a = eq-eqb (write_verdict n c (length old)).answer 0 e in
      let front : take (cut_wrote n c (length old)).length (cut_written n c old) ≡ cut_image c =
      ap (λ k. take k (cut_written n c old)) d.size ∙ ap (λ l. take (length (cut_image c)) l) d.image ∙ take-append_seam (cut_image c) (drop (length (cut_image c)) old) in
      ap (λ s. cut_read n s) front ∙ image-read n c ty (cut_within n c d.good) ∙ rw a

pub reread-same : RereadSame
unfolding reread
reread-same n c room net ty e = rw (eq-eqb (write_verdict n c room).answer 0 e) (trimmed-read n c net ty (accepted n c room e).0)

pub reread_clean : RereadClean
unfolding reread
reread_clean n c room ty z e = rw (eq-eqb (write_verdict n c room).answer 0 e) (clean_read n c ty z (accepted n c room e).0)
