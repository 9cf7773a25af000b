-- The round trips of a cut sheet, from the image of what was read and the cut of what was written.
use mathlib.Core.Path.{◌≡◌, refl, ◌∙◌, ap}
use mathlib.Core.Bool.{Bool, true, false, cond}
use mathlib.Core.List.{List}
use Prim.Native.Nat.{ℕ, ◌≤◌}
use borrow.Author.Tests.{leb-true, eqb-true}
use lib.Dec.{leb, eqb}
use lib.ListN.{length}
use Rattle.base.specs.Arrays.{Bytes}
use Rattle.base.specs.Checks.{whole, AllGood}
use Rattle.base.proofs.Patch.{patch-front}
use Rattle.base.proofs.Tests.{and_left, and_right}
use Rattle.base.proofs.Verdicts.{all-good, whole-good}
use Rattle.layout.specs.Trailer.{trailer_good, label_bytes}
use Rattle.netlist.specs.declared.Netlist.{Netlist}
use Rattle.netlist.specs.Checks.{net_checks}
use Rattle.queues.specs.Found.{found}
use Rattle.cut.specs.declared.Cut.{Cut}
use Rattle.cut.specs.Cuts.{no_cut}
use Rattle.cut.specs.Checks.{labels_few, cut_checks}
use Rattle.cut.proofs.Within.{cut_within}
use Rattle.cut_sheet.specs.Image.{cut_letter, cut_image}
use Rattle.cut_sheet.specs.Reading.{cut_from, cut_of, frame_good, read_verdict, cut_read}
use Rattle.cut_sheet.proofs.Verdicts.{read-good, read_done, cut_good, write_done, wrote-done}
use Rattle.cut_sheet.proofs.Frames.{shared}
use Rattle.cut_trips.specs.Typed.{Typed}
use Rattle.cut_trips.specs.Trips.{WriteAfterRead, trimmed, read_of, ReadAfterWriteAny, ReadAfterWrite, Clean, ReadAfterWriteClean, ReadIsClean, ReadIsAccepted}
use Rattle.cut_trips.proofs.Copies.{image_of}
use Rattle.cut_trips.proofs.Rereads.{long, image-read}
use Rattle.cut_trips.proofs.Trims.{trimmed-good, trimmed-queues, trimmed-same}
use Rattle.cut_trips.proofs.Cleans.{from_typed, from_clean, none_typed, none_clean}

-- what an accepted sheet passed
pub record Accepted (n : Netlist) (s : List ℕ) : Type 0 where
  pub is : cut_read n s ≡ record { answer = 0; place = 0; cut = cut_of s; queues = found n (cut_of s).part }
  pub long : 16 ≤ length s
  pub trailer : trailer_good cut_letter s ≡ true
  pub good : AllGood (cut_checks n (cut_of s))

pub accepted : (n : Netlist) (s : List ℕ) → (cut_read n s).answer ≡ 0 → Accepted n s
unfolding cut_read cut_from
accepted n s e =
    let g = read-good n s e in
    let frame : frame_good s ≡ true = whole-good (frame_good s) g.1.0 in
    let both : shared s ≡ true = and_left (shared s) (labels_few (label_bytes s)) frame in
    let few : labels_few (label_bytes s) ≡ true = and_right (shared s) (labels_few (label_bytes s)) frame in
    record {
      is = read_done n s e;
      long = leb-true 16 (length s) (and_left (leb 16 (length s)) (trailer_good cut_letter s) both);
      trailer = and_right (leb 16 (length s)) (trailer_good cut_letter s) both;
      good = (g.0, (ap whole few, g.1.1));
    }

-- it is the image of its cut
pub image-back : (n : Netlist) (s : List ℕ) → Bytes s → Accepted n s → cut_image (cut_of s) ≡ s
image-back n s b a = image_of n s b a.long a.trailer (cut_within n (cut_of s) a.good)

pub read_is_accepted : ReadIsAccepted
read_is_accepted n s e =
    let a = accepted n s e in
    rw a.is (a.good, refl)

pub write_after_read : WriteAfterRead
write_after_read n s old b e room =
    let a = accepted n s e in
    let same = image-back n s b a in
    let w = wrote-done n (cut_of s) old (write_done n (cut_of s) (length old) a.good (rw same room)) in
    rw a.is (w.0 ∙ rw same, w.1 ∙ rw same (patch-front old s))

pub read_after_write_any : ReadAfterWriteAny
read_after_write_any n c ty e = image-read n c ty (cut_within n c (cut_good n c e))

-- what reading gives of a cut that passes the checks
pub read_of_good : (n : Netlist) (c : Cut) → AllGood (cut_checks n c) → read_of n c ≡ record { answer = 0; place = 0; cut = c; queues = found n c.part }
unfolding read_of
read_of_good n c g = rw (all-good (cut_checks n c) g)

pub trimmed-read : (n : Netlist) (c : Cut) → AllGood (net_checks n) → Typed c → AllGood (cut_checks n c) → read_of n (trimmed c) ≡ record { answer = 0; place = 0; cut = trimmed c; queues = found n c.part }
trimmed-read n c net ty g =
    let w = cut_within n c g in
    read_of_good n (trimmed c) (trimmed-good n c net w (long n c ty w) g) ∙ rw (trimmed-queues n c net w)

pub clean_read : (n : Netlist) (c : Cut) → Typed c → Clean c → AllGood (cut_checks n c) → read_of n (trimmed c) ≡ record { answer = 0; place = 0; cut = c; queues = found n c.part }
clean_read n c ty z g = ap (λ x. read_of n x) (trimmed-same n c (cut_within n c g) ty z) ∙ read_of_good n c g

pub read_after_write : ReadAfterWrite
read_after_write n c net ty e = read_after_write_any n c ty e ∙ trimmed-read n c net ty (cut_good n c e)

pub read_after_write_clean : ReadAfterWriteClean
read_after_write_clean n c ty z e = read_after_write_any n c ty e ∙ clean_read n c ty z (cut_good n c e)

clean_on : (n : Netlist) (s : List ℕ) → Bytes s → (t : Bool) → eqb (read_verdict n s).answer 0 ≡ t → Typed (cond t (cut_of s) no_cut) × Clean (cond t (cut_of s) no_cut)
unfolding cut_read
clean_on n s b true e =
    let a = accepted n s (eqb-true (read_verdict n s).answer 0 e) in
    (from_typed n s b _ _ _ (cut_within n (cut_of s) a.good), from_clean n s b _ _ _)
clean_on n s b false e = (none_typed, none_clean)

pub read_is_clean : ReadIsClean
unfolding cut_read
read_is_clean n s b = clean_on n s b (eqb (read_verdict n s).answer 0) refl
