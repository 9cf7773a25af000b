-- The round trips of a net sheet, from the image of what was read and the netlist of what was written.
use mathlib.Core.Path.{◌≡◌, refl, ◌∙◌, ap}
use mathlib.Core.Bool.{Bool, true, false, cond}
use mathlib.Core.List.{List}
use Prim.Native.Nat.{ℕ, ◌≤◌}
use native.Mathlib.Omega.{arith}
use borrow.Author.Tests.{leb-true, le-leb, eq-eqb, eqb-true}
use lib.Dec.{eqb, lit<, lit≤}
use lib.ListN.{length}
use Rattle.base.specs.Arrays.{Bytes}
use Rattle.base.specs.Checks.{whole, done, AllGood}
use Rattle.base.proofs.Patch.{patch-front}
use Rattle.base.proofs.Verdicts.{all-good, good-all, whole-good}
use Rattle.netlist.specs.Netlists.{no_net}
use Rattle.net_sheet.specs.Image.{net_image}
use Rattle.net_sheet.specs.Reading.{net_of, net_trailer_good, sheet_checks, sheet_verdict, net_read}
use Rattle.net_sheet.proofs.Verdicts.{rising, net_good, net-within, read_done, write_done, wrote-done}
use Rattle.net_trips.specs.Typed.{Typed}
use Rattle.net_trips.specs.Trips.{WriteAfterRead, ReadAfterWrite, ReadAfterWriteClean, ReadIsClean, ReadIsAccepted, Clean}
use Rattle.net_trips.proofs.Copies.{image_of}
use Rattle.net_trips.proofs.Rereads.{long_is, trailer-good, net_of_image}
use Rattle.net_trips.proofs.Trims.{still_good, trimmed-same}
use Rattle.net_trips.proofs.Cleans.{from_typed, from_clean, none_typed, none_clean}

-- what an accepted sheet passed
pub accepted : (s : List ℕ) → (net_read s).answer ≡ 0 → AllGood (sheet_checks s)
unfolding net_read
accepted s e = good-all 1 (sheet_checks s) (lit< tt) (lit≤ tt, (lit≤ tt, rising (net_of s))) e

pub net_is : (s : List ℕ) → (net_read s).answer ≡ 0 → (net_read s).net ≡ net_of s
unfolding net_read
net_is s e = rw (eq-eqb (sheet_verdict s).answer 0 e)

pub read_is_accepted : ReadIsAccepted
read_is_accepted s e = rw (net_is s e) (accepted s e).1.1

pub write_after_read : WriteAfterRead
write_after_read s old b e room =
    let g = accepted s e in
    let long = leb-true 16 (length s) (whole-good _ g.0) in
    let same = image_of s b long (whole-good (net_trailer_good s) g.1.0) (net-within (net_of s) g.1.1) in
    let w = wrote-done (net_of s) old (write_done (net_of s) (length old) g.1.1 (rw same room)) in
    rw (net_is s e) (w.0 ∙ rw same, w.1 ∙ rw same (patch-front old s))

pub read_after_write : ReadAfterWrite
read_after_write n ty e =
    let g = net_good n e in
    let w = net-within n g in
    let fits : n.labels ≤ length n.label = omega (arith, ty.label.long, w.labels) in
    let s : List ℕ = net_image n in
    let is = net_of_image n ty w in
    let long : 16 ≤ length s = omega (arith, long_is n ty w) in
    let all : AllGood (sheet_checks s) = (ap whole (le-leb 16 (length s) long), (ap whole (trailer-good n ty w), rw is (still_good n w fits g))) in
    read_done s done (all-good (sheet_checks s) all) refl ∙ rw is

pub read_after_write_clean : ReadAfterWriteClean
read_after_write_clean n ty c e =
    let w = net-within n (net_good n e) in
    read_after_write n ty e ∙ rw (trimmed-same n w ty c)

clean_on : (s : List ℕ) → Bytes s → (t : Bool) → eqb (sheet_verdict s).answer 0 ≡ t → Typed (cond t (net_of s) no_net) × Clean (cond t (net_of s) no_net)
unfolding net_read
clean_on s b true e =
    let g = accepted s (eqb-true (sheet_verdict s).answer 0 e) in
    (from_typed s b _ _ _ (net-within (net_of s) g.1.1), from_clean s b _ _ _)
clean_on s b false e = (none_typed, none_clean)

pub read_is_clean : ReadIsClean
unfolding net_read
read_is_clean s b = clean_on s b (eqb (sheet_verdict s).answer 0) refl
