-- What a sheet that its reader accepts has passed, of its labels: a good trailer, and good entries in the section that the labels were loaded from.
use mathlib.Core.Path.{◌≡◌}
use mathlib.Core.Bool.{Bool, true, ◌&&◌}
use mathlib.Core.List.{List}
use Prim.Native.Nat.{ℕ, ◌+◌, ◌%◌, ◌≤◌}
use native.Mathlib.Omega.{arith}
use borrow.Author.Tests.{leb-true, eq-eqb}
use lib.Dec.{leb, eqb, lit<, lit≤}
use lib.ListN.{length, take, drop, replicate}
use Rattle.std.specs.Prelude.{None}
use Rattle.base.specs.Checks.{AllGood}
use Rattle.base.proofs.Tests.{and_left, and_right}
use Rattle.base.proofs.Verdicts.{good-all, whole-good}
use Rattle.base.proofs.Windows.{fill-window}
use Rattle.layout.specs.Labels.{label_check}
use Rattle.layout.specs.Trailer.{trailer_good, front_bytes, middle_bytes, label_bytes, sections_of}
use Rattle.layout.proofs.Found.{fills}
use Rattle.netlist.specs.declared.Netlist.{Netlist}
use Rattle.netlist.specs.Netlists.{labels_of}
use Rattle.net_sheet.specs.Image.{net_letter}
use Rattle.net_sheet.specs.Reading.{net_from, net_of, net_trailer_good, sheet_checks, sheet_verdict, net_read}
use Rattle.net_sheet.proofs.Verdicts.{rising, net-within}
use Rattle.cut.specs.Cuts.{cut_labels}
use Rattle.cut.specs.Checks.{labels_few}
use Rattle.cut_sheet.specs.Image.{cut_letter}
use Rattle.cut_sheet.specs.Reading.{cut_from, frame_good, read_checks, cut_read}
use Rattle.labels.specs.Spots.{labels_at, label_section}
use Rattle.labels.proofs.Sections.{sections_good}

pub record Labelled (letter nodes : ℕ) (s : List ℕ) : Type 0 where
  pub good : (sections_of letter s).good ≡ true
  pub entries : label_check nodes (label_section s) ≡ None

-- the sections and the trailer fill the sheet
room : (letter : ℕ) (s : List ℕ) → 16 ≤ length s → trailer_good letter s ≡ true → labels_at s + label_bytes s ≤ length s
room letter s h g = omega (arith, fills letter s g)

-- what was loaded is the section
net_loaded : (s : List ℕ) (F M L : ℕ) → F + M + L ≤ length s → L ≤ 4096 → labels_of (net_from s F M L) ≡ take L (drop (F + M) s)
unfolding net_from
net_loaded s F M L h few = fill-window s (replicate 4096 0) (F + M) L h few

cut_loaded : (s : List ℕ) (F M L : ℕ) → F + M + L ≤ length s → L ≤ 4096 → cut_labels (cut_from s F M L) ≡ take L (drop (F + M) s)
unfolding cut_from
cut_loaded s F M L h few = fill-window s (replicate 4096 0) (F + M) L h few

-- the rules that both sheets share
shared : (s : List ℕ) → net_trailer_good s ≡ true → trailer_good net_letter s ≡ true
shared s g = and_left (trailer_good net_letter s) (eqb (middle_bytes s % 2) 0) (and_left (trailer_good net_letter s && eqb (middle_bytes s % 2) 0) (eqb (front_bytes s % 12) 0) g)

net-passed : (s : List ℕ) → AllGood (sheet_checks s) → Labelled net_letter (net_of s).nodes s
unfolding net_from
net-passed s g =
    let long : 16 ≤ length s = leb-true 16 (length s) (whole-good _ g.0) in
    let t : trailer_good net_letter s ≡ true = shared s (whole-good (net_trailer_good s) g.1.0) in
    let few : label_bytes s ≤ 4096 = (net-within (net_of s) g.1.1).labels in
    record {
      good = sections_good net_letter s long t;
      entries = rw (← net_loaded s (front_bytes s) (middle_bytes s) (label_bytes s) (room net_letter s long t) few) g.1.1.1.1.1.0;
    }

pub net_labelled : (s : List ℕ) → (net_read s).answer ≡ 0 → Labelled net_letter (net_read s).net.nodes s
unfolding net_read
net_labelled s e = rw (eq-eqb (sheet_verdict s).answer 0 e) (net-passed s (good-all 1 (sheet_checks s) (lit< tt) (lit≤ tt, (lit≤ tt, rising (net_of s))) e))

cut_passed : (n : Netlist) (s : List ℕ) → AllGood (read_checks n s) → Labelled cut_letter n.nodes s
cut_passed n s g =
    let x : Bool = leb 16 (length s) in
    let y : Bool = trailer_good cut_letter s in
    let z : Bool = labels_few (label_bytes s) in
    let f : (x && y && z) ≡ true = whole-good (frame_good s) g.1.0 in
    let long : 16 ≤ length s = leb-true 16 (length s) (and_left x y (and_left (x && y) z f)) in
    let t : trailer_good cut_letter s ≡ true = and_right x y (and_left (x && y) z f) in
    let few : label_bytes s ≤ 4096 = leb-true (label_bytes s) 4096 (and_right (x && y) z f) in
    record {
      good = sections_good cut_letter s long t;
      entries = rw (← cut_loaded s (front_bytes s) (middle_bytes s) (label_bytes s) (room cut_letter s long t) few) g.1.1.1.1.1.0;
    }

pub cut_labelled : (n : Netlist) (s : List ℕ) → (cut_read n s).answer ≡ 0 → Labelled cut_letter n.nodes s
unfolding cut_read
cut_labelled n s e = cut_passed n s (good-all 3 (read_checks n s) (lit< tt) (lit≤ tt, (lit≤ tt, (lit≤ tt, (lit≤ tt, (lit≤ tt, (lit≤ tt, tt)))))) e)
