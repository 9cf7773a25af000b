-- The image of a netlist, read again: each number is found where the layout puts it, so the sheet's netlist is the netlist.
use mathlib.Core.Path.{◌≡◌, refl, ◌∙◌, ap}
use mathlib.Core.Bool.{true}
use mathlib.Core.List.{List}
use Prim.Native.Nat.{ℕ, ◌+◌, ◌*◌, ◌/◌, ◌%◌, ◌<◌, ◌≤◌}
use native.Mathlib.Omega.{arith}
use borrow.Author.Tests.{eq-eqb}
use lib.Dec.{lit<}
use lib.ListN.{length, get_or, replicate}
use lib.Seq.{get_or-take}
use Rattle.base.specs.Bytes.{two_at, le2}
use Rattle.base.proofs.Bytes.{two-le2, four-le4}
use Rattle.base.proofs.Fill.{fill-same}
use Rattle.base.proofs.Flat.{flat_at}
use Rattle.base.proofs.Tests.{and_true}
use Rattle.layout.specs.Trailer.{front_bytes, middle_bytes, label_bytes}
use Rattle.layout.proofs.Sheets.{ReadsBack, reads_back}
use Rattle.netlist.specs.declared.Netlist.{Netlist}
use Rattle.netlist.specs.Netlists.{record_of, output_of, labels_of}
use Rattle.netlist.proofs.Numbers.{Within}
use Rattle.net_sheet.specs.Image.{record_bytes, record_section, output_section, net_letter, net_image}
use Rattle.net_sheet.specs.Reading.{record_at, net_from, net_of, net_trailer_good}
use Rattle.net_sheet.proofs.Images.{records-length, outputs-length, labels_length, image-length}
use Rattle.net_trips.specs.Typed.{Typed}
use Rattle.net_trips.specs.Trips.{trimmed}

module _ (n : Netlist) (ty : Typed n) (w : Within n) where
  fits : n.labels ≤ length n.label
  fits = omega (arith, ty.label.long, w.labels)

  -- four bytes hold the distances
  few : n.nodes * 12 + (n.outputs * 2 + n.labels) < 4294967296
  few = omega (arith, w.nodes, w.outputs, w.labels)

  pub long_is : length (net_image n) ≡ n.nodes * 12 + n.outputs * 2 + n.labels + 16
  long_is = image-length n fits

  back : ReadsBack (record_section n) (output_section n) (labels_of n) (n.nodes * 12) (n.outputs * 2) n.labels net_letter (net_image n)
  unfolding net_image
  back = reads_back (record_section n) (output_section n) (labels_of n) (n.nodes * 12) (n.outputs * 2) n.labels net_letter (records-length n) (outputs-length n) (labels_length n fits) few

  labels_at : (j : ℕ) → j < n.labels → get_or (net_image n) (n.nodes * 12 + n.outputs * 2 + j) 0 ≡ get_or n.label j 0
  labels_at j h = back.labels_at j h ∙ get_or-take n.labels n.label j 0 h

  outputs_at : (j m : ℕ) → j < n.outputs → m < 2 → get_or (net_image n) (n.nodes * 12 + (j * 2 + m)) 0 ≡ get_or (le2 (output_of n j)) m 0
  outputs_at j m h l =
      back.middle_at (j * 2 + m) (omega arith)
      ∙ flat_at (λ i. le2 (output_of n i)) 2 (λ i. refl) n.outputs j m h l

  records_at : (i m : ℕ) → i < n.nodes → m < 12 → get_or (net_image n) (i * 12 + m) 0 ≡ get_or (record_bytes (record_of n i)) m 0
  records_at i m h l =
      back.front_at (i * 12 + m) (omega arith)
      ∙ flat_at (λ j. record_bytes (record_of n j)) 12 (λ j. refl) n.nodes i m h l

  -- the numbers, from their bytes
  pub record_read : (i : ℕ) → i < n.nodes → record_at (net_image n) i ≡ record_of n i
  record_read i h =
      let s : List ℕ = net_image n in
      let z : i * 12 ≡ i * 12 + 0 = omega arith in
      let e3 : i * 12 + 2 + 1 ≡ i * 12 + 3 = omega arith in
      let e5 : i * 12 + 4 + 1 ≡ i * 12 + 5 = omega arith in
      let e7 : i * 12 + 6 + 1 ≡ i * 12 + 7 = omega arith in
      let e9 : i * 12 + 8 + 1 ≡ i * 12 + 9 = omega arith in
      let e10 : i * 12 + 8 + 2 ≡ i * 12 + 10 = omega arith in
      let e11 : i * 12 + 8 + 3 ≡ i * 12 + 11 = omega arith in
      let x0 : get_or s (i * 12) 0 ≡ get_or n.code i 0 = ap (λ k. get_or s k 0) z ∙ records_at i 0 h (lit< tt) in
      rw (
        e3,
        e5,
        e7,
        e9,
        e10,
        e11,
        x0,
        records_at i 1 h (lit< tt),
        records_at i 2 h (lit< tt),
        records_at i 3 h (lit< tt),
        records_at i 4 h (lit< tt),
        records_at i 5 h (lit< tt),
        records_at i 6 h (lit< tt),
        records_at i 7 h (lit< tt),
        records_at i 8 h (lit< tt),
        records_at i 9 h (lit< tt),
        records_at i 10 h (lit< tt),
        records_at i 11 h (lit< tt),
        two-le2 (get_or n.a i 0) (ty.a.each i),
        two-le2 (get_or n.b i 0) (ty.b.each i),
        two-le2 (get_or n.c i 0) (ty.c.each i),
        four-le4 (get_or n.k i 0) (ty.k.each i),
      )

  pub output-read : (j : ℕ) → j < n.outputs → two_at (net_image n) (n.nodes * 12 + j * 2) ≡ output_of n j
  output-read j h =
      let e0 : n.nodes * 12 + j * 2 ≡ n.nodes * 12 + (j * 2 + 0) = omega arith in
      let e1 : n.nodes * 12 + (j * 2 + 0) + 1 ≡ n.nodes * 12 + (j * 2 + 1) = omega arith in
      rw (e0, e1, outputs_at j 0 h (lit< tt), outputs_at j 1 h (lit< tt)) (two-le2 (output_of n j) (ty.output.each j))

  -- the trailer as the reader finds it
  abbrev s : List ℕ
  s = net_image n

  pub trailer-good : net_trailer_good s ≡ true
  trailer-good =
      and_true _ _
      (and_true _ _ back.good (eq-eqb (middle_bytes s % 2) 0 (ap (λ k. k % 2) back.middle_is ∙ omega arith)))
      (eq-eqb (front_bytes s % 12) 0 (ap (λ k. k % 12) back.front_is ∙ omega arith))

  -- the netlist of the image
  same_sections : net_of s ≡ net_from s (n.nodes * 12) (n.outputs * 2) n.labels
  same_sections =
      ap (λ k. net_from s k (middle_bytes s) (label_bytes s)) back.front_is
      ∙ ap (λ k. net_from s (n.nodes * 12) k (label_bytes s)) back.middle_is
      ∙ ap (λ k. net_from s (n.nodes * 12) (n.outputs * 2) k) back.labels_is

  pub net_of_image : net_of s ≡ trimmed n
  unfolding net_from trimmed
  net_of_image =
      let e : n.nodes * 12 / 12 ≡ n.nodes = omega arith in
      let f : n.outputs * 2 / 2 ≡ n.outputs = omega arith in
      let z : List ℕ = replicate 1024 0 in
      let r = record_read in
      same_sections
      ∙ rw (
        e,
        f,
        fill-same (λ i. (record_at s i).code) (λ i. get_or n.code i 0) n.nodes z (λ i h. ap (λ x. x.code) (r i h)),
        fill-same (λ i. (record_at s i).width) (λ i. get_or n.width i 0) n.nodes z (λ i h. ap (λ x. x.width) (r i h)),
        fill-same (λ i. (record_at s i).a) (λ i. get_or n.a i 0) n.nodes z (λ i h. ap (λ x. x.a) (r i h)),
        fill-same (λ i. (record_at s i).b) (λ i. get_or n.b i 0) n.nodes z (λ i h. ap (λ x. x.b) (r i h)),
        fill-same (λ i. (record_at s i).c) (λ i. get_or n.c i 0) n.nodes z (λ i h. ap (λ x. x.c) (r i h)),
        fill-same (λ i. (record_at s i).k) (λ i. get_or n.k i 0) n.nodes z (λ i h. ap (λ x. x.k) (r i h)),
        fill-same (λ j. two_at s (n.nodes * 12 + j * 2)) (λ j. get_or n.output j 0) n.outputs (replicate 64 0) output-read,
        fill-same (λ j. get_or s (n.nodes * 12 + n.outputs * 2 + j) 0) (λ j. get_or n.label j 0) n.labels (replicate 4096 0) labels_at,
      )
