-- The image of a cut, read again: each byte is found where the layout puts it, so the sheet's cut is the cut, and the cut's checks answer.
use mathlib.Core.Path.{◌≡◌, ◌∙◌, ap}
use mathlib.Core.Bool.{true}
use mathlib.Core.List.{List}
use Prim.Native.Nat.{ℕ, ◌+◌, ◌<◌}
use native.Mathlib.Omega.{arith}
use borrow.Author.Tests.{le-leb}
use lib.ListN.{length, get_or, replicate}
use lib.Seq.{get_or-take}
use Rattle.base.proofs.Fill.{fill-same}
use Rattle.base.proofs.Tests.{and_true}
use Rattle.layout.specs.Trailer.{middle_bytes, label_bytes}
use Rattle.layout.proofs.Sheets.{ReadsBack, reads_back}
use Rattle.netlist.specs.declared.Netlist.{Netlist}
use Rattle.cut.specs.declared.Cut.{Cut}
use Rattle.cut.specs.Cuts.{cut_labels}
use Rattle.cut.proofs.Within.{Within}
use Rattle.cut_sheet.specs.Image.{cut_letter, cut_image}
use Rattle.cut_sheet.specs.Reading.{cut_from, cut_of, frame_good, cut_read}
use Rattle.cut_sheet.proofs.Images.{part_section, depth_section, Long, parts-length, depths-length, labels_length, image-length}
use Rattle.cut_sheet.proofs.Frames.{cut_answers}
use Rattle.cut_trips.specs.Typed.{Typed}
use Rattle.cut_trips.specs.Trips.{trimmed, read_of}

-- a sheet whose frame is good: the cut's checks answer
pub read_by_cut : (n : Netlist) (s : List ℕ) → frame_good s ≡ true → cut_read n s ≡ read_of n (cut_of s)
unfolding cut_read read_of
read_by_cut n s g = rw (cut_answers n s g)

module _ (n : Netlist) (c : Cut) (ty : Typed c) (w : Within n c) where
  pub long : Long c
  long =
      record {
        part = omega (arith, ty.part.long, w.nodes);
        depth = omega (arith, ty.depth.long, w.queues);
        label = omega (arith, ty.label.long, w.labels);
      }

  -- four bytes hold the distances
  few : c.nodes + (c.queues + c.labels) < 4294967296
  few = omega (arith, w.nodes, w.queues, w.labels)

  back : ReadsBack (part_section c) (depth_section c) (cut_labels c) c.nodes c.queues c.labels cut_letter (cut_image c)
  unfolding cut_image
  back = reads_back (part_section c) (depth_section c) (cut_labels c) c.nodes c.queues c.labels cut_letter (parts-length c long) (depths-length c long) (labels_length c long) few

  abbrev s : List ℕ
  s = cut_image c

  pub frame-good : frame_good s ≡ true
  frame-good =
      and_true _ _
      (and_true _ _ (le-leb 16 (length s) (omega (arith, image-length c long))) back.good)
      (le-leb (label_bytes s) 4096 (rw back.labels_is w.labels))

  -- the cut of the image
  same_sections : cut_of s ≡ cut_from s c.nodes c.queues c.labels
  same_sections =
      ap (λ k. cut_from s k (middle_bytes s) (label_bytes s)) back.front_is
      ∙ ap (λ k. cut_from s c.nodes k (label_bytes s)) back.middle_is
      ∙ ap (λ k. cut_from s c.nodes c.queues k) back.labels_is

  pub cut_of_image : cut_of s ≡ trimmed c
  unfolding cut_from trimmed
  cut_of_image =
      same_sections
      ∙ rw (
        fill-same (λ i. get_or s i 0) (λ i. get_or c.part i 0) c.nodes (replicate 1024 0) (λ i h. back.front_at i h ∙ get_or-take c.nodes c.part i 0 h),
        fill-same (λ q. get_or s (c.nodes + q) 0) (λ q. get_or c.depth q 0) c.queues (replicate 512 0) (λ q h. back.middle_at q h ∙ get_or-take c.queues c.depth q 0 h),
        fill-same (λ j. get_or s (c.nodes + c.queues + j) 0) (λ j. get_or c.label j 0) c.labels (replicate 4096 0) (λ j h. back.labels_at j h ∙ get_or-take c.labels c.label j 0 h),
      )

  pub image-read : cut_read n s ≡ read_of n (trimmed c)
  image-read = read_by_cut n s frame-good ∙ ap (λ x. read_of n x) cut_of_image
