-- The sheet as the writer puts it: how long it is, and that its sections put one behind the other are the image.
use mathlib.Core.Path.{◌≡◌}
use mathlib.Core.List.{List}
use Prim.Native.Nat.{ℕ, ◌+◌, ◌≤◌}
use lib.ListN.{length, take}
use lib.Seq.{length-take-le}
use Rattle.base.specs.Lists.{patch}
use Rattle.layout.specs.Trailer.{trailer_bytes}
use Rattle.layout.specs.Write.{placed}
use Rattle.layout.proofs.Sheets.{sheet-length, put-sheet}
use Rattle.cut.specs.declared.Cut.{Cut}
use Rattle.cut.specs.Cuts.{cut_labels}
use Rattle.cut_sheet.specs.Image.{cut_letter, cut_image}

-- the sections in front of the labels
abbrev pub part_section : Cut → List ℕ
part_section c = take c.nodes c.part

abbrev pub depth_section : Cut → List ℕ
depth_section c = take c.queues c.depth

-- no list is shorter than its count
pub record Long (c : Cut) : Type 0 where
  pub part : c.nodes ≤ length c.part
  pub depth : c.queues ≤ length c.depth
  pub label : c.labels ≤ length c.label

module _ (c : Cut) (l : Long c) where
  pub parts-length : length (part_section c) ≡ c.nodes
  parts-length = length-take-le c.nodes c.part l.part

  pub depths-length : length (depth_section c) ≡ c.queues
  depths-length = length-take-le c.queues c.depth l.depth

  pub labels_length : length (cut_labels c) ≡ c.labels
  labels_length = length-take-le c.labels c.label l.label

  -- the sheet, whose sections these are
  pub image-length : length (cut_image c) ≡ c.nodes + c.queues + c.labels + 16
  unfolding cut_image
  image-length = sheet-length (part_section c) (depth_section c) (cut_labels c) c.nodes c.queues c.labels cut_letter parts-length depths-length labels_length

  -- the four stretches, each put behind the one before
  pub put_all : (old one two three : List ℕ) → c.nodes + c.queues + c.labels + 16 ≤ length old
      → one ≡ patch old 0 (part_section c)
      → two ≡ patch one c.nodes (depth_section c)
      → three ≡ patch two (c.nodes + c.queues) (cut_labels c)
      → placed three (c.nodes + c.queues + c.labels) (trailer_bytes c.nodes c.queues c.labels cut_letter) ≡ patch old 0 (cut_image c)
  unfolding cut_image
  put_all old one two three room p q r =
      put-sheet (part_section c) (depth_section c) (cut_labels c) c.nodes c.queues c.labels cut_letter parts-length depths-length labels_length old one two three room p q r
