-- A sheet that the reader accepts is the image of its cut: each list holds its stretch of the sheet.
use mathlib.Core.Path.{◌≡◌, ◌∙◌, ap}
use mathlib.Core.Bool.{true}
use mathlib.Core.List.{List, ◌++◌}
use Prim.Native.Nat.{ℕ, ◌+◌, ◌≤◌}
use native.Mathlib.Omega.{arith}
use lib.ListN.{length, get_or, take, drop, replicate}
use Rattle.base.specs.Arrays.{Bytes}
use Rattle.base.proofs.Fill.{fill-same}
use Rattle.base.proofs.Windows.{fill-window}
use Rattle.layout.specs.Trailer.{trailer_good, front_bytes, middle_bytes, label_bytes, trailer_bytes}
use Rattle.layout.proofs.Stretches.{stretches, stretches-fill}
use Rattle.netlist.specs.declared.Netlist.{Netlist}
use Rattle.cut.specs.Cuts.{cut_labels}
use Rattle.cut.proofs.Within.{Within}
use Rattle.cut_sheet.specs.Image.{cut_letter, cut_image}
use Rattle.cut_sheet.specs.Reading.{cut_from, cut_of}
use Rattle.cut_sheet.proofs.Images.{part_section, depth_section}

-- Sections of F, M and L bytes, and a trailer behind them.
module _ (s : List ℕ) (F M L : ℕ) (sum : F + M + L + 16 ≡ length s) (few : F ≤ 1024) (few-queues : M ≤ 512) (few-labels : L ≤ 4096) where
  parts_same : part_section (cut_from s F M L) ≡ take F s
  unfolding cut_from
  parts_same =
      ap (λ xs. take F xs) (fill-same (λ i. get_or s i 0) (λ i. get_or s (0 + i) 0) F (replicate 1024 0) (λ i h. ap (λ k. get_or s k 0) (omega arith)))
      ∙ fill-window s (replicate 1024 0) 0 F (omega arith) few

  depths-same : depth_section (cut_from s F M L) ≡ take M (drop F s)
  unfolding cut_from
  depths-same = fill-window s (replicate 512 0) F M (omega arith) few-queues

  labels-same : cut_labels (cut_from s F M L) ≡ take L (drop (F + M) s)
  unfolding cut_from
  labels-same = fill-window s (replicate 4096 0) (F + M) L (omega arith) few-labels

  -- the whole sheet
  image-same : take F s ++ take M (drop F s) ++ take L (drop (F + M) s) ++ trailer_bytes F M L cut_letter ≡ s → cut_image (cut_from s F M L) ≡ s
  unfolding cut_image cut_from
  image-same all =
      ap (λ l. l ++ depth_section (cut_from s F M L) ++ cut_labels (cut_from s F M L) ++ trailer_bytes F M L cut_letter) parts_same
      ∙ ap (λ l. take F s ++ l ++ cut_labels (cut_from s F M L) ++ trailer_bytes F M L cut_letter) depths-same
      ∙ ap (λ l. take F s ++ take M (drop F s) ++ l ++ trailer_bytes F M L cut_letter) labels-same
      ∙ all

pub image_of : (n : Netlist) (s : List ℕ) → Bytes s → 16 ≤ length s → trailer_good cut_letter s ≡ true → Within n (cut_of s) → cut_image (cut_of s) ≡ s
unfolding cut_from
image_of n s b long g w =
    image-same s (front_bytes s) (middle_bytes s) (label_bytes s) (stretches-fill cut_letter s long g) w.nodes w.queues w.labels (stretches cut_letter s long g b)
