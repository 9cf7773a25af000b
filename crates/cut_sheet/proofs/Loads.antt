-- The arrays that were loaded, together the cut of the sheet.
use mathlib.Core.Path.{◌≡◌, ◌∙◌, ap, ap₂}
use mathlib.Core.List.{List}
use Prim.Native.Nat.{ℕ, ◌+◌, ◌≤◌}
use native.Mathlib.Nat.{zero-add}
use native.Mathlib.Omega.{arith}
use lib.ListN.{length, get_or, take, drop, replicate}
use Rattle.base.specs.Lists.{fill}
use Rattle.base.proofs.Fill.{fill-same}
use Rattle.layout.proofs.Loads.{stretch_loaded}
use Rattle.cut.specs.declared.Cut.{Cut}
use Rattle.cut.specs.Cuts.{no_cut}
use Rattle.cut_sheet.specs.Reading.{cut_from}

pub cut_from_is : (s : List ℕ) (front middle labels m k : ℕ) (z : Cut) (part depth label : List ℕ)
    → front + (middle + labels) ≤ length s
    → m ≡ middle
    → k ≡ labels
    → z ≡ no_cut
    → part ≡ fill (λ j. get_or (take front s) j 0) (length (take front s)) z.part
    → depth ≡ fill (λ j. get_or (take m (drop front s)) j 0) (length (take m (drop front s))) z.depth
    → label ≡ fill (λ j. get_or (take k (drop (front + middle) s)) j 0) (length (take k (drop (front + middle) s))) z.label
    → ◌≡◌ {A = Cut}
    (record {
      nodes = front;
      part = part;
      queues = middle;
      depth = depth;
      labels = labels;
      label = label;
    })
    (cut_from s front middle labels)
unfolding cut_from no_cut
cut_from_is s front middle labels m k z part depth label h hm hk e p d l =
    let first : part ≡ fill (λ i. get_or s i 0) front (replicate 1024 0) =
    p ∙ stretch_loaded s 0 front z.part (omega arith) ∙ fill-same (λ i. get_or s (0 + i) 0) (λ i. get_or s i 0) front z.part (λ i b. ap (λ k. get_or s k 0) (zero-add i)) ∙ ap (λ x. fill (λ i. get_or s i 0) front x.part) e in
    let second : depth ≡ fill (λ q. get_or s (front + q) 0) middle (replicate 512 0) =
    d ∙ stretch_loaded s front m z.depth (omega arith) ∙ ap₂ (λ n x. fill (λ q. get_or s (front + q) 0) n x.depth) hm e in
    let third : label ≡ fill (λ j. get_or s (front + middle + j) 0) labels (replicate 4096 0) =
    l ∙ stretch_loaded s (front + middle) k z.label (omega arith) ∙ ap₂ (λ n x. fill (λ j. get_or s (front + middle + j) 0) n x.label) hk e in
    rw (first, second, third)
