-- What the reader gives has values of its types, and zeros past its counts.
use mathlib.Core.List.{List}
use Prim.Native.Nat.{ℕ, ◌+◌}
use lib.Dec.{lit<}
use lib.ListN.{get_or}
use Rattle.base.specs.Arrays.{Bytes}
use Rattle.base.proofs.Arrays.{fill_zeros, fill_typed, zeros_typed, zeros_clean}
use Rattle.netlist.specs.declared.Netlist.{Netlist}
use Rattle.cut.specs.Cuts.{no_cut}
use Rattle.cut.proofs.Within.{Within}
use Rattle.cut_sheet.specs.Reading.{cut_from}
use Rattle.cut_trips.specs.Typed.{Typed}
use Rattle.cut_trips.specs.Trips.{Clean}

module _ (n : Netlist) (s : List ℕ) (b : Bytes s) (F M L : ℕ) where
  pub from_typed : Within n (cut_from s F M L) → Typed (cut_from s F M L)
  unfolding cut_from
  from_typed w =
      record {
        part = fill_typed (λ i. get_or s i 0) 1024 F 256 w.nodes (lit< tt) (λ i. b i);
        depth = fill_typed (λ q. get_or s (F + q) 0) 512 M 256 w.queues (lit< tt) (λ q. b (F + q));
        label = fill_typed (λ j. get_or s (F + M + j) 0) 4096 L 256 w.labels (lit< tt) (λ j. b (F + M + j));
      }

  pub from_clean : Clean (cut_from s F M L)
  unfolding cut_from
  from_clean =
      record {
        part = fill_zeros (λ i. get_or s i 0) 1024 F;
        depth = fill_zeros (λ q. get_or s (F + q) 0) 512 M;
        label = fill_zeros (λ j. get_or s (F + M + j) 0) 4096 L;
      }

-- the cut of zeros
pub none_typed : Typed no_cut
unfolding no_cut
none_typed =
    record {
      part = zeros_typed 1024 256 (lit< tt);
      depth = zeros_typed 512 256 (lit< tt);
      label = zeros_typed 4096 256 (lit< tt);
    }

pub none_clean : Clean no_cut
unfolding no_cut
none_clean =
    record {
      part = zeros_clean 1024;
      depth = zeros_clean 512;
      label = zeros_clean 4096;
    }
