-- What the reader gives has values of its types, and zeros past its counts.
use mathlib.Core.List.{List}
use Prim.Native.Nat.{ℕ, ◌+◌, ◌*◌, ◌/◌}
use lib.Dec.{lit<}
use lib.ListN.{get_or}
use Rattle.base.specs.Arrays.{Bytes}
use Rattle.base.specs.Bytes.{two_at}
use Rattle.base.proofs.Arrays.{fill_zeros, fill_typed, zeros_typed, zeros_clean}
use Rattle.base.proofs.Bytes.{two-below, four_below}
use Rattle.netlist.specs.Netlists.{no_net}
use Rattle.netlist.proofs.Numbers.{Within}
use Rattle.net_sheet.specs.Reading.{record_at, net_from}
use Rattle.net_trips.specs.Typed.{Typed}
use Rattle.net_trips.specs.Trips.{Clean}

module _ (s : List ℕ) (b : Bytes s) (F M L : ℕ) where
  pub from_typed : Within (net_from s F M L) → Typed (net_from s F M L)
  unfolding net_from
  from_typed w =
      record {
        code = fill_typed (λ i. (record_at s i).code) 1024 (F / 12) 256 w.nodes (lit< tt) (λ i. b (i * 12));
        width = fill_typed (λ i. (record_at s i).width) 1024 (F / 12) 256 w.nodes (lit< tt) (λ i. b (i * 12 + 1));
        a = fill_typed (λ i. (record_at s i).a) 1024 (F / 12) 65536 w.nodes (lit< tt) (λ i. two-below _ _ (b (i * 12 + 2)) (b (i * 12 + 2 + 1)));
        b = fill_typed (λ i. (record_at s i).b) 1024 (F / 12) 65536 w.nodes (lit< tt) (λ i. two-below _ _ (b (i * 12 + 4)) (b (i * 12 + 4 + 1)));
        c = fill_typed (λ i. (record_at s i).c) 1024 (F / 12) 65536 w.nodes (lit< tt) (λ i. two-below _ _ (b (i * 12 + 6)) (b (i * 12 + 6 + 1)));
        k = fill_typed (λ i. (record_at s i).k) 1024 (F / 12) 4294967296 w.nodes (lit< tt) (λ i. four_below _ _ _ _ (b (i * 12 + 8)) (b (i * 12 + 8 + 1)) (b (i * 12 + 8 + 2)) (b (i * 12 + 8 + 3)));
        output = fill_typed (λ j. two_at s (F + j * 2)) 64 (M / 2) 65536 w.outputs (lit< tt) (λ j. two-below _ _ (b (F + j * 2)) (b (F + j * 2 + 1)));
        label = fill_typed (λ j. get_or s (F + M + j) 0) 4096 L 256 w.labels (lit< tt) (λ j. b (F + M + j));
      }

  pub from_clean : Clean (net_from s F M L)
  unfolding net_from
  from_clean =
      record {
        code = fill_zeros (λ i. (record_at s i).code) 1024 (F / 12);
        width = fill_zeros (λ i. (record_at s i).width) 1024 (F / 12);
        a = fill_zeros (λ i. (record_at s i).a) 1024 (F / 12);
        b = fill_zeros (λ i. (record_at s i).b) 1024 (F / 12);
        c = fill_zeros (λ i. (record_at s i).c) 1024 (F / 12);
        k = fill_zeros (λ i. (record_at s i).k) 1024 (F / 12);
        output = fill_zeros (λ j. two_at s (F + j * 2)) 64 (M / 2);
        label = fill_zeros (λ j. get_or s (F + M + j) 0) 4096 L;
      }

-- the netlist of zeros
pub none_typed : Typed no_net
unfolding no_net
none_typed =
    record {
      code = zeros_typed 1024 256 (lit< tt);
      width = zeros_typed 1024 256 (lit< tt);
      a = zeros_typed 1024 65536 (lit< tt);
      b = zeros_typed 1024 65536 (lit< tt);
      c = zeros_typed 1024 65536 (lit< tt);
      k = zeros_typed 1024 4294967296 (lit< tt);
      output = zeros_typed 64 65536 (lit< tt);
      label = zeros_typed 4096 256 (lit< tt);
    }

pub none_clean : Clean no_net
unfolding no_net
none_clean =
    record {
      code = zeros_clean 1024;
      width = zeros_clean 1024;
      a = zeros_clean 1024;
      b = zeros_clean 1024;
      c = zeros_clean 1024;
      k = zeros_clean 1024;
      output = zeros_clean 64;
      label = zeros_clean 4096;
    }
