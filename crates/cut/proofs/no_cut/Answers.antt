-- `cut::no_cut` meets its contract. Each list of the default is one of zeros.
use Rattle.base.proofs.Arrays.{all_zeros}
use Rattle.cut.specs.Cuts.{no_cut}
use Rattle.cut.proofs.no_cut.Goals as goal

pub returns : goal.returns
unfolding no_cut
returns c =
    let e = c.default.ensures in
    λ j.
    record {
      nodes = e.0 j;
      part = all_zeros 1024 _ e.1.0 j;
      queues = e.1.1.0 j;
      depth = all_zeros 512 _ e.1.1.1.0 j;
      labels = e.1.1.1.1.0 j;
      label = all_zeros 4096 _ e.1.1.1.1.1 j;
    }
