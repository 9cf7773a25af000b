-- `netlist::no_net` meets its contract. Each list of the default is one of zeros.
use Rattle.base.proofs.Arrays.{all_zeros}
use Rattle.netlist.specs.Netlists.{no_net}
use Rattle.netlist.proofs.no_net.Goals as goal

pub returns : goal.returns
unfolding no_net
returns c =
    let e = c.default.ensures in
    λ j.
    record {
      nodes = e.0 j;
      code = all_zeros 1024 _ e.1.0 j;
      width = all_zeros 1024 _ e.1.1.0 j;
      a = all_zeros 1024 _ e.1.1.1.0 j;
      b = all_zeros 1024 _ e.1.1.1.1.0 j;
      c = all_zeros 1024 _ e.1.1.1.1.1.0 j;
      k = all_zeros 1024 _ e.1.1.1.1.1.1.0 j;
      outputs = e.1.1.1.1.1.1.1.0 j;
      output = all_zeros 64 _ e.1.1.1.1.1.1.1.1.0 j;
      labels = e.1.1.1.1.1.1.1.1.1.0 j;
      label = all_zeros 4096 _ e.1.1.1.1.1.1.1.1.1.1 j;
    }
