-- Check 3 as bounds on the counts.
use mathlib.Core.Path.{◌≡◌}
use mathlib.Core.Bool.{true}
use Prim.Native.Nat.{◌≤◌}
use borrow.Author.Tests.{leb-true}
use lib.Dec.{leb}
use Rattle.base.proofs.Tests.{and_four}
use Rattle.netlist.specs.declared.Netlist.{Netlist}
use Rattle.netlist.specs.Checks.{numbers_good}

pub record Within (n : Netlist) : Type 0 where
  pub some : 1 ≤ n.nodes
  pub nodes : n.nodes ≤ 1024
  pub outputs : n.outputs ≤ 64
  pub labels : n.labels ≤ 4096

pub within : (n : Netlist) → numbers_good n ≡ true → Within n
within n e =
    let f = and_four (leb 1 n.nodes) (leb n.nodes 1024) (leb n.outputs 64) (leb n.labels 4096) e in
    record {
      some = leb-true 1 n.nodes f.0;
      nodes = leb-true n.nodes 1024 f.1;
      outputs = leb-true n.outputs 64 f.2;
      labels = leb-true n.labels 4096 f.3;
    }
