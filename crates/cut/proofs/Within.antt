-- What a cut that passed its checks keeps to: the counts within their numbers, one part number for each node. And the checks stand in the order of their numbers.
use mathlib.Core.Path.{◌≡◌}
use mathlib.Core.Bool.{true, ◌&&◌}
use Prim.Native.Nat.{ℕ, ◌<◌, ◌≤◌}
use borrow.Author.Tests.{leb-true, eqb-true}
use lib.Dec.{eqb, leb, lit≤}
use lib.ListN.{length}
use Rattle.base.specs.Checks.{whole, AllGood, Rising}
use Rattle.base.proofs.Tests.{and_left, and_right}
use Rattle.base.proofs.Verdicts.{whole-good}
use Rattle.netlist.specs.declared.Netlist.{Netlist}
use Rattle.netlist.specs.Checks.{numbers_good}
use Rattle.netlist.proofs.Numbers.{within}
use Rattle.cut.specs.declared.Cut.{Cut}
use Rattle.cut.specs.Checks.{labels_few, cut_queues, part_checks, cut_checks}
use Rattle.cut.proofs.Answers.{both-good}

pub record Within (n : Netlist) (c : Cut) : Type 0 where
  pub same : c.nodes ≡ n.nodes
  pub nodes : c.nodes ≤ 1024
  pub some : 0 < c.nodes
  pub queues : c.queues ≤ 512
  pub labels : c.labels ≤ 4096
  pub counted : c.queues ≡ length (cut_queues n c)

pub cut_within : (n : Netlist) (c : Cut) → AllGood (cut_checks n c) → Within n c
cut_within n c g =
    let w = within n (whole-good (numbers_good n) g.0) in
    let qs : ℕ = length (cut_queues n c) in
    let e : c.nodes ≡ n.nodes = eqb-true c.nodes n.nodes (whole-good _ (both-good (whole (eqb c.nodes n.nodes)) _ g.1.1.0).0) in
    let d : (leb qs 512 && eqb c.queues qs) ≡ true = whole-good _ (both-good (whole (leb qs 512 && eqb c.queues qs)) _ g.1.1.1.0).0 in
    record {
      same = e;
      nodes = rw e w.nodes;
      some = rw e w.some;
      queues = rw (eqb-true c.queues qs (and_right (leb qs 512) (eqb c.queues qs) d)) (leb-true qs 512 (and_left (leb qs 512) (eqb c.queues qs) d));
      labels = leb-true c.labels 4096 (whole-good (labels_few c.labels) g.1.0);
      counted = eqb-true c.queues qs (and_right (leb qs 512) (eqb c.queues qs) d);
    }

pub rising-parts : (n : Netlist) (c : Cut) → Rising 8 (part_checks n c)
rising-parts n c = (lit≤ tt, (lit≤ tt, (lit≤ tt, (lit≤ tt, tt))))

pub rising : (n : Netlist) (c : Cut) → Rising 3 (cut_checks n c)
rising n c = (lit≤ tt, (lit≤ tt, rising-parts n c))
