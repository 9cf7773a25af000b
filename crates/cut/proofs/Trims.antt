-- The checks look only at what stands below the counts: at the parts of nodes and of the nodes that outputs name, the depths of queues, the label bytes.
use mathlib.Core.Path.{◌≡◌, ◌∙◌, ap}
use mathlib.Core.Bool.{◌&&◌}
use mathlib.Core.List.{List}
use Prim.Native.Nat.{ℕ, ◌<◌}
use lib.Dec.{eqb, leb}
use lib.ListN.{length, get_or, take}
use Rattle.base.specs.Checks.{AllGood, whole}
use Rattle.base.proofs.First.{lowest-same}
use Rattle.layout.specs.Labels.{label_check}
use Rattle.netlist.specs.declared.Netlist.{Netlist}
use Rattle.queues.specs.Queues.{part_of, queues_of}
use Rattle.queues.proofs.Same.{SameParts, parts_same, queues-same}
use Rattle.cut.specs.declared.Cut.{Cut}
use Rattle.cut.specs.Cuts.{depth_of, cut_labels}
use Rattle.cut.specs.Checks.{and_then, depth_good, parts_check, depths_check, joined_check, cut_queues, cut_checks}
use Rattle.cut.proofs.Within.{cut_within}

-- the cut with other lists
abbrev pub with_lists : Cut → List ℕ → List ℕ → List ℕ → Cut
with_lists c part depth label =
    record {
      nodes = c.nodes;
      part = part;
      queues = c.queues;
      depth = depth;
      labels = c.labels;
      label = label;
    }

module _ (n : Netlist) (c : Cut) (part depth label : List ℕ) (s : SameParts n c.part part) where
  abbrev d : Cut
  d = with_lists c part depth label

  parts_check_lem : parts_check n d ≡ parts_check n c
  parts_check_lem =
      ap (λ k. and_then (whole (eqb c.nodes n.nodes)) k)
      (lowest-same (λ i. leb (part_of part i) 31) (λ i. leb (part_of c.part i) 31) n.nodes (λ i l. ap (λ x. leb x 31) (s.nodes i l)))

  depths_check_lem : c.queues ≡ length (cut_queues n c) → ((q : ℕ) → q < c.queues → get_or depth q 0 ≡ get_or c.depth q 0) → depths_check n d ≡ depths_check n c
  depths_check_lem k same =
      rw (queues-same n c.part part s)
      (ap (λ l. and_then (whole (leb (length (queues_of n c.part)) 512 && eqb c.queues (length (queues_of n c.part)))) l)
      (lowest-same (λ q. depth_good (get_or depth q 0)) (λ q. depth_good (depth_of c q)) (length (queues_of n c.part))
      (λ q l. ap depth_good (same q (rw k l)))))

  joined_check_lem : joined_check n d ≡ joined_check n c
  joined_check_lem = rw (queues-same n c.part part s, parts_same n c.part part s)

  pub still_good : ((q : ℕ) → q < c.queues → get_or depth q 0 ≡ get_or c.depth q 0) → take c.labels label ≡ cut_labels c → AllGood (cut_checks n c) → AllGood (cut_checks n d)
  still_good depths labels g =
      let k = (cut_within n c g).counted in (
        g.0,
        (
          g.1.0,
          (
            parts_check_lem ∙ g.1.1.0,
            (depths_check_lem k depths ∙ g.1.1.1.0, (joined_check_lem ∙ g.1.1.1.1.0, (ap (λ l. label_check n.nodes l) labels ∙ g.1.1.1.1.1.0, tt))),
          ),
        ),
      )
