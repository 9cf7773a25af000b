-- What stands past a cut's counts does not matter for a netlist that passed its checks, whose outputs name nodes: the checks are good with zeros there, and the queues the same.
-- A cut with zeros there is its own.
use mathlib.Core.Path.{◌≡◌}
use Prim.Native.Nat.{ℕ, ◌<◌}
use borrow.Author.Tests.{ltb-true}
use lib.Dec.{ltb}
use lib.ListN.{get_or}
use Rattle.base.specs.Arrays.{cleared}
use Rattle.base.specs.Checks.{AllGood}
use Rattle.base.proofs.Arrays.{at_cleared, take-cleared, cleared-same}
use Rattle.base.proofs.First.{lowest-good}
use Rattle.netlist.specs.declared.Netlist.{Netlist}
use Rattle.netlist.specs.Netlists.{output_of}
use Rattle.netlist.specs.Checks.{net_checks}
use Rattle.queues.specs.Found.{found}
use Rattle.queues.proofs.Same.{SameParts, found-same}
use Rattle.cut.specs.declared.Cut.{Cut}
use Rattle.cut.specs.Checks.{cut_checks}
use Rattle.cut.proofs.Within.{Within}
use Rattle.cut.proofs.Trims.{still_good}
use Rattle.cut_sheet.proofs.Images.{Long}
use Rattle.cut_trips.specs.Typed.{Typed}
use Rattle.cut_trips.specs.Trips.{trimmed, Clean}

module _ (n : Netlist) (c : Cut) (g : AllGood (net_checks n)) (w : Within n c) where
  output-node : (j : ℕ) → j < n.outputs → output_of n j < n.nodes
  output-node j h = ltb-true (output_of n j) n.nodes (lowest-good (λ i. ltb (output_of n i) n.nodes) n.outputs g.1.1.0 j h)

  part_same : (i : ℕ) → i < n.nodes → get_or (cleared 1024 c.nodes c.part) i 0 ≡ get_or c.part i 0
  part_same i h = at_cleared 1024 c.nodes i c.part (rw w.same h) w.nodes

  parts : SameParts n c.part (cleared 1024 c.nodes c.part)
  parts =
      record {
        nodes = part_same;
        outputs = λ j h. part_same (output_of n j) (output-node j h);
      }

  pub trimmed-good : Long c → AllGood (cut_checks n c) → AllGood (cut_checks n (trimmed c))
  unfolding trimmed
  trimmed-good l good =
      still_good n c (cleared 1024 c.nodes c.part) (cleared 512 c.queues c.depth) (cleared 4096 c.labels c.label) parts
      (λ q h. at_cleared 512 c.queues q c.depth h w.queues)
      (take-cleared 4096 c.labels c.label l.label w.labels)
      good

  pub trimmed-queues : found n (trimmed c).part ≡ found n c.part
  unfolding trimmed
  trimmed-queues = found-same n c.part (cleared 1024 c.nodes c.part) parts

-- a clean cut is its own
pub trimmed-same : (n : Netlist) (c : Cut) → Within n c → Typed c → Clean c → trimmed c ≡ c
unfolding trimmed
trimmed-same n c w ty z =
    rw (
      cleared-same 1024 c.nodes c.part ty.part.long w.nodes z.part,
      cleared-same 512 c.queues c.depth ty.depth.long w.queues z.depth,
      cleared-same 4096 c.labels c.label ty.label.long w.labels z.label,
    )
