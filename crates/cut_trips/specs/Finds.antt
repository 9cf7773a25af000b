-- What the checks 8 to 11 find on a cut, in the words of the outline's table.
use Rattle.std.specs.Prelude.{◌≡◌, ◌⊎◌, ◌↔◌, ℕ, ◌<◌, ◌≤◌, leb, length}
use Rattle.base.specs.Checks.{found_by, Lowest}
use Rattle.std.specs.Prelude.{Some}
use Rattle.layout.specs.Labels.{BadEntry}
use Rattle.netlist.specs.declared.Netlist.{Netlist}
use Rattle.queues.specs.Queues.{part_of, parts_of, queue_at}
use Rattle.cut.specs.declared.Cut.{Cut}
use Rattle.cut.specs.Cuts.{depth_of, cut_labels}
use Rattle.cut.specs.Checks.{cut_queues, depth_good, part_checks}

-- part numbers one per node; at most 512 queues, and depths one per queue
abbrev pub PartsCounted : Netlist → Cut → Type 0
PartsCounted n c = c.nodes ≡ n.nodes

abbrev pub QueuesCounted : Netlist → Cut → Type 0
QueuesCounted n c = (length (cut_queues n c) ≤ 512) × (c.queues ≡ length (cut_queues n c))

-- part p has queue q in or out
abbrev pub Joins : Netlist → Cut → ℕ → ℕ → Type 0
Joins n c q p = ((queue_at (cut_queues n c) q).from ≡ p) ⊎ ((queue_at (cut_queues n c) q).into ≡ p)

-- part p is the lowest with no queue in or out
pub record LowestAlone (n : Netlist) (c : Cut) (p : ℕ) : Type 0 where
  pub within : p < parts_of n c.part
  pub alone : (q : ℕ) → q < length (cut_queues n c) → Joins n c q p → ⊥
  pub before : (r : ℕ) → r < p → (q : ℕ) × (q < length (cut_queues n c)) × Joins n c q r

-- Of the two causes of 8, and of those of 9, the one with place 0 goes first.
pub record CutFinds (n : Netlist) (c : Cut) (p : ℕ) : Type 0 where
  pub parts : (found_by (part_checks n c) 0 ≡ Some p) ↔ (((PartsCounted n c → ⊥) × (p ≡ 0)) ⊎ (PartsCounted n c × Lowest (λ i. leb (part_of c.part i) 31) n.nodes p))
  pub depths : (found_by (part_checks n c) 1 ≡ Some p) ↔ (((QueuesCounted n c → ⊥) × (p ≡ 0)) ⊎ (QueuesCounted n c × Lowest (λ q. depth_good (depth_of c q)) (length (cut_queues n c)) p))
  pub joined : (found_by (part_checks n c) 2 ≡ Some p) ↔ LowestAlone n c p
  pub labels : (found_by (part_checks n c) 3 ≡ Some p) ↔ BadEntry n.nodes (cut_labels c) p

abbrev pub CutMeans : Type 0
CutMeans = (n : Netlist) (c : Cut) (p : ℕ) → CutFinds n c p
