-- The checks 7 to 11 on a cut, for a netlist, in the order of the numbers (outline, "Numbers given back").
use Rattle.std.specs.Prelude.{Bool, cond, ◌&&◌, ◌||◌, List, [], ◌∷◌, ℕ, eqb, leb, length}
use Rattle.std.specs.Prelude.{Option, None, Some, Result, Ok, Err}
use Rattle.base.specs.declared.Verdict.{Verdict}
use Rattle.base.specs.Checks.{lowest, whole, verdict, answered}
use Rattle.layout.specs.Labels.{label_check}
use Rattle.netlist.specs.declared.Netlist.{Netlist}
use Rattle.netlist.specs.Checks.{numbers_good}
use Rattle.queues.specs.declared.Queues.{Queues}
use Rattle.queues.specs.Lists.{some}
use Rattle.queues.specs.Queues.{Queue, part_of, parts_of, queues_of, queue_at}
use Rattle.queues.specs.Found.{found, no_queues}
use Rattle.cut.specs.declared.Cut.{Cut}
use Rattle.cut.specs.Cuts.{depth_of, cut_labels}

-- where two causes share a number, place 0 goes first
abbrev pub and_then : Option ℕ → Option ℕ → Option ℕ
and_then None next = next
and_then (Some p) next = Some p

-- 7: at most 4,096 label bytes
abbrev pub labels_few : ℕ → Bool
labels_few labels = leb labels 4096

-- 8: part numbers one per node, and none above 31; the lowest node that has one
abbrev pub parts_check : Netlist → Cut → Option ℕ
parts_check n c = and_then (whole (eqb c.nodes n.nodes)) (lowest (λ i. leb (part_of c.part i) 31) n.nodes)

abbrev pub cut_queues : Netlist → Cut → List Queue
cut_queues n c = queues_of n c.part

-- 9: at most 512 queues, depths one per queue, and each 1 to 16; the lowest queue whose depth is not
abbrev pub depth_good : ℕ → Bool
depth_good d = leb 1 d && leb d 16

abbrev pub depths_check : Netlist → Cut → Option ℕ
depths_check n c =
    and_then (whole (leb (length (cut_queues n c)) 512 && eqb c.queues (length (cut_queues n c))))
    (lowest (λ q. depth_good (depth_of c q)) (length (cut_queues n c)))

-- 10: each part has a queue in or a queue out; the lowest part that has neither
abbrev pub joined : List Queue → ℕ → Bool
joined qs p = some (length qs) (λ q. eqb (queue_at qs q).from p || eqb (queue_at qs q).into p)

abbrev pub joined_check : Netlist → Cut → Option ℕ
joined_check n c = lowest (joined (cut_queues n c)) (parts_of n c.part)

-- 11: the label entries' rule; the first that breaks it
abbrev pub entries_check : Netlist → Cut → Option ℕ
entries_check n c = label_check n.nodes (cut_labels c)

abbrev pub queue_checks : Netlist → Cut → List (ℕ × Option ℕ)
queue_checks n c = (9, depths_check n c) ∷ (10, joined_check n c) ∷ (11, entries_check n c) ∷ []

abbrev pub part_checks : Netlist → Cut → List (ℕ × Option ℕ)
part_checks n c = (8, parts_check n c) ∷ queue_checks n c

-- The netlist's own numbers go first: no netlist that was read is refused by 3.
abbrev pub cut_checks : Netlist → Cut → List (ℕ × Option ℕ)
cut_checks n c = (3, whole (numbers_good n)) ∷ (7, whole (labels_few c.labels)) ∷ part_checks n c

abbrev pub cut_verdict : Netlist → Cut → Verdict
cut_verdict n c = verdict (cut_checks n c)

-- what checks answer, with the queues where all are good; zeros on a refusal
pub record CutChecked : Type 0 where
  pub answer : ℕ
  pub place : ℕ
  pub queues : Queues

unfoldable pub checked_by : List (ℕ × Option ℕ) → Queues → CutChecked
checked_by cs q =
    record {
      answer = (verdict cs).answer;
      place = (verdict cs).place;
      queues = cond (eqb (verdict cs).answer 0) q no_queues;
    }

abbrev pub checked : Netlist → Cut → CutChecked
checked n c = checked_by (cut_checks n c) (found n c.part)

-- the same as a call gives it: the queues, or else the number and the place of what refuses
abbrev pub settled : CutChecked → Result Queues Verdict
settled r = cond (eqb r.answer 0) (Ok r.queues) (Err (answered r.answer r.place))
