-- The checks 3 to 6 on a netlist, in the order of the numbers (outline, "Numbers given back").
use Rattle.std.specs.Prelude.{Bool, ◌&&◌, List, [], ◌∷◌, ℕ, ltb, leb}
use Rattle.std.specs.Prelude.{Option}
use Rattle.base.specs.Checks.{lowest, whole}
use Rattle.codes.specs.Records.{record_good}
use Rattle.layout.specs.Labels.{label_check}
use Rattle.netlist.specs.declared.Netlist.{Netlist}
use Rattle.netlist.specs.Netlists.{record_of, output_of, labels_of}

-- 3: nodes 1 to 1,024, outputs 0 to 64, label bytes at most 4,096
abbrev pub counts_good : ℕ → ℕ → ℕ → Bool
counts_good nodes outputs labels = leb 1 nodes && leb nodes 1024 && leb outputs 64 && leb labels 4096

abbrev pub numbers_good : Netlist → Bool
numbers_good n = counts_good n.nodes n.outputs n.labels

-- 4: a record's rule; the lowest that breaks it
abbrev pub records_check : Netlist → Option ℕ
records_check n = lowest (λ i. record_good n.width n.nodes i (record_of n i)) n.nodes

-- 5: an output names a node; the lowest that names none
abbrev pub outputs_check : Netlist → Option ℕ
outputs_check n = lowest (λ j. ltb (output_of n j) n.nodes) n.outputs

-- 6: the label entries' rule; the first that breaks it
abbrev pub labels_check : Netlist → Option ℕ
labels_check n = label_check n.nodes (labels_of n)

abbrev pub entry_checks : Netlist → List (ℕ × Option ℕ)
entry_checks n = (4, records_check n) ∷ (5, outputs_check n) ∷ (6, labels_check n) ∷ []

abbrev pub net_checks : Netlist → List (ℕ × Option ℕ)
net_checks n = (3, whole (numbers_good n)) ∷ entry_checks n
