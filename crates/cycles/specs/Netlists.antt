-- A netlist as a drawing: what each node is, by the lists of its fields.
use Rattle.std.specs.Prelude.{cond, List, ℕ, get_or}
use Rattle.codes.specs.declared.Record.{Record}
use Rattle.codes.specs.Rows.{is_in, is_reg}
use Rattle.codes.specs.Records.{operands_in}
use Rattle.netlist.specs.declared.Netlist.{Netlist}
use Rattle.netlist.specs.Netlists.{record_of}
use Rattle.values.specs.Values.{value_of}
use Rattle.cycles.specs.Drawings.{Kind, input, register, oper, Drawing}

-- a record's operator, over the values of its operands; v is the width of b
abbrev pub operator : Record → ℕ → List ℕ → ℕ
operator r v xs = value_of r.code r.width v r.k (get_or xs 0 0) (get_or xs 1 0) (get_or xs 2 0)

abbrev pub kind_in : Record → ℕ → Kind
kind_in r v = cond (is_in r.code) input (cond (is_reg r.code) (register r.k r.a) (oper (operator r v) (operands_in r)))

-- node i of a netlist
abbrev pub kind_of : Netlist → ℕ → Kind
kind_of n i = kind_in (record_of n i) (get_or n.width (record_of n i).b 0)

abbrev pub width_of : Netlist → ℕ → ℕ
width_of n i = get_or n.width i 0

-- the drawing; its rank is the node's number
abbrev pub drawing : Netlist → Drawing
drawing n = record { nodes = n.nodes; kind = kind_of n; rank = λ i. i }
