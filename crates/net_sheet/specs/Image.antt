-- The net sheet's layout (outline, "The net sheet"): a netlist as bytes. From byte 0 the records, the outputs, the labels, last the trailer.
use Rattle.std.specs.Prelude.{List, [], ◌∷◌, ◌++◌, ℕ, ◌*◌}
use Rattle.base.specs.Bytes.{le2, le4}
use Rattle.base.specs.Lists.{flat}
use Rattle.codes.specs.declared.Record.{Record}
use Rattle.layout.specs.Trailer.{trailer_bytes}
use Rattle.netlist.specs.declared.Netlist.{Netlist}
use Rattle.netlist.specs.Netlists.{record_of, output_of, labels_of}

-- a record: code (1 byte), width (1), operands a, b, c (2 each), k (4)
abbrev pub record_bytes : Record → List ℕ
record_bytes r = (r.code ∷ r.width ∷ []) ++ le2 r.a ++ le2 r.b ++ le2 r.c ++ le4 r.k

abbrev pub record_section : Netlist → List ℕ
record_section n = flat (λ i. record_bytes (record_of n i)) n.nodes

-- outputs, 2 bytes each, a node number
abbrev pub output_section : Netlist → List ℕ
output_section n = flat (λ j. le2 (output_of n j)) n.outputs

-- the sheet's second letter, N
abbrev pub net_letter : ℕ
net_letter = 0x4E

unfoldable pub net_image : Netlist → List ℕ
net_image n = record_section n ++ output_section n ++ labels_of n ++ trailer_bytes (n.nodes * 12) (n.outputs * 2) n.labels net_letter
