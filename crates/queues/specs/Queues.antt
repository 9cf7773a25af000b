-- The queues of a cut drawing, in order (outline, "The cut sheet"): one for each IN, by node; one channel for each node and each other part in which
-- some node uses it as an operand, by node and then by part; one for each output, by sheet order.
use Rattle.std.specs.Prelude.{ℕ, suc, ◌+◌, Bool, not, ◌&&◌, List, [], ◌∷◌, ◌++◌, length, ◌==◌, slice_index, slice_index_or}
use Rattle.codes.specs.Rows.{is_in}
use Rattle.codes.specs.Records.{operands_in}
use Rattle.netlist.specs.declared.Netlist.{Netlist}
use Rattle.netlist.specs.Netlists.{record_of, output_of}
use Rattle.queues.specs.Lists.{listed, one_if, some, member, largest}

pub data Kind : Type 0 where
  input : Kind
  channel : Kind
  output : Kind

-- A queue: its kind, its node, the part that puts tokens on it and the part that takes them.
pub record Queue : Type 0 where
  pub kind : Kind
  pub node : ℕ
  pub from : ℕ
  pub into : ℕ

-- no part: an input's tokens come from outside, and an output's go there
abbrev pub outside : ℕ
outside = 32

-- the part of a node
abbrev pub part_of : List ℕ → ℕ → ℕ
part_of part i = slice_index part i

-- there are as many parts as the largest part number plus one
abbrev pub parts_of : Netlist → List ℕ → ℕ
parts_of n part = suc (largest n.nodes (part_of part))

-- some node of part p uses node i as an operand
abbrev pub used_in : Netlist → List ℕ → ℕ → ℕ → Bool
used_in n part i p = some n.nodes (λ b. (part_of part b == p) && member i (operands_in (record_of n b)))

-- p is another part in which some node uses node i as an operand
abbrev pub crosses : Netlist → List ℕ → ℕ → ℕ → Bool
crosses n part i p = not (part_of part i == p) && used_in n part i p

-- An IN's queue and an output's queue belong to the node's own part; a channel goes from there to the part that reads.
abbrev pub input_at : List ℕ → ℕ → Queue
input_at part i = record { kind = input; node = i; from = outside; into = part_of part i }

abbrev pub channel_at : List ℕ → ℕ → ℕ → Queue
channel_at part i p = record { kind = channel; node = i; from = part_of part i; into = p }

abbrev pub output_at : List ℕ → ℕ → Queue
output_at part i = record { kind = output; node = i; from = part_of part i; into = outside }

-- the inputs of the first i nodes, by node
abbrev pub inputs_to : Netlist → List ℕ → ℕ → List Queue
inputs_to n part i = listed i (λ j. one_if (is_in (record_of n j).code) (input_at part j))

-- node i's channels to the first p parts, by part; and the channels of the first i nodes, by node
abbrev pub channels_of : Netlist → List ℕ → ℕ → ℕ → List Queue
channels_of n part i p = listed p (λ r. one_if (crosses n part i r) (channel_at part i r))

abbrev pub channels_to : Netlist → List ℕ → ℕ → List Queue
channels_to n part i = listed i (λ j. channels_of n part j (parts_of n part))

-- the first j outputs, by sheet order
abbrev pub outputs_to : Netlist → List ℕ → ℕ → List Queue
outputs_to n part j = listed j (λ m. output_at part (output_of n m) ∷ [])

-- the three, one behind the other
abbrev pub inputs_of : Netlist → List ℕ → List Queue
inputs_of n part = inputs_to n part n.nodes

abbrev pub channels_all : Netlist → List ℕ → List Queue
channels_all n part = channels_to n part n.nodes

abbrev pub outputs_of : Netlist → List ℕ → List Queue
outputs_of n part = outputs_to n part n.outputs

unfoldable pub queues_of : Netlist → List ℕ → List Queue
queues_of n part = inputs_of n part ++ channels_all n part ++ outputs_of n part

-- a queue by its number
abbrev pub queue_at : List Queue → ℕ → Queue
queue_at qs q = slice_index_or qs q (record { kind = input; node = 0; from = outside; into = outside })

-- The place of an IN's queue, and that of the channel from node i to part p: as many queues stand before it.
abbrev pub input_place : Netlist → List ℕ → ℕ → ℕ
input_place n part i = length (inputs_to n part i)

abbrev pub channel_place : Netlist → List ℕ → ℕ → ℕ → ℕ
channel_place n part i p = length (inputs_of n part) + length (channels_to n part i) + length (channels_of n part i p)
