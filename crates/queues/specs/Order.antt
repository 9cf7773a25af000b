-- The queues of the definition stand once each and in order, and each operand that crosses finds its own.
use Rattle.std.specs.Prelude.{◌≡◌, ℕ, ◌+◌, ◌<◌, true, ◌≢◌, ◌⊎◌, List, length, nat_lt}
use Rattle.codes.specs.Rows.{is_in, count_of}
use Rattle.codes.specs.Records.{operands_in}
use Rattle.netlist.specs.declared.Netlist.{Netlist}
use Rattle.netlist.specs.Netlists.{record_of, output_of}
use Rattle.queues.specs.Lists.{member}
use Rattle.queues.specs.Found.{via_of}
use Rattle.queues.specs.Queues.{Queue, part_of, parts_of, crosses, input_at, channel_at, output_at, inputs_of, channels_all, queues_of, queue_at, input_place, channel_place}

-- queue number q is x
abbrev pub Stands : Netlist → List ℕ → ℕ → Queue → Type 0
Stands n part q x = (q < length (queues_of n part)) × (queue_at (queues_of n part) q ≡ x)

-- the place of an output's queue: behind all inputs and channels, in sheet order
abbrev pub output_place : Netlist → List ℕ → ℕ → ℕ
output_place n part j = length (inputs_of n part) + length (channels_all n part) + j

-- Each IN has its queue at its place; so has each node for each other part that uses it, and each output.
abbrev pub EachInput : Type 0
EachInput = (n : Netlist) (part : List ℕ) (i : ℕ) → i < n.nodes → is_in (record_of n i).code ≡ true → Stands n part (input_place n part i) (input_at part i)

abbrev pub EachChannel : Type 0
EachChannel = (n : Netlist) (part : List ℕ) (i p : ℕ) → i < n.nodes → p < parts_of n part → crosses n part i p ≡ true → Stands n part (channel_place n part i p) (channel_at part i p)

abbrev pub EachOutput : Type 0
EachOutput = (n : Netlist) (part : List ℕ) (j : ℕ) → j < n.outputs → Stands n part (output_place n part j) (output_at part (output_of n j))

-- and there are no others: queue q is that of an IN, of a node and a part that it crosses to, or of an output
pub record OfInput (n : Netlist) (part : List ℕ) (q : ℕ) : Type 0 where
  pub node : ℕ
  pub within : node < n.nodes
  pub is_in_lem : is_in (record_of n node).code ≡ true
  pub place : q ≡ input_place n part node

pub record OfChannel (n : Netlist) (part : List ℕ) (q : ℕ) : Type 0 where
  pub node : ℕ
  pub reader : ℕ
  pub within : node < n.nodes
  pub known : reader < parts_of n part
  pub cross : crosses n part node reader ≡ true
  pub place : q ≡ channel_place n part node reader

pub record OfOutput (n : Netlist) (part : List ℕ) (q : ℕ) : Type 0 where
  pub output : ℕ
  pub within : output < n.outputs
  pub place : q ≡ output_place n part output

abbrev pub EachQueue : Type 0
EachQueue = (n : Netlist) (part : List ℕ) (q : ℕ) → q < length (queues_of n part) → OfInput n part q ⊎ OfChannel n part q ⊎ OfOutput n part q

-- Inputs go by node, channels by node and then by part: a later one has a higher place, so each stands once.
abbrev pub InputsRise : Type 0
InputsRise = (n : Netlist) (part : List ℕ) (i j : ℕ) → i < j → is_in (record_of n i).code ≡ true → input_place n part i < input_place n part j

abbrev pub ChannelsRise : Type 0
ChannelsRise =
    (n : Netlist) (part : List ℕ) (i p j r : ℕ)
    → p < parts_of n part
    → crosses n part i p ≡ true
    → (i < j) ⊎ ((i ≡ j) × (p < r))
    → channel_place n part i p < channel_place n part j r

-- An operand of node b that is in another part crosses to b's part, so that its queue is there to be read.
abbrev pub OperandCrosses : Type 0
OperandCrosses =
    (n : Netlist) (part : List ℕ) (b x : ℕ)
    → b < n.nodes
    → member x (operands_in (record_of n b)) ≡ true
    → part_of part x ≢ part_of part b
    → (crosses n part x (part_of part b) ≡ true) × (part_of part b < parts_of n part)

-- And it is what the map says: where node b uses its field s, x being the operand there, and x is in another part, the map's queue is the channel from x to b's part.
abbrev pub OperandQueue : Type 0
OperandQueue =
    (n : Netlist) (part : List ℕ) (b x s : ℕ)
    → b < n.nodes
    → x < n.nodes
    → nat_lt s (count_of (record_of n b).code) ≡ true
    → member x (operands_in (record_of n b)) ≡ true
    → part_of part x ≢ part_of part b
    → Stands n part (via_of n part s b x) (channel_at part x (part_of part b))
