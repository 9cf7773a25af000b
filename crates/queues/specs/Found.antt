-- The queues as arrays: for each queue its node and its two parts, for each IN its queue, for each operand that crosses its queue.
use Rattle.std.specs.Prelude.{ℕ, Bool, cond, not, ◌&&◌, leb, List, length, replicate, ◌==◌, nat_le, nat_lt}
use Rattle.base.specs.Lists.{fill}
use Rattle.base.specs.Checks.{every}
use Rattle.codes.specs.Rows.{is_in, count_of}
use Rattle.netlist.specs.declared.Netlist.{Netlist}
use Rattle.netlist.specs.Netlists.{record_of}
use Rattle.queues.specs.Lists.{laid}
use Rattle.queues.specs.Queues.{Queue, part_of, parts_of, inputs_of, channels_all, outputs_of, queues_of, input_place, channel_place}
use Rattle.queues.specs.declared.Queues.{Queues}

-- A number of each queue, in order, and zeros behind. Of more queues than the array holds, as many as it holds.
abbrev pub column : (Queue → ℕ) → List Queue → List ℕ
column f qs = laid f 0 qs (replicate 512 0)

-- no queue
abbrev pub no_queue : ℕ
no_queue = 512

-- the queue of node i, where it is an IN
abbrev pub input_of : Netlist → List ℕ → ℕ → ℕ
input_of n part i = cond (is_in (record_of n i).code) (input_place n part i) no_queue

-- The queue from which node i reads the operand that stands in its field s (0, 1 or 2), x being that field: where i uses the field, and x is in another part.
abbrev pub via_of : Netlist → List ℕ → ℕ → ℕ → ℕ → ℕ
via_of n part s i x =
    cond (nat_lt s (count_of (record_of n i).code) && nat_lt x n.nodes && not (part_of part x == part_of part i))
    (channel_place n part x (part_of part i))
    no_queue

-- zeros alone
unfoldable pub no_queues : Queues
no_queues =
    record {
      parts = 0;
      count = 0;
      inputs = 0;
      channels = 0;
      outputs = 0;
      node = replicate 512 0;
      from = replicate 512 0;
      into = replicate 512 0;
      input = replicate 1024 0;
      a = replicate 1024 0;
      b = replicate 1024 0;
      c = replicate 1024 0;
    }

-- nodes and outputs within their numbers, and no part number above 31
abbrev pub parts_fit : Netlist → List ℕ → Bool
parts_fit n part = nat_le n.nodes 1024 && nat_le n.outputs 64 && every (λ i. leb (part_of part i) 31) n.nodes

-- the queues and their maps
unfoldable pub found : Netlist → List ℕ → Queues
found n part =
    record {
      parts = parts_of n part;
      count = length (queues_of n part);
      inputs = length (inputs_of n part);
      channels = length (channels_all n part);
      outputs = length (outputs_of n part);
      node = column (λ q. q.node) (queues_of n part);
      from = column (λ q. q.from) (queues_of n part);
      into = column (λ q. q.into) (queues_of n part);
      input = fill (input_of n part) n.nodes (replicate 1024 0);
      a = fill (λ i. via_of n part 0 i (record_of n i).a) n.nodes (replicate 1024 0);
      b = fill (λ i. via_of n part 1 i (record_of n i).b) n.nodes (replicate 1024 0);
      c = fill (λ i. via_of n part 2 i (record_of n i).c) n.nodes (replicate 1024 0);
    }

-- the same where the parts fit, else zeros
unfoldable pub queues_found : Netlist → List ℕ → Queues
queues_found n part = cond (parts_fit n part) (found n part) no_queues
