-- The network of a netlist and a cut, from its queues in the outline's order.
use Rattle.std.specs.Prelude.{cond, ◌&&◌, List, ℕ, ◌^◌, eqb, ltb, length}
use Rattle.codes.specs.Rows.{is_in}
use Rattle.netlist.specs.declared.Netlist.{Netlist}
use Rattle.netlist.specs.Netlists.{record_of}
use Rattle.cycles.specs.Netlists.{width_of, drawing}
use Rattle.queues.specs.Queues.{Queue, part_of, parts_of, inputs_of, queues_of, queue_at, input_place, channel_place}
use Rattle.cut.specs.declared.Cut.{Cut}
use Rattle.cut.specs.Cuts.{depth_of}
use Rattle.nets.specs.Net.{Net}

-- the queue number q of a netlist and part numbers
abbrev pub queue_of : Netlist → List ℕ → ℕ → Queue
queue_of n part q = queue_at (queues_of n part) q

-- where part p reads node i: an IN of its own from the IN's queue, any other node from its channel into p
abbrev pub place_in : Netlist → List ℕ → ℕ → ℕ → ℕ
place_in n part p i = cond (is_in (record_of n i).code && eqb (part_of part i) p) (input_place n part i) (channel_place n part i p)

abbrev pub network_of : Netlist → Cut → ℕ → Net
network_of n c limit =
    record {
      draw = drawing n;
      parts = parts_of n c.part;
      part = part_of c.part;
      ins = length (inputs_of n c.part);
      outs = n.outputs;
      queues = length (queues_of n c.part);
      node = λ q. (queue_of n c.part q).node;
      from = λ q. (queue_of n c.part q).from;
      into = λ q. (queue_of n c.part q).into;
      depth = depth_of c;
      via = place_in n c.part;
      allow = λ i x. ltb x (2 ^ width_of n i);
      limit = limit;
    }
