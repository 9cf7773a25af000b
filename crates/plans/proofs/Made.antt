-- A plan whose four lists are those of the definition is the definition.
use mathlib.Core.Path.{◌≡◌}
use mathlib.Core.List.{List}
use Prim.Native.Nat.{ℕ, min}
use lib.ListN.{replicate, length-replicate}
use Rattle.base.specs.Lists.{fill}
use Rattle.base.proofs.Fill.{fill_clipped}
use Rattle.netlist.specs.declared.Netlist.{Netlist}
use Rattle.queues.specs.declared.Queues.{Queues}
use Rattle.cut.specs.declared.Cut.{Cut}
use Rattle.plans.specs.Plans.{spot_of, first_spot, join_of, rules_in, plan_of}

pub made : (n : Netlist) (c : Cut) (q : Queues) (limit m rules : ℕ) (join ra rb rc : List ℕ)
    → m ≡ min n.nodes 1024
    → rules ≡ rules_in q.count q.inputs q.parts
    → join ≡ fill (join_of n.width n.b) m (replicate 1024 0)
    → ra ≡ fill (first_spot n.code n.a q.a q.input) m (replicate 1024 0)
    → rb ≡ fill (spot_of n.code n.b q.b 1) m (replicate 1024 0)
    → rc ≡ fill (spot_of n.code n.c q.c 2) m (replicate 1024 0)
    → record {
      limit = limit;
      nodes = n.nodes;
      parts = q.parts;
      inputs = q.inputs;
      channels = q.channels;
      outputs = q.outputs;
      queues = q.count;
      rules = rules;
      code = n.code;
      width = n.width;
      join = join;
      k = n.k;
      ra = ra;
      rb = rb;
      rc = rc;
      part = c.part;
      node = q.node;
      from = q.from;
      into = q.into;
      depth = c.depth;
    } ≡ plan_of n c q limit
unfolding plan_of
made n c q limit m rules join ra rb rc h hr hj ha hb hc =
    let z : List ℕ = replicate 1024 0 in
    rw (
      hr,
      fill_clipped (join_of n.width n.b) n.nodes 1024 m z join hj h (length-replicate {A = ℕ} 1024 0),
      fill_clipped (first_spot n.code n.a q.a q.input) n.nodes 1024 m z ra ha h (length-replicate {A = ℕ} 1024 0),
      fill_clipped (spot_of n.code n.b q.b 1) n.nodes 1024 m z rb hb h (length-replicate {A = ℕ} 1024 0),
      fill_clipped (spot_of n.code n.c q.c 2) n.nodes 1024 m z rc hc h (length-replicate {A = ℕ} 1024 0),
    )
