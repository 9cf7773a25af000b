-- What opening works out once: for each node where its operands are read, for each queue its ends and its depth, and how many rules there are.
use Rattle.std.specs.Prelude.{Bool, cond, List, ℕ, ◌+◌, ◌-◌, ◌%◌, min, ltb, get_or, replicate}
use Rattle.base.specs.Lists.{fill}
use Rattle.codes.specs.Rows.{is_in, count_of}
use Rattle.netlist.specs.declared.Netlist.{Netlist}
use Rattle.queues.specs.declared.Queues.{Queues}
use Rattle.cut.specs.declared.Cut.{Cut}
use Rattle.plans.specs.declared.Plan.{Plan}

-- the place of a queue's oldest token, behind those of the nodes; and the place of what is no operand
abbrev pub token_at : ℕ → ℕ
token_at q = 1024 + q % 512

abbrev pub nowhere : ℕ
nowhere = 1536

-- Where an operand x is read: from its queue where it has one, else at the node itself; nowhere where the field is not used.
abbrev pub read_at : Bool → ℕ → ℕ → ℕ
read_at used via x = cond used (cond (ltb via 512) (token_at via) x) nowhere

-- of field s, whose operands are xs and whose queues are vias
abbrev pub spot_of : List ℕ → List ℕ → List ℕ → ℕ → ℕ → ℕ
spot_of code xs vias s i = read_at (ltb s (count_of (get_or code i 0))) (get_or vias i 0) (get_or xs i 0)

-- an IN reads its own queue
abbrev pub first_spot : List ℕ → List ℕ → List ℕ → List ℕ → ℕ → ℕ
first_spot code xs vias input i = cond (is_in (get_or code i 0)) (token_at (get_or input i 0)) (spot_of code xs vias 0 i)

-- the width of the second operand
abbrev pub join_of : List ℕ → List ℕ → ℕ → ℕ
join_of width b i = get_or width (get_or b i 0 % 1024) 0

-- How many rules there are: a put rule for each queue that is no input's, and a Finish for each part. There are at most 512 queues and 32 parts.
abbrev pub rules_in : ℕ → ℕ → ℕ → ℕ
rules_in queues inputs parts = min queues 512 - min inputs 512 + min parts 32

unfoldable pub plan_of : Netlist → Cut → Queues → ℕ → Plan
plan_of n c q limit =
    record {
      limit = limit;
      nodes = n.nodes;
      parts = q.parts;
      inputs = q.inputs;
      channels = q.channels;
      outputs = q.outputs;
      queues = q.count;
      rules = rules_in q.count q.inputs q.parts;
      code = n.code;
      width = n.width;
      join = fill (join_of n.width n.b) n.nodes (replicate 1024 0);
      k = n.k;
      ra = fill (first_spot n.code n.a q.a q.input) n.nodes (replicate 1024 0);
      rb = fill (spot_of n.code n.b q.b 1) n.nodes (replicate 1024 0);
      rc = fill (spot_of n.code n.c q.c 2) n.nodes (replicate 1024 0);
      part = c.part;
      node = q.node;
      from = q.from;
      into = q.into;
      depth = c.depth;
    }
