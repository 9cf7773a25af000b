-- Put rules tried one after the other on the arrays: before each, the nodes up to its own are evaluated, each once. In a network these are its put
-- rules, tried in turn (spots/proofs/Phases).
use Rattle.std.specs.Prelude.{◌≡◌, Bool, true, false, cond, not, ◌&&◌, List, ℕ, zero, suc, ◌+◌, ◌-◌, ◌*◌, ◌%◌, min, max, ltb, get_or, set}
use Rattle.lanes.specs.Lanes.{push_cells, push_used}
use Rattle.plans.specs.declared.Plan.{Plan as Opened}
use Rattle.lanes.specs.declared.Network.{Network}
use Rattle.evals.specs.declared.Found.{Found}
use Rattle.evals.specs.Passes.{Fields, fields_of, vals_after, mets_after}

-- What rules ask and none of them changes: the nodes' fields, what registers hold, each queue's node, putting part and depth, each part's finished cycles,
-- the limit, where the channels end and how many nodes there are.
pub record Plan : Type 0 where
  pub fields : Fields
  pub held : List ℕ
  pub node : List ℕ
  pub from : List ℕ
  pub depth : List ℕ
  pub count : List ℕ
  pub limit : ℕ
  pub channels : ℕ
  pub nodes : ℕ

-- What they change: how many nodes are evaluated, how many rules have fired, the queue store and its counts, the done flags, and what was found for
-- nodes and queues.
pub record Pass : Type 0 where
  pub seen : ℕ
  pub fired : ℕ
  pub cells : List ℕ
  pub used : List ℕ
  pub flag : List Bool
  pub vals : List ℕ
  pub mets : List Bool

-- the nodes that are to be evaluated before the rule of queue q is tried: up to a channel's node, and all before an output's
abbrev pub needed : Plan → ℕ → ℕ
needed P q = cond (ltb q P.channels) (get_or P.node q 0 + 1) P.nodes

unfoldable pub evaluated : Plan → ℕ → Pass → Pass
evaluated P n S =
    record {
      seen = max S.seen n;
      fired = S.fired;
      cells = S.cells;
      used = S.used;
      flag = S.flag;
      vals = vals_after P.fields P.held S.seen (min n 1024 - S.seen) S.vals;
      mets = mets_after P.fields S.seen (min n 1024 - S.seen) S.mets;
    }

-- A put rule is ready: its flag is off, its queue has room, its node's needs are met, and its part is below the limit.
abbrev pub put_test : List ℕ → List ℕ → List ℕ → List ℕ → ℕ → ℕ → List ℕ → List Bool → List Bool → Bool
put_test node from depth count limit q used flag mets =
    not (get_or flag q false)
    && ltb (get_or used q 0) (get_or depth q 0)
    && get_or mets (get_or node q 0 % 1024) false
    && ltb (get_or count (get_or from q 0 % 32) 0) limit

abbrev pub put_ready : Plan → ℕ → Pass → Bool
put_ready P q S = ltb q 512 && put_test P.node P.from P.depth P.count P.limit q S.used S.flag S.mets

-- It puts the node's value and sets the flag; what is read from the queue is its oldest token again.
unfoldable pub put_done : Plan → ℕ → Pass → Pass
put_done P q S =
    record {
      seen = S.seen;
      fired = S.fired + 1;
      cells = push_cells S.cells S.used q (get_or S.vals (get_or P.node q 0 % 1024) 0);
      used = push_used S.used q;
      flag = set S.flag q true;
      vals = set S.vals (1024 + q) (get_or (push_cells S.cells S.used q (get_or S.vals (get_or P.node q 0 % 1024) 0)) (q * 16) 0);
      mets = set S.mets (1024 + q) true;
    }

unfoldable pub put_tried : Plan → ℕ → Pass → Pass
put_tried P q S = cond (put_ready P q S) (put_done P q S) S

abbrev pub put_turn : Plan → ℕ → Pass → Pass
put_turn P q S = put_tried P q (evaluated P (needed P q) S)

-- Whether a rule would fire, asked of a pass that has found nothing of the nodes: the answer, and what is found then. Past the queues nothing is.
abbrev pub Asked : Plan → ℕ → Pass → Bool → List ℕ → List Bool → Type 0
Asked P q S r vals mets =
    (r ≡ put_ready P q (evaluated P (needed P q) S))
    × (vals ≡ cond (ltb q 512) (evaluated P (needed P q) S).vals S.vals)
    × (mets ≡ cond (ltb q 512) (evaluated P (needed P q) S).mets S.mets)

-- the rules of d queues from lo on
unfoldable pub puts_after : Plan → ℕ → ℕ → Pass → Pass
puts_after P lo zero S = S
puts_after P lo (suc d) S = put_turn P (lo + d) (puts_after P lo d S)

-- and then the nodes up to the number `last`
abbrev pub puts_done : Plan → ℕ → ℕ → ℕ → Pass → Pass
puts_done P lo hi last S = evaluated P last (puts_after P lo (min hi 512 - lo) S)

-- plans and passes from the arrays
abbrev pub mk_plan : Fields → List ℕ → List ℕ → List ℕ → List ℕ → List ℕ → ℕ → ℕ → ℕ → Plan
mk_plan F held node from depth count limit channels nodes =
    record { fields = F; held = held; node = node; from = from; depth = depth; count = count; limit = limit; channels = channels; nodes = nodes }

abbrev pub mk_pass : ℕ → ℕ → List ℕ → List ℕ → List Bool → List ℕ → List Bool → Pass
mk_pass seen fired cells used flag vals mets =
    record { seen = seen; fired = fired; cells = cells; used = used; flag = flag; vals = vals; mets = mets }

-- the same from the structs that hold the arrays; the channels end behind the inputs
abbrev pub channels_end : Opened → ℕ
channels_end P = min P.inputs 512 + min P.channels 512

abbrev pub rules_of : Opened → Network → Plan
rules_of P N =
    mk_plan (fields_of P) N.held P.node P.from P.depth N.count P.limit (channels_end P) P.nodes

abbrev pub pass_of : Network → Found → Pass
pass_of N F = mk_pass 0 0 N.cells N.used N.flag F.vals F.mets

-- what a pass leaves of a network: how many rules fired, the queues, the flags, and what was found
abbrev pub Left : Network → Pass → ℕ → Network → Found → Type 0
Left L T fired M F = (fired ≡ T.fired) × (M ≡ record L { cells = T.cells; used = T.used; flag = T.flag }) × (F.vals ≡ T.vals) × (F.mets ≡ T.mets)
