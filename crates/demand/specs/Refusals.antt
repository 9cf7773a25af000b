-- When a feed, a drain and a fire are refused, exactly, and that a refused one changes nothing (outline, "Numbers given back"): for a network that earlier calls
-- gave. `ready` answers as fire does. The other calls are refused by their own numbers alone: a run, `tokens` and `finished` by 12, an order by 12 and 16
-- (`Calls` of `network` and of `rules`).
use Rattle.std.specs.Prelude.{◌≡◌, true, false, [], ◌↔◌, ℕ, ◌^◌, ◌≤◌, ◌<◌, length}
use Rattle.cycles.specs.Netlists.{width_of}
use Rattle.nets.specs.Net.{Net}
use Rattle.nets.specs.State.{State, some_token, Reaches}
use Rattle.nets.specs.Actions.{put, finish, ready}
use Rattle.nets.specs.Rounds.{rule_count, rule}
use Rattle.nets.specs.Orders.{Entry, output_queue}
use Rattle.plans.specs.declared.Plan.{Plan}
use Rattle.lanes.specs.declared.Network.{Network}
use Rattle.spots.specs.Stores.{Given, net_of}
use Rattle.moves.specs.Meaning.{feed_entry, drain_entry, fire_entry, answer_of, state_after}

-- ---- when a rule is ready (outline, "Rules of the network")

-- a put rule: its flag is off, its queue has room, each queue that it needs has a token, and its part is below the cycle limit
pub record PutNow (N : Net) (s : State) (q : ℕ) : Type 0 where
  pub off : s.flag q ≡ false
  pub space : length (s.queue q) < N.depth q
  pub needs : (p : ℕ) → Reaches N (N.from q) (N.node q) p → some_token (s.queue p) ≡ true
  pub below : s.count (N.from q) < N.limit

-- a Finish: all the part's flags are on, all its incoming queues have a token, and it is below the cycle limit
pub record FinishNow (N : Net) (s : State) (p : ℕ) : Type 0 where
  pub on : (q : ℕ) → q < N.queues → N.from q ≡ p → s.flag q ≡ true
  pub full : (q : ℕ) → q < N.queues → N.into q ≡ p → some_token (s.queue q) ≡ true
  pub below : s.count p < N.limit

pub record ReadyExactly (N : Net) (s : State) : Type 0 where
  pub puts : (q : ℕ) → N.ins ≤ q → q < N.queues → (ready N s (put q) ≡ true) ↔ PutNow N s q
  pub finishes : (p : ℕ) → p < N.parts → (ready N s (finish p) ≡ true) ↔ FinishNow N s p

abbrev pub ReadyExact : Type 0
ReadyExact = (P : Plan) (L : Network) (G : Given P L) → ReadyExactly (net_of G) G.s

-- ---- when a call is refused

-- 12, no such input; 13, a value not below 2^w; 14, full
pub record FeedExactly {P : Plan} {L : Network} (G : Given P L) (j x : ℕ) : Type 0 where
  pub none : (answer_of G (feed_entry j x) ≡ 12) ↔ ((net_of G).ins ≤ j)
  pub large : (answer_of G (feed_entry j x) ≡ 13) ↔ ((j < (net_of G).ins) × (2 ^ width_of G.n ((net_of G).node j) ≤ x))
  pub full : (answer_of G (feed_entry j x) ≡ 14) ↔ ((j < (net_of G).ins) × (x < 2 ^ width_of G.n ((net_of G).node j)) × ((net_of G).depth j ≤ length (G.s.queue j)))
  pub done : (answer_of G (feed_entry j x) ≡ 0) ↔ ((j < (net_of G).ins) × (x < 2 ^ width_of G.n ((net_of G).node j)) × (length (G.s.queue j) < (net_of G).depth j))

-- 12, no such output; 14, empty
pub record DrainExactly {P : Plan} {L : Network} (G : Given P L) (j : ℕ) : Type 0 where
  pub none : (answer_of G (drain_entry j) ≡ 12) ↔ ((net_of G).outs ≤ j)
  pub empty : (answer_of G (drain_entry j) ≡ 14) ↔ ((j < (net_of G).outs) × (G.s.queue (output_queue (net_of G) j) ≡ []))
  pub done : (answer_of G (drain_entry j) ≡ 0) ↔ ((j < (net_of G).outs) × (0 < length (G.s.queue (output_queue (net_of G) j))))

-- 12, no such rule; 14, not ready
pub record FireExactly {P : Plan} {L : Network} (G : Given P L) (r : ℕ) : Type 0 where
  pub none : (answer_of G (fire_entry r) ≡ 12) ↔ (rule_count (net_of G) ≤ r)
  pub waits : (answer_of G (fire_entry r) ≡ 14) ↔ ((r < rule_count (net_of G)) × (ready (net_of G) G.s (rule (net_of G) r) ≡ false))
  pub done : (answer_of G (fire_entry r) ≡ 0) ↔ ((r < rule_count (net_of G)) × (ready (net_of G) G.s (rule (net_of G) r) ≡ true))

abbrev pub FeedExact : Type 0
FeedExact = (P : Plan) (L : Network) (G : Given P L) (j x : ℕ) → FeedExactly G j x

abbrev pub DrainExact : Type 0
DrainExact = (P : Plan) (L : Network) (G : Given P L) (j : ℕ) → DrainExactly G j

abbrev pub FireExact : Type 0
FireExact = (P : Plan) (L : Network) (G : Given P L) (r : ℕ) → FireExactly G r

-- what is refused changes nothing: of a feed, a drain, a fire, and of an entry of another kind
abbrev pub RefusedStays : Type 0
RefusedStays = (P : Plan) (L : Network) (G : Given P L) (e : Entry) → (answer_of G e ≡ 0 → ⊥) → state_after G e ≡ G.s
