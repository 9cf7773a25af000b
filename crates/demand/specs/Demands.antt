-- Demand 3: what a network gives is what its drawing means, it does not stand still while it can go on, and its firings add up.
-- For every accepted netlist and cut, every cycle limit, and every list of actions played on the fresh network.
use Rattle.std.specs.Prelude.{◌≡◌, true, List, ◌++◌, ℕ, suc, ◌+◌, ◌≤◌, ◌<◌, length, get_or}
use Rattle.base.specs.Checks.{AllGood}
use Rattle.netlist.specs.declared.Netlist.{Netlist}
use Rattle.netlist.specs.Checks.{net_checks}
use Rattle.cycles.specs.Drawings.{register, Runs}
use Rattle.cycles.specs.Netlists.{drawing}
use Rattle.cycles.specs.Meaning.{OneRun}
use Rattle.cut.specs.declared.Cut.{Cut}
use Rattle.cut.specs.Checks.{cut_checks}
use Rattle.nets.specs.Lists.{bit}
use Rattle.nets.specs.Net.{Net}
use Rattle.nets.specs.State.{State}
use Rattle.nets.specs.Actions.{Action, feed, drain, ready, room, step}
use Rattle.nets.specs.Rounds.{rule_count, rule, round_fires, after_round, run}
use Rattle.nets.specs.Orders.{Entry, order}
use Rattle.nets.specs.Networks.{network_of}
use Rattle.nets.specs.Kept.{Kept}
use Rattle.demand.specs.History.{Past, state_after, past_after}
use Rattle.demand.specs.Totals.{total}

-- queue q is an input's; a channel or an output's; an input's or a channel; an output's
abbrev pub IsInput : Net → ℕ → Type 0
IsInput N q = q < N.ins

abbrev pub IsPut : Net → ℕ → Type 0
IsPut N q = (N.ins ≤ q) × (q < N.queues)

abbrev pub IsTaken : Net → ℕ → Type 0
IsTaken N q = q + N.outs < N.queues

abbrev pub IsOutput : Net → ℕ → Type 0
IsOutput N q = (N.queues ≤ q + N.outs) × (q < N.queues)

-- tokens are x 1, x 2, .., as far as they go
abbrev pub Follows : List ℕ → (ℕ → ℕ) → Type 0
Follows tokens x = (j : ℕ) → j < length tokens → get_or tokens j 0 ≡ x (suc j)

-- ---- faithful

-- the input streams begin with the fed tokens
abbrev pub Begins : Net → (ℕ → ℕ → ℕ) → Past → Type 0
Begins N s h = (q : ℕ) → IsInput N q → Follows (h.came q) (s (N.node q))

-- v being the drawing's run on such streams
pub record Faithful (N : Net) (v : ℕ → ℕ → ℕ) (s : State) (h : Past) : Type 0 where
  -- what was put on a channel or an output are its node's values of cycles 1, 2, ..: one for each finished cycle, and one more with the flag on
  pub puts : (q : ℕ) → IsPut N q → Follows (h.came q) (λ n. v n (N.node q))
  pub many : (q : ℕ) → IsPut N q → length (h.came q) ≡ s.count (N.from q) + bit (s.flag q)
  -- what was drained from an output, or taken from a channel, likewise
  pub takes : (q : ℕ) → IsPut N q → Follows (h.went q) (λ n. v n (N.node q))
  -- a queue into a part gave one token for each cycle that the part finished
  pub taken : (q : ℕ) → IsTaken N q → length (h.went q) ≡ s.count (N.into q)
  -- what came is what went and, behind it, what the queue holds, which is never more than its depth
  pub holds : (q : ℕ) → h.came q ≡ h.went q ++ s.queue q
  pub fits : (q : ℕ) → length (s.queue q) ≤ N.depth q
  -- a REG holds its value of the cycle that its part is in
  pub regs : (i k a : ℕ) → i < N.draw.nodes → N.draw.kind i ≡ register k a → s.held i ≡ v (suc (s.count (N.part i))) i

-- ---- live

-- m cycles are within the limit, every input was fed m tokens, every output queue has room, and some part has finished fewer than m
pub record Waits (N : Net) (m : ℕ) (s : State) (h : Past) : Type 0 where
  pub within : m ≤ N.limit
  pub fed : (q : ℕ) → IsInput N q → m ≤ length (h.came q)
  pub space : (q : ℕ) → IsOutput N q → room N s q ≡ true
  pub who : ℕ
  pub is_part : who < N.parts
  pub behind : s.count who < m

-- then some rule is ready
pub record SomeReady (N : Net) (s : State) : Type 0 where
  pub number : ℕ
  pub is_rule : number < rule_count N
  pub is_ready : ready N s (rule N number) ≡ true

-- ---- the firing sum

-- What a fire, a round, a run or an order counts as fired is what it adds to the sum; a feed and a drain add nothing.
pub record Counts (N : Net) (s : State) : Type 0 where
  pub feeds : (q x : ℕ) → total N s ≡ total N (step N s (feed q x))
  pub drains : (q : ℕ) → total N s ≡ total N (step N s (drain q))
  pub fire : (r : ℕ) → total N s + bit (ready N s (rule N r)) ≡ total N (step N s (rule N r))
  pub round : total N s + round_fires N s ≡ total N (after_round N s)
  pub runs : (k : ℕ) → total N s + (run N s k).firings ≡ total N (run N s k).state
  pub orders : (e : ℕ → Entry) (k : ℕ) → total N s + (order N s e k).firings ≡ total N (order N s e k).state

-- ---- the whole

-- of a netlist n and its network N, after any actions xs
pub record Demand3 (n : Netlist) (N : Net) : Type 0 where
  -- there are streams that begin with the fed tokens, and each choice of streams has one run
  pub streams : (xs : List Action) → (s : ℕ → ℕ → ℕ) × Begins N s (past_after N xs)
  pub runs : (s : ℕ → ℕ → ℕ) → OneRun n s
  -- the network is faithful to it
  pub faithful : (xs : List Action) (s v : ℕ → ℕ → ℕ) → Begins N s (past_after N xs) → Runs (drawing n) s v → Faithful N v (state_after N xs) (past_after N xs)
  -- while parts wait some rule is ready, and a round fires at least one
  pub live : (xs : List Action) (m : ℕ) → Waits N m (state_after N xs) (past_after N xs) → SomeReady N (state_after N xs)
  pub fires : (xs : List Action) (m : ℕ) → Waits N m (state_after N xs) (past_after N xs) → 0 < round_fires N (state_after N xs)
  -- firings since opening are the firing sum, to which calls add what they count, in any state
  pub sum : (xs : List Action) → (past_after N xs).fired ≡ total N (state_after N xs)
  pub counts : (s : State) → Counts N s
  -- queues within their depths, values within their widths, cycles within the limit
  pub kept : (xs : List Action) → Kept n N (state_after N xs)

abbrev pub EachDemand3 : Type 0
EachDemand3 = (n : Netlist) (c : Cut) → AllGood (net_checks n) → AllGood (cut_checks n c) → (limit : ℕ) → Demand3 n (network_of n c limit)
