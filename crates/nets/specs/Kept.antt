-- The states that actions reach, and what each of them keeps to, so that its arrays can hold it.
use Rattle.std.specs.Prelude.{◌≡◌, false, List, [], ℕ, ◌≤◌, ◌<◌, ◌^◌, length, get_or}
use Rattle.base.specs.Checks.{AllGood}
use Rattle.netlist.specs.declared.Netlist.{Netlist}
use Rattle.netlist.specs.Checks.{net_checks}
use Rattle.cycles.specs.Netlists.{width_of}
use Rattle.cycles.specs.Steps.{register_at}
use Rattle.cut.specs.declared.Cut.{Cut}
use Rattle.cut.specs.Checks.{cut_checks}
use Rattle.nets.specs.Net.{Net}
use Rattle.nets.specs.State.{State, fresh}
use Rattle.nets.specs.Actions.{Action, step, play}
use Rattle.nets.specs.Rounds.{run}
use Rattle.nets.specs.Orders.{Entry, order}
use Rattle.nets.specs.Networks.{network_of}

-- a fresh network, after some actions
pub record Reached (N : Net) (s : State) : Type 0 where
  pub actions : List Action
  pub is : s ≡ play N (fresh N) actions

-- Calls go from such a state to such a state.
pub record Reaching (N : Net) : Type 0 where
  pub at_first : Reached N (fresh N)
  pub more : (s : State) → Reached N s → (xs : List Action) → Reached N (play N s xs)
  pub one : (s : State) → Reached N s → (a : Action) → Reached N (step N s a)
  pub runs : (s : State) → Reached N s → (k : ℕ) → Reached N (run N s k).state
  pub orders : (s : State) → Reached N s → (e : ℕ → Entry) (k : ℕ) → Reached N (order N s e k).state

-- what a state keeps to
pub record Kept (n : Netlist) (N : Net) (s : State) : Type 0 where
  -- no queue holds more than its depth, and what is no queue holds nothing and has its flag off
  pub fits : (q : ℕ) → length (s.queue q) ≤ N.depth q
  pub empty : (q : ℕ) → N.queues ≤ q → s.queue q ≡ []
  pub off : (q : ℕ) → N.queues ≤ q → s.flag q ≡ false
  -- every token and every register is below 2^w, w being its node's width
  pub tokens : (q j : ℕ) → get_or (s.queue q) j 0 < 2 ^ width_of n (N.node q)
  pub regs : (i : ℕ) → s.held i < 2 ^ width_of n i
  -- zero where a node is no register, and past the nodes
  pub other : (i : ℕ) → (i < n.nodes → register_at n i ≡ false) → s.held i ≡ 0
  -- no part has finished more cycles than the limit, and what is no part none
  pub counts : (p : ℕ) → s.count p ≤ N.limit
  pub idle : (p : ℕ) → N.parts ≤ p → s.count p ≡ 0

-- the fresh network does, and every action keeps it
abbrev pub FreshIsKept : Type 0
FreshIsKept = (n : Netlist) (c : Cut) → AllGood (net_checks n) → AllGood (cut_checks n c) → (limit : ℕ) → Kept n (network_of n c limit) (fresh (network_of n c limit))

abbrev pub StepsAreKept : Type 0
StepsAreKept =
    (n : Netlist) (c : Cut)
    → AllGood (net_checks n)
    → AllGood (cut_checks n c)
    → (limit : ℕ) (s : State) (a : Action)
    → Kept n (network_of n c limit) s
    → Kept n (network_of n c limit) (step (network_of n c limit) s a)

abbrev pub PlaysAreKept : Type 0
PlaysAreKept =
    (n : Netlist) (c : Cut)
    → AllGood (net_checks n)
    → AllGood (cut_checks n c)
    → (limit : ℕ) (s : State) (xs : List Action)
    → Kept n (network_of n c limit) s
    → Kept n (network_of n c limit) (play (network_of n c limit) s xs)

-- so every state that is reached does
abbrev pub ReachedIsKept : Type 0
ReachedIsKept =
    (n : Netlist) (c : Cut)
    → AllGood (net_checks n)
    → AllGood (cut_checks n c)
    → (limit : ℕ) (s : State)
    → Reached (network_of n c limit) s
    → Kept n (network_of n c limit) s
