-- Whatever calls a host makes on a network that it opened, in whatever order: the arrays that they leave are those of the state after a list of actions, of which
-- demand 3 speaks, and what is drained from an output is what the history has of it.
use Rattle.std.specs.Prelude.{◌≡◌, cond, ◌&&◌, List, [], ◌∷◌, ◌++◌, ℕ, zero, suc, ◌≤◌, eqb, get_or}
use Rattle.queues.specs.Lists.{listed}
use Rattle.nets.specs.Net.{Net}
use Rattle.nets.specs.State.{State, fresh}
use Rattle.nets.specs.Actions.{Action, feed, drain, put, finish, ready, step, play}
use Rattle.nets.specs.Rounds.{in_order, after_round, run}
use Rattle.nets.specs.Orders.{Entry, asked, order}
use Rattle.plans.specs.declared.Plan.{Plan}
use Rattle.lanes.specs.declared.Network.{Network}
use Rattle.spots.specs.Stores.{store_of}
use Rattle.spots.specs.Rounds.{round_on}
use Rattle.moves.specs.Moves.{feed_left, drain_left}
use Rattle.moves.specs.Meaning.{feed_entry, drain_entry, fire_entry}
use Rattle.rounds.specs.Fires.{fire_left}
use Rattle.rounds.specs.Runs.{run_on}
use Rattle.orders.specs.Orders.{order_on}
use Rattle.opens.specs.Opening.{opened}
use Rattle.opens.specs.Meaning.{net_for}
use Rattle.demand.specs.History.{state_after, past_after}

-- ---- calls

-- A run of more than 65,535 rounds and an order that is refused as a whole do nothing, and are left out here.
pub data Call : Type 0 where
  feeds : ℕ → ℕ → Call
  drains : ℕ → Call
  fires : ℕ → Call
  round : Call
  runs : ℕ → Call
  -- the first n entries, with a lent list
  orders : (ℕ → Entry) → List ℕ → ℕ → Call

-- what a call leaves, by its promise on any arrays
abbrev pub left_by : Plan → Network → Call → Network
left_by P L (feeds j x) = feed_left P L j x
left_by P L (drains j) = drain_left P L j
left_by P L (fires r) = fire_left P L r
left_by P L round = round_on P L
left_by P L (runs k) = (run_on P L k).network
left_by P L (orders e lent n) = (order_on P L e lent n).network

unfoldable pub after_calls : Plan → Network → List Call → Network
after_calls P L [] = L
after_calls P L (c ∷ cs) = after_calls P (left_by P L c) cs

-- the actions of k rounds, of an order, and of a call
unfoldable pub rounds_of : Net → ℕ → List Action
rounds_of N zero = []
rounds_of N (suc k) = in_order N ++ rounds_of N k

abbrev pub order_actions : Net → (ℕ → Entry) → ℕ → List Action
order_actions N e n = listed n (λ k. asked N (e k))

-- Rounds, runs and orders are these lists.
pub record AsActions (N : Net) (s : State) : Type 0 where
  pub rounds : after_round N s ≡ play N s (in_order N)
  pub runs : (k : ℕ) → (run N s k).state ≡ play N s (rounds_of N (run N s k).rounds)
  pub orders : (e : ℕ → Entry) (n : ℕ) → (order N s e n).state ≡ play N s (order_actions N e n)

abbrev pub EachIsActions : Type 0
EachIsActions = (N : Net) (s : State) → AsActions N s

abbrev pub actions_of : Net → State → Call → List Action
actions_of N s (feeds j x) = asked N (feed_entry j x)
actions_of N s (drains j) = asked N (drain_entry j)
actions_of N s (fires r) = asked N (fire_entry r)
actions_of N s round = in_order N
actions_of N s (runs k) = rounds_of N (run N s k).rounds
actions_of N s (orders e lent n) = order_actions N e n

unfoldable pub all_actions : Net → State → List Call → List Action
all_actions N s [] = []
all_actions N s (c ∷ cs) = actions_of N s c ++ all_actions N (play N s (actions_of N s c)) cs

-- Two sheets that are opened, and then any calls: the arrays are those of the state after their actions.
abbrev pub EachCalled : Type 0
EachCalled =
    (net cut : List ℕ) (limit : ℕ)
    → (opened net cut limit).answer ≡ 0
    → (cs : List Call)
    → after_calls (opened net cut limit).plan (opened net cut limit).network cs ≡ store_of (state_after (net_for net cut limit) (all_actions (net_for net cut limit) (fresh (net_for net cut limit)) cs))

-- ---- what is drained

-- the values that the drains of a list give, where they are done
abbrev pub drained : Net → State → Action → List ℕ
drained N s (feed q x) = []
drained N s (drain q) = cond (ready N s (drain q)) (get_or (s.queue q) 0 0 ∷ []) []
drained N s (put q) = []
drained N s (finish p) = []

unfoldable pub drained_by : Net → State → List Action → List ℕ
drained_by N s [] = []
drained_by N s (a ∷ xs) = drained N s a ++ drained_by N (step N s a) xs

-- those of queue q alone
abbrev pub drained_at : Net → State → ℕ → Action → List ℕ
drained_at N s q (feed p x) = []
drained_at N s q (drain p) = cond (ready N s (drain p) && eqb p q) (get_or (s.queue p) 0 0 ∷ []) []
drained_at N s q (put p) = []
drained_at N s q (finish p) = []

unfoldable pub drained_from : Net → State → ℕ → List Action → List ℕ
drained_from N s q [] = []
drained_from N s q (a ∷ xs) = drained_at N s q a ++ drained_from N (step N s a) q xs

-- An order gives what its drains give; and what drains took from an output since opening is what the history has for it, of which `Faithful` speaks.
abbrev pub OrderDrains : Type 0
OrderDrains = (N : Net) (s : State) (e : ℕ → Entry) (n : ℕ) → (order N s e n).drained ≡ drained_by N s (order_actions N e n)

abbrev pub OutputsDrained : Type 0
OutputsDrained = (N : Net) (xs : List Action) (q : ℕ) → N.parts ≤ N.into q → (past_after N xs).went q ≡ drained_from N (fresh N) q xs
