-- Orders: lists of actions as a caller writes them, by kind, index and value (outline, "Rules of the network").
use Rattle.std.specs.Prelude.{cond, List, [], ◌∷◌, ◌++◌, ℕ, zero, suc, ◌+◌, ◌-◌, eqb, ltb, get_or}
use Rattle.nets.specs.Lists.{bit}
use Rattle.nets.specs.Net.{Net}
use Rattle.nets.specs.State.{State}
use Rattle.nets.specs.Actions.{Action, feed, drain, put, finish, ready, done}
use Rattle.nets.specs.Rounds.{rule_count, rule}

-- kinds 0 feed, 1 drain, 2 fire; only a feed's value counts
pub record Entry : Type 0 where
  pub kind : ℕ
  pub index : ℕ
  pub value : ℕ

-- the kth of three lists of kinds, indexes and values
abbrev pub entry_at : List ℕ → List ℕ → List ℕ → ℕ → Entry
entry_at kinds indexes values k = record { kind = get_or kinds k 0; index = get_or indexes k 0; value = get_or values k 0 }

-- Inputs and outputs are each numbered from 0 in queue order: input j is queue j, output j this one.
abbrev pub output_queue : Net → ℕ → ℕ
output_queue N j = N.queues - N.outs + j

-- the action that an entry asks for; none where there is no such kind, input, output or rule
unfoldable pub asked : Net → Entry → List Action
asked N e =
    cond (eqb e.kind 0) (cond (ltb e.index N.ins) (feed e.index e.value ∷ []) [])
    (cond (eqb e.kind 1) (cond (ltb e.index N.outs) (drain (output_queue N e.index) ∷ []) [])
    (cond (eqb e.kind 2) (cond (ltb e.index (rule_count N)) (rule N e.index ∷ []) []) []))

-- what an order has done so far: the counts of feeds, drains and firings, and the drained values in order
pub record Played : Type 0 where
  pub state : State
  pub feeds : ℕ
  pub drains : ℕ
  pub firings : ℕ
  pub drained : List ℕ

abbrev pub begun : State → Played
begun s = record { state = s; feeds = 0; drains = 0; firings = 0; drained = [] }

-- an action done, and counted
unfoldable pub counted : Net → Played → Action → Played
counted N t (feed q x) =
    record { state = done N t.state (feed q x); feeds = suc t.feeds; drains = t.drains; firings = t.firings; drained = t.drained }
counted N t (drain q) =
    record {
      state = done N t.state (drain q);
      feeds = t.feeds;
      drains = suc t.drains;
      firings = t.firings;
      drained = t.drained ++ (get_or (t.state.queue q) 0 0 ∷ []);
    }
counted N t (put q) =
    record { state = done N t.state (put q); feeds = t.feeds; drains = t.drains; firings = suc t.firings; drained = t.drained }
counted N t (finish p) =
    record { state = done N t.state (finish p); feeds = t.feeds; drains = t.drains; firings = suc t.firings; drained = t.drained }

-- a refused action changes nothing and the next is tried
unfoldable pub tried : Net → Played → List Action → Played
tried N t [] = t
tried N t (a ∷ xs) = tried N (cond (ready N t.state a) (counted N t a) t) xs

-- the first n entries of an order
unfoldable pub order : Net → State → (ℕ → Entry) → ℕ → Played
order N s e zero = begun s
order N s e (suc n) = tried N (order N s e n) (asked N (e n))

-- how many of them are drains, done or not: a lent list must have as many places
unfoldable pub drains_asked : (ℕ → Entry) → ℕ → ℕ
drains_asked e zero = 0
drains_asked e (suc n) = drains_asked e n + bit (eqb (e n).kind 1)
