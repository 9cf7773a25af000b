-- What an order of actions promises: what the order of three lists does, of their kinds, their indexes and their values.
use Rattle.std.specs.Prelude.{List, map, ℕ}
use Rattle.nets.specs.Orders.{Entry, entry_at}
use Rattle.plans.specs.declared.Plan.{Plan}
use Rattle.lanes.specs.declared.Network.{Network}
use Rattle.orders.specs.declared.Played.{Played}
use Rattle.rules.specs.Calls.{OrderCall}
use Rattle.actions.specs.declared.Action.{Action}

-- what stands past the last action
abbrev pub none : Action
none = record { kind = 0; index = 0; value = 0 }

-- the three lists of an order of actions, and its entries
abbrev pub kinds_of : List Action → List ℕ
kinds_of actions = map (λ a. a.kind) actions

abbrev pub indexes_of : List Action → List ℕ
indexes_of actions = map (λ a. a.index) actions

abbrev pub values_of : List Action → List ℕ
values_of actions = map (λ a. a.value) actions

abbrev pub entries_of : List Action → ℕ → Entry
entries_of actions = entry_at (kinds_of actions) (indexes_of actions) (values_of actions)

-- the whole order: its lists have one length, so it is never refused as 12
abbrev pub ActionsCall : Plan → Network → List Action → List ℕ → Played → Network → List ℕ → Type 0
ActionsCall P L actions lent r M lent' = OrderCall P L (kinds_of actions) (indexes_of actions) (values_of actions) lent r M lent'
