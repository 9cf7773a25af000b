-- Demand 3 of what a host has: of every two sheets that opening accepts, and of every network that calls give after it. A call leaves a network that is given
-- again (FeedKeeps, DrainKeeps of `moves`; FireKeeps, RoundKeeps, RunKeeps of `rounds`; OrderKeeps of `orders`), so that this goes on: `Calls` says it of any list of calls.
use Rattle.std.specs.Prelude.{◌≡◌, List, ℕ}
use Rattle.net_sheet.specs.Reading.{net_of as sheetNet}
use Rattle.plans.specs.declared.Plan.{Plan}
use Rattle.lanes.specs.declared.Network.{Network}
use Rattle.spots.specs.Stores.{Given, net_of}
use Rattle.opens.specs.Opening.{opened}
use Rattle.opens.specs.Meaning.{net_for}
use Rattle.demand.specs.History.{state_after}
use Rattle.demand.specs.Demands.{Demand3}

-- every two sheets and cycle limit that are accepted
abbrev pub EachOpened : Type 0
EachOpened = (net cut : List ℕ) (limit : ℕ) → (opened net cut limit).answer ≡ 0 → Demand3 (sheetNet net) (net_for net cut limit)

-- every plan and network that calls gave: its arrays hold the state after the actions so far, of which demand 3 speaks
pub record Alongside {P : Plan} {L : Network} (G : Given P L) : Type 0 where
  pub demand : Demand3 G.n (net_of G)
  pub state_is : G.s ≡ state_after (net_of G) G.reached.actions

abbrev pub EachGiven : Type 0
EachGiven = (P : Plan) (L : Network) (G : Given P L) → Alongside G
