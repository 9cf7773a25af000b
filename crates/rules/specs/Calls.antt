-- What the calls that work a network's rules promise. First by the definitions on its arrays, exact whatever the plan and the network hold; then in the outline's
-- words, for a plan and a network that earlier calls gave (`Given`): the answer to its entry in an order, and the arrays of the state after it.
use Rattle.std.specs.Prelude.{◌≡◌, cond, List, ◌++◌, ℕ, ltb, length, drop}
use Rattle.nets.specs.Rounds.{round_fires, after_round, run, Ran as NetRan}
use Rattle.nets.specs.Orders.{entry_at, order, Played as NetPlayed}
use Rattle.plans.specs.declared.Plan.{Plan}
use Rattle.lanes.specs.declared.Network.{Network}
use Rattle.spots.specs.Stores.{store_of, Given, net_of}
use Rattle.spots.specs.Rounds.{round_on, fired_on}
use Rattle.moves.specs.Meaning.{fire_entry, answer_of, state_after}
use Rattle.rounds.specs.declared.Ran.{Ran}
use Rattle.rounds.specs.Fires.{fire_answer, fire_left}
use Rattle.rounds.specs.Runs.{too_many, Runs}
use Rattle.orders.specs.declared.Played.{Played}
use Rattle.orders.specs.Orders.{order_answer, OrderPromise}

abbrev pub FireCall : Plan → Network → ℕ → ℕ → Network → Type 0
FireCall P L k r M =
    (r ≡ fire_answer P L k)
    × (M ≡ fire_left P L k)
    × ((G : Given P L) → (r ≡ answer_of G (fire_entry k)) × (M ≡ store_of (state_after G (fire_entry k))))

-- the answer that firing would give
abbrev pub ReadyCall : Plan → Network → ℕ → ℕ → Type 0
ReadyCall P L k r = (r ≡ fire_answer P L k) × ((G : Given P L) → r ≡ answer_of G (fire_entry k))

abbrev pub RoundCall : Plan → Network → ℕ → Network → Type 0
RoundCall P L r M =
    (r ≡ fired_on P L)
    × (M ≡ round_on P L)
    × ((G : Given P L) → (r ≡ round_fires (net_of G) G.s) × (M ≡ store_of (after_round (net_of G) G.s)))

-- 12 for more than 65,535 rounds, and then nothing is done
abbrev pub counts : NetRan → Ran
counts r = record { answer = 0; rounds = r.rounds; firings = r.firings }

abbrev pub RunCall : Plan → Network → ℕ → Ran → Network → Type 0
RunCall P L k r M =
    Runs P L k r M
    × ((G : Given P L)
    → (r ≡ cond (ltb 65535 k) too_many (counts (run (net_of G) G.s k))) × (M ≡ cond (ltb 65535 k) L (store_of (run (net_of G) G.s k).state)))

-- An order of three lists: 12 where their lengths differ, 16 where it has more drains than the lent list has places, and then none is tried. Else its entries are
-- tried in turn; drained values go to the lent list, from its start, and the rest of it stays.
abbrev pub played : NetPlayed → Played
played t = record { answer = 0; feeds = t.feeds; drains = t.drains; firings = t.firings }

abbrev pub Ordered : NetPlayed → List ℕ → Played → Network → List ℕ → Type 0
Ordered t lent r M lent' = (r ≡ played t) × (M ≡ store_of t.state) × (lent' ≡ t.drained ++ drop (length t.drained) lent)

abbrev pub OrderCall : Plan → Network → List ℕ → List ℕ → List ℕ → List ℕ → Played → Network → List ℕ → Type 0
OrderCall P L kinds indexes values lent r M lent' =
    OrderPromise P L kinds indexes values lent r M lent'
    × ((G : Given P L)
    → order_answer kinds indexes values (length lent) ≡ 0
    → Ordered (order (net_of G) G.s (entry_at kinds indexes values) (length kinds)) lent r M lent')
