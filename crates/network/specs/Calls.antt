-- What feeding and draining a network, and asking how it stands, promise. First by the definitions on its arrays, exact whatever the plan and the network hold;
-- then in the outline's words, for a plan and a network that earlier calls gave (`Given`): the answer to its entry in an order, and the arrays of the state
-- after it. What opening promises stands in `opens/specs/Opening`.
use Rattle.std.specs.Prelude.{◌≡◌, cond, ℕ, eqb, ltb, length, get_or}
use Rattle.nets.specs.Orders.{output_queue}
use Rattle.plans.specs.declared.Plan.{Plan}
use Rattle.lanes.specs.declared.Network.{Network}
use Rattle.spots.specs.Stores.{store_of, Given, net_of}
use Rattle.moves.specs.declared.Drained.{Drained}
use Rattle.moves.specs.declared.Told.{Told}
use Rattle.moves.specs.Moves.{feed_answer, feed_left, drain_on, drain_left, told, tokens_on, finished_on}
use Rattle.moves.specs.Meaning.{feed_entry, drain_entry, answer_of, state_after}

abbrev pub FeedCall : Plan → Network → ℕ → ℕ → ℕ → Network → Type 0
FeedCall P L j x r M =
    (r ≡ feed_answer P L j x)
    × (M ≡ feed_left P L j x)
    × ((G : Given P L) → (r ≡ answer_of G (feed_entry j x)) × (M ≡ store_of (state_after G (feed_entry j x))))

-- the oldest token where the drain is done, else 0
abbrev pub DrainCall : Plan → Network → ℕ → Drained → Network → Type 0
DrainCall P L j r M =
    (r ≡ drain_on P L j)
    × (M ≡ drain_left P L j)
    × ((G : Given P L)
    → (r.answer ≡ answer_of G (drain_entry j))
    × (r.value ≡ cond (eqb (answer_of G (drain_entry j)) 0) (get_or (G.s.queue (output_queue (net_of G) j)) 0 0) 0)
    × (M ≡ store_of (state_after G (drain_entry j))))

abbrev pub TokensCall : Plan → Network → ℕ → Told → Type 0
TokensCall P L q r = (r ≡ tokens_on P L q) × ((G : Given P L) → r ≡ told (ltb q (net_of G).queues) (length (G.s.queue q)))

abbrev pub FinishedCall : Plan → Network → ℕ → Told → Type 0
FinishedCall P L p r = (r ≡ finished_on P L p) × ((G : Given P L) → r ≡ told (ltb p (net_of G).parts) (G.s.count p))
