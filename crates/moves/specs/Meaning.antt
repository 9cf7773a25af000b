-- What feeds, drains and questions mean in the outline's words, for a network that earlier calls gave: the answer and the state of its entry in an order.
use Rattle.std.specs.Prelude.{◌≡◌, cond, ℕ, eqb, ltb, length, get_or}
use Rattle.nets.specs.State.{State}
use Rattle.nets.specs.Actions.{play}
use Rattle.nets.specs.Orders.{Entry, output_queue, asked}
use Rattle.nets.specs.Calls.{answer_to}
use Rattle.plans.specs.declared.Plan.{Plan}
use Rattle.lanes.specs.declared.Network.{Network}
use Rattle.spots.specs.Stores.{store_of, Given, net_of}
use Rattle.moves.specs.Moves.{feed_answer, feed_left, drain_on, drain_left, told, tokens_on, finished_on}

-- ---- calls as entries of an order

abbrev pub feed_entry : ℕ → ℕ → Entry
feed_entry j x = record { kind = 0; index = j; value = x }

abbrev pub drain_entry : ℕ → Entry
drain_entry j = record { kind = 1; index = j; value = 0 }

abbrev pub fire_entry : ℕ → Entry
fire_entry r = record { kind = 2; index = r; value = 0 }

-- what a given network answers to an entry, and its state after it
abbrev pub answer_of : {P : Plan} {L : Network} → Given P L → Entry → ℕ
answer_of G e = answer_to (net_of G) G.s e

abbrev pub state_after : {P : Plan} {L : Network} → Given P L → Entry → State
state_after G e = play (net_of G) G.s (asked (net_of G) e)

-- ---- what each call gives

abbrev pub FeedMeans : Type 0
FeedMeans =
    (P : Plan) (L : Network) (G : Given P L) (j x : ℕ)
    → (feed_answer P L j x ≡ answer_of G (feed_entry j x)) × (feed_left P L j x ≡ store_of (state_after G (feed_entry j x)))

-- a drain that is done gives the oldest token, any other 0
pub record DrainedAs {P : Plan} {L : Network} (G : Given P L) (j : ℕ) : Type 0 where
  pub answer_is : (drain_on P L j).answer ≡ answer_of G (drain_entry j)
  pub value-is : (drain_on P L j).value ≡ cond (eqb (answer_of G (drain_entry j)) 0) (get_or (G.s.queue (output_queue (net_of G) j)) 0 0) 0
  pub left_is : drain_left P L j ≡ store_of (state_after G (drain_entry j))

abbrev pub DrainMeans : Type 0
DrainMeans = (P : Plan) (L : Network) (G : Given P L) (j : ℕ) → DrainedAs G j

abbrev pub TokensMeans : Type 0
TokensMeans = (P : Plan) (L : Network) (G : Given P L) (q : ℕ) → tokens_on P L q ≡ told (ltb q (net_of G).queues) (length (G.s.queue q))

abbrev pub FinishedMeans : Type 0
FinishedMeans = (P : Plan) (L : Network) (G : Given P L) (p : ℕ) → finished_on P L p ≡ told (ltb p (net_of G).parts) (G.s.count p)

-- ---- what is left is given again, for the calls after it: of the same drawing, cut and limit, in the state t

pub record GivenAgain {P : Plan} {L : Network} (G : Given P L) (M : Network) (t : State) : Type 0 where
  pub given : Given P M
  pub net_is : given.n ≡ G.n
  pub cut_is : given.c ≡ G.c
  pub limit_is : given.limit ≡ G.limit
  pub state_is : given.s ≡ t

abbrev pub FeedKeeps : Type 0
FeedKeeps = (P : Plan) (L : Network) (G : Given P L) (j x : ℕ) → GivenAgain G (feed_left P L j x) (state_after G (feed_entry j x))

abbrev pub DrainKeeps : Type 0
DrainKeeps = (P : Plan) (L : Network) (G : Given P L) (j : ℕ) → GivenAgain G (drain_left P L j) (state_after G (drain_entry j))
