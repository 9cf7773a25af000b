-- What an order means in the outline's words, for a network that earlier calls gave: the state, the counts and the drained values of its entries in turn.
use Rattle.std.specs.Prelude.{◌≡◌, List, ◌++◌, ℕ, ◌≤◌, length, drop}
use Rattle.nets.specs.Orders.{Entry, Played, order, drains_asked}
use Rattle.plans.specs.declared.Plan.{Plan}
use Rattle.lanes.specs.declared.Network.{Network}
use Rattle.spots.specs.Stores.{store_of, Given, net_of}
use Rattle.moves.specs.Meaning.{GivenAgain}
use Rattle.orders.specs.Orders.{order_on}

-- the first n entries, on the network that a given one is
abbrev pub order_by : {P : Plan} {L : Network} → Given P L → (ℕ → Entry) → ℕ → Played
order_by G e n = order (net_of G) G.s e n

pub record OrderedAs {P : Plan} {L : Network} (G : Given P L) (e : ℕ → Entry) (lent : List ℕ) (n : ℕ) : Type 0 where
  pub left_is : (order_on P L e lent n).network ≡ store_of (order_by G e n).state
  pub feeds_are : (order_on P L e lent n).feeds ≡ (order_by G e n).feeds
  pub drains_are : (order_on P L e lent n).drains ≡ (order_by G e n).drains
  pub firings_are : (order_on P L e lent n).firings ≡ (order_by G e n).firings
  -- drained values go to the lent list, from its start; the rest of it stays
  pub lent_is : drains_asked e n ≤ length lent → (order_on P L e lent n).lent ≡ (order_by G e n).drained ++ drop (length (order_by G e n).drained) lent

abbrev pub OrderMeans : Type 0
OrderMeans = (P : Plan) (L : Network) (G : Given P L) (e : ℕ → Entry) (lent : List ℕ) (n : ℕ) → OrderedAs G e lent n

-- What it leaves is again a network that earlier calls gave.
abbrev pub OrderKeeps : Type 0
OrderKeeps =
    (P : Plan) (L : Network) (G : Given P L) (e : ℕ → Entry) (lent : List ℕ) (n : ℕ)
    → GivenAgain G (order_on P L e lent n).network (order_by G e n).state
