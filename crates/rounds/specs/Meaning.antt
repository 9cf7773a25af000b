-- What firing, rounds and runs mean, for a network that earlier calls gave: the network's rules in the outline's words.
use Rattle.std.specs.Prelude.{◌≡◌, ℕ}
use Rattle.nets.specs.Rounds.{round_fires, after_round, run}
use Rattle.plans.specs.declared.Plan.{Plan}
use Rattle.lanes.specs.declared.Network.{Network}
use Rattle.spots.specs.Stores.{store_of, Given, net_of}
use Rattle.spots.specs.Rounds.{round_on, fired_on}
use Rattle.moves.specs.Meaning.{fire_entry, answer_of, state_after, GivenAgain}
use Rattle.rounds.specs.Fires.{fire_answer, fire_left}
use Rattle.rounds.specs.Runs.{run_on}

-- firing a rule by its number: the answer, and the state afterwards
abbrev pub FireMeans : Type 0
FireMeans =
    (P : Plan) (L : Network) (G : Given P L) (r : ℕ)
    → (fire_answer P L r ≡ answer_of G (fire_entry r)) × (fire_left P L r ≡ store_of (state_after G (fire_entry r)))

-- a round
abbrev pub RoundMeans : Type 0
RoundMeans =
    (P : Plan) (L : Network) (G : Given P L)
    → (fired_on P L ≡ round_fires (net_of G) G.s) × (round_on P L ≡ store_of (after_round (net_of G) G.s))

-- a run of k rounds
pub record RanAs (P : Plan) (L : Network) (G : Given P L) (k : ℕ) : Type 0 where
  pub rounds_are : (run_on P L k).rounds ≡ (run (net_of G) G.s k).rounds
  pub firings_are : (run_on P L k).firings ≡ (run (net_of G) G.s k).firings
  pub left_is : (run_on P L k).network ≡ store_of (run (net_of G) G.s k).state

abbrev pub RunMeans : Type 0
RunMeans = (P : Plan) (L : Network) (G : Given P L) (k : ℕ) → RanAs P L G k

-- What each leaves is again a network that earlier calls gave.
abbrev pub FireKeeps : Type 0
FireKeeps = (P : Plan) (L : Network) (G : Given P L) (r : ℕ) → GivenAgain G (fire_left P L r) (state_after G (fire_entry r))

abbrev pub RoundKeeps : Type 0
RoundKeeps = (P : Plan) (L : Network) (G : Given P L) → GivenAgain G (round_on P L) (after_round (net_of G) G.s)

abbrev pub RunKeeps : Type 0
RunKeeps = (P : Plan) (L : Network) (G : Given P L) (k : ℕ) → GivenAgain G (run_on P L k).network (run (net_of G) G.s k).state
