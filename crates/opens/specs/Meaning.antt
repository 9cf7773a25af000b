-- What opening means: its refusals, exactly; and where it refuses nothing, that its plan and its arrays are those of the two sheets, in the fresh state.
use Rattle.std.specs.Prelude.{◌≡◌, ◌⊎◌, ◌↔◌, List, ℕ, ◌<◌}
use Rattle.std.specs.Prelude.{Some}
use Rattle.base.specs.Checks.{answered, found_by, AllGood, ExactAt}
use Rattle.net_sheet.specs.Reading.{net_of}
use Rattle.cut_sheet.specs.Reading.{cut_of}
use Rattle.nets.specs.Net.{Net}
use Rattle.nets.specs.State.{fresh}
use Rattle.nets.specs.Rounds.{rule_count}
use Rattle.nets.specs.Networks.{network_of}
use Rattle.spots.specs.Stores.{Given}
use Rattle.opens.specs.Opening.{open_checks, open_verdict, no_plan, no_network, opened}

-- For each of the twelve numbers, 1 to 11 and 15: the answer is that number, with the place p, if and only if all checks before are good and this one finds p.
abbrev pub OpenExact : Type 0
OpenExact = (net cut : List ℕ) (limit j p : ℕ) → j < 12 → ExactAt (open_checks net cut limit) j p

-- what opening gives back is that answer and that place
abbrev pub OpenAnswers : Type 0
OpenAnswers = (net cut : List ℕ) (limit : ℕ) → answered (opened net cut limit).answer (opened net cut limit).place ≡ open_verdict net cut limit

-- 0 if and only if all checks are good
abbrev pub OpenDone : Type 0
OpenDone = (net cut : List ℕ) (limit : ℕ) → ((opened net cut limit).answer ≡ 0) ↔ AllGood (open_checks net cut limit)

-- what check 15 finds: a cycle limit outside its numbers
abbrev pub LimitMeans : Type 0
LimitMeans = (net cut : List ℕ) (limit p : ℕ) → (found_by (open_checks net cut limit) 11 ≡ Some p) ↔ (((limit ≡ 0) ⊎ (4000000000 < limit)) × (p ≡ 0))

-- A refusal opens nothing.
abbrev pub RefusedIsZeros : Type 0
RefusedIsZeros =
    (net cut : List ℕ) (limit : ℕ)
    → ((opened net cut limit).answer ≡ 0 → ⊥)
    → ((opened net cut limit).plan ≡ no_plan) × ((opened net cut limit).network ≡ no_network)

-- the network of parts and queues that two sheets say
abbrev pub net_for : List ℕ → List ℕ → ℕ → Net
net_for net cut limit = network_of (net_of net) (cut_of cut) limit

-- The plan and the arrays are such as later calls make their promises for: of the netlist and the cut that the sheets say, of that limit, in the fresh state.
pub record OpenedFresh (net cut : List ℕ) (limit : ℕ) : Type 0 where
  pub given : Given (opened net cut limit).plan (opened net cut limit).network
  pub net_is : given.n ≡ net_of net
  pub cut_is : given.c ≡ cut_of cut
  pub limit_is : given.limit ≡ limit
  pub state_is : given.s ≡ fresh (net_for net cut limit)

abbrev pub OpenGiven : Type 0
OpenGiven = (net cut : List ℕ) (limit : ℕ) → (opened net cut limit).answer ≡ 0 → OpenedFresh net cut limit

-- the plan's numbers are that network's
pub record CountedAs (net cut : List ℕ) (limit : ℕ) : Type 0 where
  pub nodes : (opened net cut limit).plan.nodes ≡ (net_of net).nodes
  pub parts : (opened net cut limit).plan.parts ≡ (net_for net cut limit).parts
  pub queues : (opened net cut limit).plan.queues ≡ (net_for net cut limit).queues
  pub rules : (opened net cut limit).plan.rules ≡ rule_count (net_for net cut limit)

abbrev pub RulesCounted : Type 0
RulesCounted = (net cut : List ℕ) (limit : ℕ) → (opened net cut limit).answer ≡ 0 → CountedAs net cut limit
