-- The outline's bench example as a network: what its rules do, round by round.
use Rattle.std.specs.Prelude.{◌≡◌, true, false, List, [], ◌∷◌, map, ℕ, get_or}
use Rattle.cycles.specs.Bench.{bench}
use Rattle.cut.specs.declared.Cut.{Cut}
use Rattle.nets.specs.Net.{Net}
use Rattle.nets.specs.State.{State, fresh}
use Rattle.nets.specs.Actions.{feed, ready, play}
use Rattle.nets.specs.Rounds.{rule_count, in_order, round_fires, after_round, run}
use Rattle.nets.specs.Orders.{Entry, order}
use Rattle.nets.specs.Networks.{network_of}

abbrev pub bench_cut : Cut
bench_cut = record { nodes = 4; part = 0 ∷ 1 ∷ 0 ∷ 1 ∷ []; queues = 5; depth = 1 ∷ 1 ∷ 1 ∷ 1 ∷ 1 ∷ []; labels = 0; label = [] }

abbrev pub bench_net : Net
bench_net = network_of bench bench_cut 4000000000

-- after the input 10
abbrev pub fed : State
fed = play bench_net (fresh bench_net) (feed 0 10 ∷ [])

-- an order by its entries; a kind 3 for what comes after them
abbrev pub entries : List Entry → ℕ → Entry
entries es k = get_or es k (record { kind = 3; index = 0; value = 0 })

abbrev pub asks : ℕ → ℕ → ℕ → Entry
asks kind index value = record { kind = kind; index = index; value = value }

-- the input, rules 0, 3 and 2, both outputs drained, the second again, and kinds and indexes that are not there
abbrev pub some_order : List Entry
some_order = asks 0 0 10 ∷ asks 2 0 0 ∷ asks 2 3 0 ∷ asks 2 2 0 ∷ asks 1 0 0 ∷ asks 1 1 0 ∷ asks 1 1 0 ∷ asks 0 1 7 ∷ asks 3 0 0 ∷ asks 2 6 0 ∷ []

pub record BenchRules : Type 0 where
  pub sizes : (bench_net.parts ≡ 2) × (bench_net.queues ≡ 5) × (rule_count bench_net ≡ 6)
  -- before any feed, rules 0 and 3 are ready and no others
  pub at_first : map (ready bench_net (fresh bench_net)) (in_order bench_net) ≡ true ∷ false ∷ false ∷ true ∷ false ∷ false ∷ []
  -- the first round fires 6, and gives 15 and 250
  pub six : round_fires bench_net fed ≡ 6
  pub gives : ((after_round bench_net fed).queue 3 ≡ 15 ∷ []) × ((after_round bench_net fed).queue 4 ≡ 250 ∷ [])
  -- without drains, a second round fires 1 and a third 0: a run stops there
  pub stops : ((run bench_net fed 10).rounds ≡ 3) × ((run bench_net fed 10).firings ≡ 7)
  pub orders : ((order bench_net (fresh bench_net) (entries some_order) 10).feeds ≡ 1)
      × ((order bench_net (fresh bench_net) (entries some_order) 10).firings ≡ 3)
      × ((order bench_net (fresh bench_net) (entries some_order) 10).drained ≡ 15 ∷ 250 ∷ [])
