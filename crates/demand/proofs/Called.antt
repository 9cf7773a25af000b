-- Calls one after the other: each leaves the arrays of a play from a given network, which is given again; so all of them leave the arrays of one play.
use mathlib.Core.Path.{◌≡◌, refl, sym, ◌∙◌, ap}
use mathlib.Core.List.{List, [], ◌∷◌, ◌++◌}
use Prim.Native.Nat.{ℕ, zero, suc}
use Rattle.nets.specs.Net.{Net}
use Rattle.nets.specs.State.{State}
use Rattle.nets.specs.Actions.{Action, play}
use Rattle.nets.specs.Rounds.{in_order, run}
use Rattle.nets.proofs.Rounds.{rounds, play_append, run_plays}
use Rattle.nets.proofs.Orders.{order_plays}
use Rattle.plans.specs.declared.Plan.{Plan}
use Rattle.lanes.specs.declared.Network.{Network}
use Rattle.spots.specs.Stores.{store_of, Given, net_of}
use Rattle.moves.proofs.Asking.{again}
use Rattle.moves.proofs.Feeding.{feed_means}
use Rattle.moves.proofs.Draining.{drain_means}
use Rattle.rounds.proofs.Firing.{fire_means}
use Rattle.rounds.proofs.Playing.{round_means, run_means}
use Rattle.orders.proofs.Ordering.{order_means}
use Rattle.opens.proofs.Fresh.{given}
use Rattle.demand.specs.Calls.{Call, feeds, drains, fires, round, runs, orders, left_by, after_calls, rounds_of, EachIsActions, actions_of, all_actions, EachCalled}

rounds_are : (N : Net) (k : ℕ) → rounds N k ≡ rounds_of N k
unfolding rounds rounds_of
rounds_are N zero = refl
rounds_are N (suc k) = ap (λ xs. in_order N ++ xs) (rounds_are N k)

run_acts : (N : Net) (s : State) (k : ℕ) → (run N s k).state ≡ play N s (rounds_of N (run N s k).rounds)
run_acts N s k = (run_plays N s k).0 ∙ ap (play N s) (rounds_are N (run N s k).rounds)

pub each_is_actions : EachIsActions
each_is_actions N s = record { rounds = refl; runs = run_acts N s; orders = order_plays N s }

-- one call
left_is : {P : Plan} {L : Network} (G : Given P L) (c : Call) → left_by P L c ≡ store_of (play (net_of G) G.s (actions_of (net_of G) G.s c))
left_is {P} {L} G (feeds j x) = (feed_means P L G j x).1
left_is {P} {L} G (drains j) = (drain_means P L G j).left_is
left_is {P} {L} G (fires r) = (fire_means P L G r).1
left_is {P} {L} G round = (round_means P L G).1
left_is {P} {L} G (runs k) = (run_means P L G k).left_is ∙ ap store_of (run_acts (net_of G) G.s k)
left_is {P} {L} G (orders e lent n) = (order_means P L G e lent n).left_is ∙ ap store_of (order_plays (net_of G) G.s e n)

-- all of them
all_left : (cs : List Call) {P : Plan} {L : Network} (G : Given P L) → after_calls P L cs ≡ store_of (play (net_of G) G.s (all_actions (net_of G) G.s cs))
unfolding after_calls all_actions play
all_left [] G = G.holds
all_left (c ∷ cs) {P} {L} G =
    let N : Net = net_of G in
    let xs : List Action = actions_of N G.s c in
    let H : Given P (left_by P L c) = again G (left_by P L c) xs (left_is G c) in
    all_left cs H ∙ ap store_of (sym (play_append N G.s xs (all_actions N (play N G.s xs) cs)))

pub each_called : EachCalled
each_called net cut limit z cs = all_left cs (given net cut limit z)
