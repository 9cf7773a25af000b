-- From the promise by the definitions on arrays to that in the outline's words too, which those mean of a network that earlier calls gave.
use mathlib.Core.Path.{◌≡◌, ◌∙◌, ap, ap₂}
use mathlib.Core.Bool.{true, cond}
use mathlib.Core.List.{List}
use Prim.Native.Nat.{ℕ}
use lib.Dec.{eqb, ltb}
use lib.ListN.{length}
use Rattle.plans.specs.declared.Plan.{Plan}
use Rattle.lanes.specs.declared.Network.{Network}
use Rattle.rounds.specs.declared.Ran.{Ran}
use Rattle.rounds.specs.Fires.{fire_answer, Fired}
use Rattle.rounds.specs.Runs.{Rounded, too_many, Runs}
use Rattle.rounds.proofs.Firing.{fire_means}
use Rattle.rounds.proofs.Playing.{round_means, run_means}
use Rattle.nets.specs.Orders.{entry_at}
use Rattle.orders.specs.declared.Played.{Played}
use Rattle.orders.specs.Orders.{PlayedOn, order_on, order_answer, refused_order, played_of, OrderPromise}
use Rattle.orders.proofs.Turns.{drains-fit}
use Rattle.orders.proofs.Ordering.{order_means}
use Rattle.rules.specs.Calls.{OrderCall, FireCall, ReadyCall, RoundCall, RunCall}

pub fire-whole : (P : Plan) (L : Network) (k r : ℕ) (M : Network) → Fired P L k r M → FireCall P L k r M
fire-whole P L k r M e = (e.0, e.1, λ G. let t = fire_means P L G k in (e.0 ∙ t.0, e.1 ∙ t.1))

pub ready_whole : (P : Plan) (L : Network) (k r : ℕ) → r ≡ fire_answer P L k → ReadyCall P L k r
ready_whole P L k r e = (e, λ G. e ∙ (fire_means P L G k).0)

pub round_whole : (P : Plan) (L : Network) (r : ℕ) (M : Network) → Rounded P L r M → RoundCall P L r M
round_whole P L r M e = (e.0, e.1, λ G. let t = round_means P L G in (e.0 ∙ t.0, e.1 ∙ t.1))

pub run-whole : (P : Plan) (L : Network) (k : ℕ) (r : Ran) (M : Network) → Runs P L k r M → RunCall P L k r M
run-whole P L k r M e = (
  e,
  λ G. let t = run_means P L G k in (
    e.0 ∙ ap₂ (λ d f. cond (ltb 65535 k) too_many (record { answer = 0; rounds = d; firings = f })) t.rounds_are t.firings_are,
    e.1 ∙ ap (cond (ltb 65535 k) L) t.left_is,
  ),
)

pub order-whole : (P : Plan) (L : Network) (kinds indexes values lent : List ℕ) (r : Played) (M : Network) (lent' : List ℕ) → OrderPromise P L kinds indexes values lent r M lent'
    → OrderCall P L kinds indexes values lent r M lent'
order-whole P L kinds indexes values lent r M lent' e = (
  e,
  λ G z.
      let a : ℕ = order_answer kinds indexes values (length lent) in
      let t = order_means P L G (entry_at kinds indexes values) lent (length kinds) in
      let o : PlayedOn = order_on P L (entry_at kinds indexes values) lent (length kinds) in
      let b : eqb a 0 ≡ true = ap (λ x. eqb x 0) z in (
        e.0 ∙ ap (λ x. cond x (played_of o) (refused_order a)) b ∙ (λ i. record { answer = 0; feeds = t.feeds_are i; drains = t.drains_are i; firings = t.firings_are i }),
        e.1 ∙ ap (λ x. cond x o.network L) b ∙ t.left_is,
        e.2 ∙ ap (λ x. cond x o.lent lent) b ∙ t.lent_is (drains-fit kinds indexes values (length lent) z),
      ),
)
