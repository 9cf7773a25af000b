-- What feeds and drains have in common: arrays that change exactly where the action that is asked for is ready hold the state after it, and a network in
-- such a state is given again.
use mathlib.Core.Path.{◌≡◌, refl, sym, ap, ap₂, ◌∙◌}
use mathlib.Core.Bool.{Bool, true, false, cond}
use mathlib.Core.List.{List, [], ◌∷◌}
use Prim.Native.Nat.{ℕ}
use Rattle.nets.specs.Net.{Net}
use Rattle.nets.specs.State.{State}
use Rattle.nets.specs.Actions.{Action, ready, done, step, play}
use Rattle.nets.specs.Calls.{some_ready}
use Rattle.nets.specs.Stored.{cells_of, used_of, flags_of, held_of, counts_of}
use Rattle.nets.proofs.Facts.{split-on}
use Rattle.nets.proofs.Kept.{reaching}
use Rattle.plans.specs.declared.Plan.{Plan}
use Rattle.lanes.specs.declared.Network.{Network}
use Rattle.spots.specs.Stores.{net_in, store_of, Given, net_of}

-- b is whether there is such an input, output or rule, and a its action
pub left_by_lem : (N : Net) (s : State) (b : Bool) (a : Action) (new : Network) → (b ≡ true → ready N s a ≡ true → new ≡ store_of (done N s a))
    → cond (some_ready N s (cond b (a ∷ []) [])) new (store_of s) ≡ store_of (play N s (cond b (a ∷ []) []))
unfolding play step
left_by_lem N s true a new f = split-on (λ t. cond t new (store_of s) ≡ store_of (cond t (done N s a) s)) (ready N s a) (f refl) (λ _. refl)
left_by_lem N s false a new f = refl

-- a new queue store, the rest as it was
pub stores : (t : State) (a b : List ℕ) (f : List Bool) (u v : List ℕ) → a ≡ cells_of t → b ≡ used_of t
    → (flags_of t ≡ f) × (held_of t ≡ u) × (counts_of t ≡ v) → net_in a b f u v ≡ store_of t
stores t a b f u v x y r = ap₂ (λ a b. net_in a b f u v) x y ∙ sym (ap₂ (λ f u. net_in (cells_of t) (used_of t) f u (counts_of t)) r.0 r.1 ∙ ap (net_in (cells_of t) (used_of t) f u) r.2)

-- what later calls ask for, its fields written out
abbrev pub again : {P : Plan} {L : Network} (G : Given P L) (M : Network) (xs : List Action) → M ≡ store_of (play (net_of G) G.s xs) → Given P M
again G M xs e =
    record {
      n = G.n;
      c = G.c;
      limit = G.limit;
      s = play (net_of G) G.s xs;
      net_good = G.net_good;
      cut_good = G.cut_good;
      small = G.small;
      reached = (reaching (net_of G)).more G.s G.reached xs;
      plan = G.plan;
      holds = e;
    }
