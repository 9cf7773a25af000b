-- Orders on a network's arrays: each entry a feed, a drain or a fire by its kind, one after the other, with the values drained so far (outline, "Rules of the
-- network", "Numbers given back"). What that is in the outline's words, for a network that earlier calls gave, is stated in Meaning.
use Rattle.std.specs.Prelude.{◌≡◌, Bool, cond, not, ◌&&◌, List, [], ◌∷◌, ℕ, zero, suc, ◌+◌, ◌-◌, ◌^◌, min, eqb, ltb, length, set, Result}
use Rattle.base.specs.Checks.{whole, verdict}
use Rattle.nets.specs.Lists.{bit}
use Rattle.nets.specs.Orders.{Entry, entry_at, drains_asked}
use Rattle.plans.specs.declared.Plan.{Plan}
use Rattle.lanes.specs.declared.Network.{Network}
use Rattle.refusals.specs.declared.Refusal.{Refusal}
use Rattle.refusals.specs.Numbers.{answered, valued}
use Rattle.moves.specs.Moves.{feed_answer, feed_left, drain_on, drain_left}
use Rattle.rounds.specs.Fires.{fire_answer, fire_left}
use Rattle.orders.specs.declared.Played.{Played}

-- ---- one entry

abbrev pub entry_of : ℕ → ℕ → ℕ → Entry
entry_of kind index value = record { kind = kind; index = index; value = value }

-- its answer, the value where it is a drain that is done, else 0, and what it leaves
pub record ActOn : Type 0 where
  pub answer : ℕ
  pub value : ℕ
  pub network : Network

abbrev pub acted : ℕ → ℕ → Network → ActOn
acted answer value M = record { answer = answer; value = value; network = M }

-- by its kind; another kind is refused as 12
unfoldable pub act_on : Plan → Network → Entry → ActOn
act_on P L e =
    cond (eqb e.kind 0) (acted (feed_answer P L e.index e.value) 0 (feed_left P L e.index e.value))
    (cond (eqb e.kind 1) (acted (drain_on P L e.index).answer (drain_on P L e.index).value (drain_left P L e.index))
    (cond (eqb e.kind 2) (acted (fire_answer P L e.index) 0 (fire_left P L e.index)) (acted 12 0 L)))

-- what trying it promises: that answer and that value, and the network afterwards
abbrev pub Acts : Plan → Network → Entry → Result ℕ Refusal → Network → Type 0
Acts P L e r M = (answered r ≡ (act_on P L e).answer) × (valued r ≡ (act_on P L e).value) × (M ≡ (act_on P L e).network)

-- ---- entry after entry

-- what is done so far: the network, the counts of feeds, drains and firings, and the lent list
pub record PlayedOn : Type 0 where
  pub network : Network
  pub feeds : ℕ
  pub drains : ℕ
  pub firings : ℕ
  pub lent : List ℕ

abbrev pub playing : Network → ℕ → ℕ → ℕ → List ℕ → PlayedOn
playing L feeds drains firings lent = record { network = L; feeds = feeds; drains = drains; firings = firings; lent = lent }

-- an entry of kind k, and done
abbrev pub done_as : ℕ → Entry → ActOn → Bool
done_as k e a = eqb a.answer 0 && eqb e.kind k

-- an entry tried, and counted where it is done; a drained value goes behind those before it
abbrev pub tried_on : PlayedOn → Entry → ActOn → PlayedOn
tried_on t e a =
    playing a.network (t.feeds + bit (done_as 0 e a)) (t.drains + bit (done_as 1 e a)) (t.firings + bit (done_as 2 e a))
    (cond (done_as 1 e a) (set t.lent t.drains a.value) t.lent)

-- a count after an entry, as a word holds it
abbrev pub grown : Bool → ℕ → ℕ
grown b n = min (n + bit b) (2 ^ 64 - 1)

-- what trying one entry promises, from the counts p
abbrev pub Tried : Plan → Network → List ℕ → Played → Entry → Played → Network → List ℕ → Type 0
Tried P L lent p e r M lent' =
    (r.answer ≡ p.answer)
    × (r.feeds ≡ grown (done_as 0 e (act_on P L e)) p.feeds)
    × (r.drains ≡ grown (done_as 1 e (act_on P L e)) p.drains)
    × (r.firings ≡ grown (done_as 2 e (act_on P L e)) p.firings)
    × (M ≡ (act_on P L e).network)
    × (lent' ≡ cond (done_as 1 e (act_on P L e)) (set lent p.drains (act_on P L e).value) lent)

-- the first n entries of an order
unfoldable pub order_on : Plan → Network → (ℕ → Entry) → List ℕ → ℕ → PlayedOn
order_on P L e lent zero = playing L 0 0 0 lent
order_on P L e lent (suc n) = tried_on (order_on P L e lent n) (e n) (act_on P (order_on P L e lent n).network (e n))

-- ---- the whole order

-- 12 for lists of unequal length, 16 for more drains than places
unfoldable pub order_checked : Bool → Bool → ℕ
order_checked even enough = (verdict ((12, whole even) ∷ (16, whole enough) ∷ [])).answer

abbrev pub order_answer : List ℕ → List ℕ → List ℕ → ℕ → ℕ
order_answer kinds indexes values places =
    order_checked (eqb (length kinds) (length indexes) && eqb (length kinds) (length values)) (not (ltb places (drains_asked (entry_at kinds indexes values) (length kinds))))

-- a refused order does nothing, and its counts are 0
abbrev pub refused_order : ℕ → Played
refused_order answer = record { answer = answer; feeds = 0; drains = 0; firings = 0 }

abbrev pub played_of : PlayedOn → Played
played_of t = record { answer = 0; feeds = t.feeds; drains = t.drains; firings = t.firings }

-- by the answer a, and what playing it comes to
abbrev pub OrderBy : ℕ → PlayedOn → Network → List ℕ → Played → Network → List ℕ → Type 0
OrderBy a t L lent r M lent' =
    (r ≡ cond (eqb a 0) (played_of t) (refused_order a)) × (M ≡ cond (eqb a 0) t.network L) × (lent' ≡ cond (eqb a 0) t.lent lent)

-- what an order promises: its answer and counts, the network afterwards, and the lent list afterwards
abbrev pub OrderPromise : Plan → Network → List ℕ → List ℕ → List ℕ → List ℕ → Played → Network → List ℕ → Type 0
OrderPromise P L kinds indexes values lent r M lent' =
    OrderBy (order_answer kinds indexes values (length lent)) (order_on P L (entry_at kinds indexes values) lent (length kinds)) L lent r M lent'
