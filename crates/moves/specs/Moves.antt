-- Feeds, drains and questions by a plan, on a network's arrays: the checks of each in the order of their numbers, and what it leaves. What that is in the outline's
-- words, for a network that earlier calls gave, is stated in Meaning.
use Rattle.std.specs.Prelude.{◌≡◌, Bool, cond, List, [], ◌∷◌, ℕ, ◌+◌, ◌*◌, ◌%◌, ◌^◌, min, eqb, ltb, get_or, Result}
use Rattle.base.specs.Checks.{whole, verdict}
use Rattle.refusals.specs.declared.Refusal.{Refusal}
use Rattle.refusals.specs.Numbers.{answered, valued}
use Rattle.lanes.specs.Lanes.{push_cells, push_used, take_cells, take_used}
use Rattle.plans.specs.declared.Plan.{Plan}
use Rattle.lanes.specs.declared.Network.{Network}
use Rattle.spots.specs.Stores.{net_in}
use Rattle.moves.specs.declared.Drained.{Drained}
use Rattle.moves.specs.declared.Told.{Told}

-- ---- feed: input j is queue j

-- by whether there is such an input, whether the value is below 2^w, and whether the queue has room
unfoldable pub feed_checked : Bool → Bool → Bool → ℕ
feed_checked there fits room = (verdict ((12, whole there) ∷ (13, whole fits) ∷ (14, whole room) ∷ [])).answer

abbrev pub feed_answer : Plan → Network → ℕ → ℕ → ℕ
feed_answer P L j x =
    feed_checked (ltb j (min P.inputs 512)) (ltb x (2 ^ get_or P.width (get_or P.node j 0 % 1024) 0)) (ltb (get_or L.used j 0) (get_or P.depth j 0))

-- the queue store changes where the answer is 0
unfoldable pub feed_left : Plan → Network → ℕ → ℕ → Network
feed_left P L j x = cond (eqb (feed_answer P L j x) 0) (net_in (push_cells L.cells L.used j x) (push_used L.used j) L.flag L.held L.count) L

-- what a feed promises: its answer, and the network afterwards
abbrev pub Fed : Plan → Network → ℕ → ℕ → ℕ → Network → Type 0
Fed P L j x answer M = (answer ≡ feed_answer P L j x) × (M ≡ feed_left P L j x)

-- ---- drain: output j has this queue; 512 where there is none

unfoldable pub output_at : ℕ → ℕ → ℕ → ℕ → ℕ
output_at inputs channels outputs j = cond (ltb j (min outputs 512)) (min (min inputs 512 + min channels 512 + j) 512) 512

abbrev pub output_on : Plan → ℕ → ℕ
output_on P j = output_at P.inputs P.channels P.outputs j

-- by whether there is such an output, and whether its queue has a token
unfoldable pub drain_checked : Bool → Bool → ℕ
drain_checked there some = (verdict ((12, whole there) ∷ (14, whole some) ∷ [])).answer

abbrev pub took_answer : ℕ → List ℕ → ℕ
took_answer q used = drain_checked (ltb q 512) (ltb 0 (get_or used q 0))

-- the answer, and the oldest token, 0 on a refusal
abbrev pub took : ℕ → List ℕ → List ℕ → Drained
took q cells used = record { answer = took_answer q used; value = cond (eqb (took_answer q used) 0) (get_or cells (q * 16) 0) 0 }

abbrev pub drain_on : Plan → Network → ℕ → Drained
drain_on P L j = took (output_on P j) L.cells L.used

unfoldable pub drain_left : Plan → Network → ℕ → Network
drain_left P L j =
    cond (eqb (drain_on P L j).answer 0) (net_in (take_cells L.cells (output_on P j)) (take_used L.used (output_on P j)) L.flag L.held L.count) L

-- a drain's result as C sees it
abbrev pub drained : Result ℕ Refusal → Drained
drained r = record { answer = answered r; value = valued r }

-- what a drain promises
abbrev pub Took : Plan → Network → ℕ → Drained → Network → Type 0
Took P L j r M = (r ≡ drain_on P L j) × (M ≡ drain_left P L j)

-- ---- what a bench hand asks: how many tokens a queue holds, and how many cycles a part has finished

-- a question's result as C sees it
abbrev pub told_as : Result ℕ Refusal → Told
told_as r = record { answer = answered r; value = valued r }

unfoldable pub told : Bool → ℕ → Told
told there x = cond there (record { answer = 0; value = x }) (record { answer = 12; value = 0 })

abbrev pub tokens_on : Plan → Network → ℕ → Told
tokens_on P L q = told (ltb q (min P.queues 512)) (get_or L.used q 0)

abbrev pub finished_on : Plan → Network → ℕ → Told
finished_on P L p = told (ltb p (min P.parts 32)) (get_or L.count p 0)
