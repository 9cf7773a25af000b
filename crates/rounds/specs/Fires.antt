-- One rule fired alone on a network's arrays: which rule a number names, what it leaves, and the answer. What that is in the outline's words, for a network that
-- earlier calls gave, is stated in Meaning.
use Rattle.std.specs.Prelude.{◌≡◌, Bool, cond, ℕ, ◌+◌, ◌-◌, min, eqb, ltb}
use Rattle.puts.specs.Puts.{rules_of, Pass, needed, evaluated, put_ready}
use Rattle.plans.specs.declared.Plan.{Plan}
use Rattle.lanes.specs.declared.Network.{Network}
use Rattle.spots.specs.Stores.{net_in}
use Rattle.spots.specs.Rounds.{first_pass, puts_on, finished_on, finishes_on}

-- rule r is the put rule of this queue, or the Finish of this part
abbrev pub queue_of : Plan → ℕ → ℕ
queue_of P r = min P.inputs 512 + r

abbrev pub part_of : Plan → ℕ → ℕ
part_of P r = queue_of P r - min P.queues 512

abbrev pub is_put : Plan → ℕ → Bool
is_put P r = ltb (queue_of P r) (min P.queues 512)

abbrev pub is_finish : Plan → ℕ → Bool
is_finish P r = ltb (part_of P r) (min P.parts 32)

-- a put rule by itself, and no put rule at all but every node evaluated
abbrev pub put_alone : Plan → Network → ℕ → Pass
put_alone P L q = puts_on P L q (q + 1) 0

abbrev pub no_puts : Plan → Network → Pass
no_puts P L = puts_on P L 0 0 P.nodes

-- whether a put rule would fire
unfoldable pub put_would : Plan → Network → ℕ → Bool
put_would P L q =
    put_ready (rules_of P L) q (evaluated (rules_of P L) (needed (rules_of P L) q) (first_pass P.queues L.cells L.used L.flag))

-- what is left by a put rule by itself, and by a Finish by itself
abbrev pub put_left : Plan → Network → ℕ → Network
put_left P L q = net_in (put_alone P L q).cells (put_alone P L q).used (put_alone P L q).flag L.held L.count

abbrev pub finish_left : Plan → Network → ℕ → Network
finish_left P L p = finished_on P L (no_puts P L) p (p + 1)

-- 14 where nothing fired
abbrev pub firing : ℕ → ℕ
firing fired = cond (eqb fired 0) 14 0

unfoldable pub fire_answer : Plan → Network → ℕ → ℕ
fire_answer P L r =
    cond (is_put P r) (firing (put_alone P L (queue_of P r)).fired)
    (cond (is_finish P r) (firing (finishes_on P L (no_puts P L) (part_of P r) (part_of P r + 1))) 12)

unfoldable pub fire_left : Plan → Network → ℕ → Network
fire_left P L r = cond (is_put P r) (put_left P L (queue_of P r)) (cond (is_finish P r) (finish_left P L (part_of P r)) L)

-- what firing promises: its answer, and the network afterwards
abbrev pub Fired : Plan → Network → ℕ → ℕ → Network → Type 0
Fired P L r answer M = (answer ≡ fire_answer P L r) × (M ≡ fire_left P L r)
