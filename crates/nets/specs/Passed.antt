-- A node's value and met needs by the fields of its record: what one pass over the nodes computes, each node in its own part.
use Rattle.std.specs.Prelude.{Bool, true, cond, ◌&&◌, List, ℕ, eqb, ltb, get_or}
use Rattle.codes.specs.Rows.{is_in, is_reg, count_of}
use Rattle.netlist.specs.declared.Netlist.{Netlist}
use Rattle.netlist.specs.Netlists.{record_of}
use Rattle.values.specs.Values.{value_of}
use Rattle.cycles.specs.Netlists.{width_of}
use Rattle.queues.specs.Queues.{input_place}
use Rattle.queues.specs.Found.{no_queue, via_of}
use Rattle.nets.specs.Lists.{implies}
use Rattle.nets.specs.State.{State, some_token}

-- an operand: from its queue where there is one, else the node's own, w x or t x
abbrev pub read_by : State → (ℕ → ℕ) → ℕ → ℕ → ℕ
read_by s w q x = cond (eqb q no_queue) (w x) (get_or (s.queue q) 0 0)

abbrev pub there_by : State → (ℕ → Bool) → ℕ → ℕ → Bool
there_by s t q x = cond (eqb q no_queue) (t x) (some_token (s.queue q))

-- the queue from which node i reads the operand in its field a, b or c
abbrev pub via_a : Netlist → List ℕ → ℕ → ℕ
via_a n part i = via_of n part 0 i (record_of n i).a

abbrev pub via_b : Netlist → List ℕ → ℕ → ℕ
via_b n part i = via_of n part 1 i (record_of n i).b

abbrev pub via_c : Netlist → List ℕ → ℕ → ℕ
via_c n part i = via_of n part 2 i (record_of n i).c

abbrev pub calculated : Netlist → List ℕ → State → (ℕ → ℕ) → ℕ → ℕ
calculated n part s w i =
    value_of (record_of n i).code (record_of n i).width (width_of n (record_of n i).b) (record_of n i).k
    (read_by s w (via_a n part i) (record_of n i).a)
    (read_by s w (via_b n part i) (record_of n i).b)
    (read_by s w (via_c n part i) (record_of n i).c)

unfoldable pub value_by : Netlist → List ℕ → State → (ℕ → ℕ) → ℕ → ℕ
value_by n part s w i =
    cond (is_in (record_of n i).code) (get_or (s.queue (input_place n part i)) 0 0) (cond (is_reg (record_of n i).code) (s.held i) (calculated n part s w i))

abbrev pub all_there : Netlist → List ℕ → State → (ℕ → Bool) → ℕ → Bool
all_there n part s t i =
    implies (ltb 0 (count_of (record_of n i).code)) (there_by s t (via_a n part i) (record_of n i).a)
    && implies (ltb 1 (count_of (record_of n i).code)) (there_by s t (via_b n part i) (record_of n i).b)
    && implies (ltb 2 (count_of (record_of n i).code)) (there_by s t (via_c n part i) (record_of n i).c)

unfoldable pub met_by : Netlist → List ℕ → State → (ℕ → Bool) → ℕ → Bool
met_by n part s t i =
    cond (is_in (record_of n i).code) (some_token (s.queue (input_place n part i))) (cond (is_reg (record_of n i).code) true (all_there n part s t i))
