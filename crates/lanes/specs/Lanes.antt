-- The queue store: 512 queues of 16 places each, one behind the other, a queue's oldest token in its first place and zeros behind its last.
use Rattle.std.specs.Prelude.{List, ℕ, zero, suc, ◌+◌, ◌-◌, ◌*◌, ◌%◌, get_or, set}

-- place k of queue q
abbrev pub place_of : ℕ → ℕ → ℕ
place_of q k = q * 16 + k

-- how many tokens a queue is told to hold
abbrev pub held_in : List ℕ → ℕ → ℕ
held_in used q = get_or used q 0

-- A token behind the last one: the store and the counts afterwards. A count above 15, which no call leaves where there is room, is taken modulo 16.
abbrev pub push_cells : List ℕ → List ℕ → ℕ → ℕ → List ℕ
push_cells cells used q x = set cells (place_of q (held_in used q % 16)) x

abbrev pub push_used : List ℕ → ℕ → List ℕ
push_used used q = set used q (held_in used q % 16 + 1)

-- the first k places of queue q moved up by one
unfoldable pub shifted : List ℕ → ℕ → ℕ → List ℕ
shifted cells q zero = cells
shifted cells q (suc k) = set (shifted cells q k) (place_of q k) (get_or (shifted cells q k) (place_of q (suc k)) 0)

-- The oldest token gone: the others moved up, and the last place zero.
abbrev pub take_cells : List ℕ → ℕ → List ℕ
take_cells cells q = set (shifted cells q 15) (place_of q 15) 0

abbrev pub take_used : List ℕ → ℕ → List ℕ
take_used used q = set used q (held_in used q - 1)
