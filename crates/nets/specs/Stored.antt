-- How arrays hold a state: one list for all queues, 16 places each, the oldest token first and zeros behind; and one for each other part of the state.
use Rattle.std.specs.Prelude.{Bool, cond, ◌&&◌, ℕ, ◌/◌, ◌%◌, ltb, length, get_or}
use mathlib.Core.List.{List, tail}
use Rattle.nets.specs.Lists.{tab}
use Rattle.nets.specs.State.{State}

-- what stands at place j of the one list
unfoldable pub cell : (ℕ → List ℕ) → ℕ → ℕ
cell f j = get_or (f (j / 16)) (j % 16) 0

unfoldable pub cells_of : State → List ℕ
cells_of s = tab 8192 (cell s.queue)

-- by queue: how many tokens it holds, and its flag
unfoldable pub used_of : State → List ℕ
used_of s = tab 512 (λ q. length (s.queue q))

unfoldable pub flags_of : State → List Bool
flags_of s = tab 512 s.flag

-- by node: what a REG holds
unfoldable pub held_of : State → List ℕ
held_of s = tab 1024 s.held

-- by part: finished cycles
unfoldable pub counts_of : State → List ℕ
counts_of s = tab 32 s.count

-- f with g in its place, at the first k numbers, where a test holds: how far a loop has come that changes an array
unfoldable pub changed : {A : Type 0} → (ℕ → Bool) → (ℕ → A) → (ℕ → A) → ℕ → ℕ → A
changed t g f k j = cond (ltb j k && t j) (g j) (f j)

-- the queues when Finish has taken from the first k of them, where a test holds
abbrev pub taken : (ℕ → Bool) → (ℕ → List ℕ) → ℕ → ℕ → List ℕ
taken t f k = changed t (λ q. tail (f q)) f k
