-- Finish rules on the arrays, those of the parts from lo up to hi at once: which of them are ready, and what they change. In a network this is
-- what they leave when tried in turn (spots/proofs/Rounding).
use Rattle.std.specs.Prelude.{ℕ, zero, suc, ◌+◌, ◌-◌, ◌%◌, ◌^◌, min, Bool, false, cond, not, ◌&&◌, List, replicate, nat_lt, slice_index, slice_index_or, slice_set}
use Rattle.codes.specs.Rows.{is_reg}
use Rattle.lanes.specs.Lanes.{take_cells, take_used}
use Rattle.plans.specs.declared.Plan.{Plan}
use Rattle.lanes.specs.declared.Network.{Network}

-- a stored part number, and where a stored place is read, within their arrays whatever they are
abbrev pub part_in : List ℕ → ℕ → ℕ
part_in xs q = slice_index xs q % 64

abbrev pub spot_in : List ℕ → ℕ → ℕ
spot_in r i = slice_index r i % 2048

-- the parts from lo on, d of them, that are below the limit
unfoldable pub below : List ℕ → ℕ → ℕ → ℕ → List Bool → List Bool
below count limit lo zero l = l
below count limit lo (suc d) l = slice_set (below count limit lo d l) (lo + d) (nat_lt (slice_index count (lo + d)) limit)

-- of these, the ones whose flags are on and whose incoming queues have a token, after n queues
abbrev pub held_by : List Bool → ℕ → Bool → List Bool
held_by l p b = slice_set l p (slice_index_or l p false && b)

unfoldable pub cleared : List ℕ → List ℕ → List Bool → List ℕ → ℕ → List Bool → List Bool
cleared from into flag used zero l = l
cleared from into flag used (suc n) l =
    held_by (held_by (cleared from into flag used n l) (part_in from n) (slice_index_or flag n false)) (part_in into n) (nat_lt 0 (slice_index used n))

-- all registers of those parts together
abbrev pub next_held : List ℕ → List ℕ → List ℕ → List ℕ → List Bool → List ℕ → ℕ → ℕ
next_held code ra part vals fin held i = cond (is_reg (slice_index code i) && slice_index_or fin (part_in part i) false) (slice_index vals (spot_in ra i)) (slice_index held i)

-- one token from each of their incoming queues, and their flags off
abbrev pub take_if : Bool → List ℕ → List ℕ → ℕ → List ℕ
take_if b used xs q = cond (b && nat_lt 0 (slice_index used q)) (take_cells xs q) xs

unfoldable pub used_after : List ℕ → List Bool → ℕ → List ℕ → List ℕ
used_after into fin zero used = used
used_after into fin (suc n) used =
    cond (slice_index_or fin (part_in into n) false && nat_lt 0 (slice_index (used_after into fin n used) n)) (take_used (used_after into fin n used) n) (used_after into fin n used)

unfoldable pub cells_after : List ℕ → List Bool → ℕ → List ℕ → List ℕ → List ℕ
cells_after into fin zero used cells = cells
cells_after into fin (suc n) used cells = take_if (slice_index_or fin (part_in into n) false) (used_after into fin n used) (cells_after into fin n used cells) n

unfoldable pub flags_after : List ℕ → List Bool → ℕ → List Bool → List Bool
flags_after from fin zero flag = flag
flags_after from fin (suc n) flag = slice_set (flags_after from fin n flag) n (slice_index_or (flags_after from fin n flag) n false && not (slice_index_or fin (part_in from n) false))

-- one cycle counted for each
abbrev pub next_count : List Bool → List ℕ → ℕ → ℕ
next_count fin count p = cond (slice_index_or fin p false) ((slice_index count p + 1) % 2 ^ 32) (slice_index count p)

unfoldable pub finished : List Bool → ℕ → ℕ
finished fin zero = 0
finished fin (suc n) = finished fin n + cond (slice_index_or fin n false) 1 0

-- the parts from lo up to hi whose Finish is ready, by the first n queues
unfoldable pub finishing : List ℕ → List ℕ → List Bool → List ℕ → List ℕ → ℕ → ℕ → ℕ → ℕ → List Bool
finishing from into flag used count limit n lo hi = cleared from into flag used (min n 512) (below count limit lo (min hi 32 - lo) (replicate 64 false))

-- those of a plan and a network
abbrev pub finishing_on : Plan → Network → ℕ → ℕ → List Bool
finishing_on P N lo hi = finishing P.from P.into N.flag N.used N.count P.limit P.queues lo hi
