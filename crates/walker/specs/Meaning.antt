-- What the walker's definitions mean, beside what reading the same sheet gives.
use Rattle.std.specs.Prelude.{◌≡◌, List, ℕ, ◌<◌}
use Rattle.netlist.specs.Netlists.{record_of}
use Rattle.net_sheet.specs.Reading.{record_at, net_read}
use Rattle.walker.specs.Walking.{stands_at, record_count}

-- Of any sheet, a record that is counted is there.
abbrev pub CountedIsThere : Type 0
CountedIsThere = (s : List ℕ) (i : ℕ) → i < record_count s → stands_at s i ≡ record_at s i

-- Of a sheet that the reader accepts, the walker counts the nodes and stands at each one's record.
abbrev pub WalkedIsRead : Type 0
WalkedIsRead =
    (s : List ℕ)
    → (net_read s).answer ≡ 0
    → (record_count s ≡ (net_read s).net.nodes) × ((i : ℕ) → i < (net_read s).net.nodes → stands_at s i ≡ record_of (net_read s).net i)
