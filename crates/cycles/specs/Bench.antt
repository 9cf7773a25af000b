-- The outline's bench net on 10, 250, 1: its outputs, cycle by cycle.
use Rattle.std.specs.Prelude.{◌≡◌, List, [], ◌∷◌, ℕ, get_or}
use Rattle.netlist.specs.declared.Netlist.{Netlist}
use Rattle.cycles.specs.Drawings.{Runs}
use Rattle.cycles.specs.Netlists.{drawing}
use Rattle.cycles.specs.Steps.{net_in}

-- 0 IN; 1 REG of 2, first value 5; 2 ADD of 0 and 1; 3 NOT of 1; outputs 2 and 3
abbrev pub bench : Netlist
bench =
    net_in 4
    (0x00 ∷ 0x02 ∷ 0x23 ∷ 0x10 ∷ [])
    (8 ∷ 8 ∷ 8 ∷ 8 ∷ [])
    (0 ∷ 2 ∷ 0 ∷ 1 ∷ [])
    (0 ∷ 0 ∷ 1 ∷ 0 ∷ [])
    []
    (0 ∷ 5 ∷ 0 ∷ 0 ∷ [])
    2
    (2 ∷ 3 ∷ [])

-- a stream for every input: its values in cycles 1, 2 and 3
abbrev pub stream : ℕ → ℕ → ℕ
stream i n = get_or (0 ∷ 10 ∷ 250 ∷ 1 ∷ []) n 0

abbrev pub three_of : (ℕ → ℕ → ℕ) → ℕ → List ℕ
three_of v i = v 1 i ∷ v 2 i ∷ v 3 i ∷ []

abbrev pub BenchHolds : Type 0
BenchHolds =
    (v : ℕ → ℕ → ℕ)
    → Runs (drawing bench) stream v
    → (three_of v 2 ≡ 15 ∷ 9 ∷ 10 ∷ []) × (three_of v 3 ≡ 250 ∷ 240 ∷ 246 ∷ [])
