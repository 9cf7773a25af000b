-- A drawing has one meaning: for every accepted netlist and every choice of inputs and registers there is exactly one set of values, in every cycle, and each is below 2^w.
use Rattle.std.specs.Prelude.{◌≡◌, true, ℕ, suc, ◌<◌, ◌^◌}
use Rattle.base.specs.Checks.{AllGood}
use Rattle.netlist.specs.declared.Netlist.{Netlist}
use Rattle.netlist.specs.Netlists.{record_of}
use Rattle.netlist.specs.Checks.{net_checks}
use Rattle.cycles.specs.Drawings.{Solves, Runs}
use Rattle.codes.specs.Rows.{is_in}
use Rattle.cycles.specs.Netlists.{width_of, drawing}

-- one cycle, its inputs and registers given
pub record OneCycle (n : Netlist) (given : ℕ → ℕ) : Type 0 where
  pub values : ℕ → ℕ
  pub solve : Solves (drawing n) given values
  pub only : (v : ℕ → ℕ) → Solves (drawing n) given v → (i : ℕ) → i < n.nodes → v i ≡ values i
  pub below : ((i : ℕ) → i < n.nodes → given i < 2 ^ width_of n i) → (i : ℕ) → i < n.nodes → values i < 2 ^ width_of n i

-- all cycles, on streams of inputs
pub record OneRun (n : Netlist) (s : ℕ → ℕ → ℕ) : Type 0 where
  pub values : ℕ → ℕ → ℕ
  pub runs : Runs (drawing n) s values
  pub only : (v : ℕ → ℕ → ℕ) → Runs (drawing n) s v → (m i : ℕ) → i < n.nodes → v (suc m) i ≡ values (suc m) i
  pub below : ((i m : ℕ) → i < n.nodes → is_in (record_of n i).code ≡ true → s i m < 2 ^ width_of n i) → (m i : ℕ) → i < n.nodes → values (suc m) i < 2 ^ width_of n i

abbrev pub EachCycle : Type 0
EachCycle = (n : Netlist) → AllGood (net_checks n) → (given : ℕ → ℕ) → OneCycle n given

abbrev pub EachRun : Type 0
EachRun = (n : Netlist) → AllGood (net_checks n) → (s : ℕ → ℕ → ℕ) → OneRun n s
