-- `opens::open_cut` meets its contract. The reader's refusal, or 15, or the plan of what was read and a fresh network.
use mathlib.Core.Path.{◌≡◌, refl, sym, ◌∙◌, ap₂}
use mathlib.Core.List.{List}
use Prim.Native.Nat.{ℕ}
use Rattle.netlist.specs.declared.Netlist.{Netlist}
use Rattle.cycles.specs.Steps.{first_registers}
use Rattle.lanes.specs.declared.Network.{Network}
use Rattle.opens.specs.Opening.{no_network, fresh_network}
use Rattle.opens.proofs.Answers.{opened_as, cut_bad, limit-bad, all_done}
use Rattle.opens.proofs.open_cut.Goals as goal

-- the definition of a fresh network, written out, with the stepper's first registers
network-is : (n : Netlist) (held : List ℕ)
    → held ≡ first_registers n
    → (M : Network)
    → M ≡ no_network
    → ◌≡◌ {A = Network} (record { cells = M.cells; used = M.used; flag = M.flag; held = held; count = M.count }) (fresh_network n)
unfolding fresh_network no_network
network-is n held e M m = rw (e, m) refl

pub returns-then-got-ne0 : goal.returns-then-got-ne0
returns-then-got-ne0 c =
    let a = c.args in
    let r = c.read_cut-got in
    c.refused.ensures ∙ sym (cut_bad a.net.now a.cut.now a.limit r.result r.ensures c.if-got-ne0.true)

pub returns-then-not-allowed : goal.returns-then-not-allowed
returns-then-not-allowed c =
    let a = c.args in
    let r = c.read_cut-got in
    c.refused-then-not-allowed.ensures ∙ sym (limit-bad a.net.now a.cut.now a.limit r.result r.ensures c.if-got-ne0.false c.if-not-allowed.true)

pub returns : goal.returns
returns c =
    let a = c.args in
    let n = a.net.now in
    let r = c.read_cut-got in
    ap₂ opened_as c.make_plan-plan.ensures (network-is n _ c.first_registers.ensures _ c.no_network-network.ensures)
    ∙ sym (all_done n a.cut.now a.limit r.result r.ensures c.if-got-ne0.false c.if-not-allowed.false)
