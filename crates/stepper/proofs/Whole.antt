-- Labels do not matter to a cycle: what holds of a netlist without them holds of the netlist.
use mathlib.Core.Path.{◌≡◌, refl, sym, ◌∙◌, ap}
use mathlib.Core.Bool.{Bool, true, false, cond, ◌&&◌}
use mathlib.Core.List.{List, []}
use Prim.Native.Nat.{ℕ, zero, suc, ◌*◌}
use lib.Dec.{leb}
use Rattle.std.specs.Prelude.{None}
use Rattle.base.specs.Checks.{whole, AllGood}
use Rattle.layout.specs.Labels.{label_check, labels_from}
use Rattle.netlist.specs.declared.Netlist.{Netlist}
use Rattle.netlist.specs.Netlists.{output_of}
use Rattle.netlist.specs.Checks.{net_checks}
use Rattle.cycles.specs.Pass.{fill_from}
use Rattle.cycles.specs.Steps.{unlabelled, Registers, Cycles, registers_after, outputs_after, Stepped, StepsPromise}

no_labels : (nodes : ℕ) → label_check nodes [] ≡ None
unfolding labels_from
no_labels nodes = refl

fewer : (p q r s s' : Bool) → s' ≡ true → whole (p && q && r && s) ≡ None → whole (p && q && r && s') ≡ None
fewer true true true s s' e h = rw e
fewer true true false s s' e h = h
fewer true false r s s' e h = h
fewer false q r s s' e h = h

good-parts : (n : Netlist) → AllGood (net_checks n) → AllGood (net_checks (unlabelled n))
good-parts n g =
    (fewer (leb 1 n.nodes) (leb n.nodes 1024) (leb n.outputs 64) (leb n.labels 4096) (leb 0 4096) refl g.0, (g.1.0, (g.1.1.0, (no_labels n.nodes, tt))))

registers_parts : (n : Netlist) (regs : List ℕ) → Registers n regs → Registers (unlabelled n) regs
registers_parts n regs rg = record { long = rg.long; held = rg.held; other = rg.other; past = rg.past }

cycles_parts : (n : Netlist) (regs ins : List ℕ) (cycles : ℕ) (v : ℕ → ℕ → ℕ) → Cycles n regs ins cycles v → Cycles (unlabelled n) regs ins cycles v
cycles_parts n regs ins cycles v c zero h = c zero h
cycles_parts n regs ins cycles v c (suc t) h = c (suc t) h

registers_same : (n : Netlist) (regs : List ℕ) (v : ℕ → ℕ → ℕ) (t : ℕ) → registers_after (unlabelled n) regs v t ≡ registers_after n regs v t
unfolding registers_after
registers_same n regs v zero = refl
registers_same n regs v (suc t) = refl

outputs-same : (n : Netlist) (v : ℕ → ℕ → ℕ) (outs : List ℕ) (t : ℕ) → outputs_after (unlabelled n) v outs t ≡ outputs_after n v outs t
unfolding outputs_after
outputs-same n v outs zero = refl
outputs-same n v outs (suc t) = ap (fill_from (t * n.outputs) (λ j. v (suc t) (output_of n j)) n.outputs) (outputs-same n v outs t)

pub steps_whole : (n : Netlist) (regs : List ℕ) (cycles : ℕ) (ins outs : List ℕ) (r : ℕ) (regs' outs' : List ℕ)
    → StepsPromise (unlabelled n) regs cycles ins outs r regs' outs'
    → StepsPromise n regs cycles ins outs r regs' outs'
steps_whole n regs cycles ins outs r regs' outs' h g rg =
    let s = h (good-parts n g) (registers_parts n regs rg) in
    record {
      answer = s.answer;
      refused = s.refused;
      done = λ e v c. let d = s.done e v (cycles_parts n regs ins cycles v c) in (d.0 ∙ registers_same n regs v cycles, d.1 ∙ outputs-same n v outs cycles);
    }
