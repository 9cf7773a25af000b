-- The stepper's answers: 12, 13 and 16 in their order, and what a call leaves with each.
use mathlib.Core.Path.{◌≡◌, refl, sym, ◌∙◌, ap}
use mathlib.Core.Bool.{Bool, true, false}
use mathlib.Core.List.{List}
use Prim.Native.Nat.{ℕ, ◌*◌, ◌<◌, ◌≤◌}
use native.Mathlib.Omega.{arith}
use borrow.Author.Tests.{eq-eqb, ne_eqb, le-leb, lt-leb}
use lib.Dec.{eqb, leb}
use lib.ListN.{length}
use Rattle.base.specs.Checks.{every, whole, AllGood}
use Rattle.base.proofs.Verdicts.{verdict-good, verdict-bad, verdict-done, whole-good}
use Rattle.netlist.specs.declared.Netlist.{Netlist}
use Rattle.netlist.specs.Checks.{net_checks, numbers_good}
use Rattle.netlist.proofs.Numbers.{Within, within}
use Rattle.cycles.specs.Inputs.{all_fit_in}
use Rattle.cycles.specs.Steps.{ins_of, Cycles, registers_after, outputs_after, step_answer, Stepped}

pub bounds : (n : Netlist) → AllGood (net_checks n) → Within n
bounds n g = within n (whole-good (numbers_good n) g.0)

module _ (n : Netlist) (regs : List ℕ) (cycles : ℕ) (ins outs : List ℕ) where
  abbrev one : Bool
  one = eqb (length ins) (cycles * ins_of n)

  abbrev fit : Bool
  fit = every (λ t. all_fit_in n.code n.width ins (t * ins_of n) n.nodes) cycles

  abbrev room : Bool
  room = leb (cycles * n.outputs) (length outs)

  twelve : one ≡ false → step_answer n cycles ins (length outs) ≡ 12
  twelve e = ap (λ v. v.answer) (verdict-bad 12 0 (whole one) _ (ap whole e))

  thirteen : one ≡ true → fit ≡ false → step_answer n cycles ins (length outs) ≡ 13
  thirteen e f = ap (λ v. v.answer) (verdict-good 12 (whole one) _ (ap whole e) ∙ verdict-bad 13 0 (whole fit) _ (ap whole f))

  sixteen : one ≡ true → fit ≡ true → room ≡ false → step_answer n cycles ins (length outs) ≡ 16
  sixteen e f r = ap (λ v. v.answer) (verdict-good 12 (whole one) _ (ap whole e) ∙ verdict-good 13 (whole fit) _ (ap whole f) ∙ verdict-bad 16 0 (whole room) _ (ap whole r))

  none : one ≡ true → fit ≡ true → room ≡ true → step_answer n cycles ins (length outs) ≡ 0
  none e f r = ap (λ v. v.answer) (verdict-good 12 (whole one) _ (ap whole e) ∙ verdict-good 13 (whole fit) _ (ap whole f) ∙ verdict-good 16 (whole room) _ (ap whole r) ∙ verdict-done)

  refusal : (r : ℕ) → 0 < r → step_answer n cycles ins (length outs) ≡ r → Stepped n regs cycles ins outs r regs outs
  refusal r h e =
      record {
        answer = sym e;
        refused = λ z. (refl, refl);
        done = λ z. let y : ⊥ = omega arith in absurd y;
      }

  pub refused_12 : (length ins ≡ cycles * ins_of n → ⊥) → Stepped n regs cycles ins outs 12 regs outs
  refused_12 h = refusal 12 (omega arith) (twelve (ne_eqb (length ins) (cycles * ins_of n) h))

  pub refused_13 : length ins ≡ cycles * ins_of n → fit ≡ false → Stepped n regs cycles ins outs 13 regs outs
  refused_13 h f = refusal 13 (omega arith) (thirteen (eq-eqb (length ins) (cycles * ins_of n) h) f)

  pub refused_16 : length ins ≡ cycles * ins_of n → fit ≡ true → length outs < cycles * n.outputs → Stepped n regs cycles ins outs 16 regs outs
  refused_16 h f r = refusal 16 (omega arith) (sixteen (eq-eqb (length ins) (cycles * ins_of n) h) f (lt-leb (cycles * n.outputs) (length outs) r))

  pub all_done : (regs' outs' : List ℕ) → length ins ≡ cycles * ins_of n → fit ≡ true → cycles * n.outputs ≤ length outs
      → ((v : ℕ → ℕ → ℕ) → Cycles n regs ins cycles v → (regs' ≡ registers_after n regs v cycles) × (outs' ≡ outputs_after n v outs cycles))
      → Stepped n regs cycles ins outs 0 regs' outs'
  all_done regs' outs' h f r d =
      record {
        answer = sym (none (eq-eqb (length ins) (cycles * ins_of n) h) f (le-leb (cycles * n.outputs) (length outs) r));
        refused = λ z. absurd (z refl);
        done = λ z. d;
      }
