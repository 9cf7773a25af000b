-- `cycles::calls::run_cycles` meets its contract. After t cycles registers and outputs are those of whatever solves the cycles; one turn is one cycle.
use Rattle.std.proofs.Common.{◌≡◌, suc, length, sym, ◌∙◌, ap, arith, rules}
use Rattle.std.proofs.lemmas.List.{length-take-le}
use native.Mathlib.Nat.{suc-mul, mul-le-mul_right}
use Rattle.cycles.specs.Pass.{fields_of}
use Rattle.cycles.proofs.Listed.{puts-length}
use Rattle.cycles.proofs.Turns.{promised_none, promised_turn, pass_is}
use Rattle.cycles.specs.Steps.{unlabelled}
use Rattle.cycles.proofs.calls.run_cycles.Goals as goal

pub loop-t-init : goal.loop-t-init
loop-t-init c =
    let a = c.args in
    promised_none (unlabelled a.net.now) a.regs.now a.ins.now a.cycles a.outs.now

pub put_inputs-requires : goal.put_inputs-requires
put_inputs-requires c =
    let a = c.args in
    let t = c.loop-t.t in
    let per = length a.list.now in
    omega (arith, c.requires.4, suc-mul t per, mul-le-mul_right {m = suc t} {n = a.cycles} per c.loop-t-test.true)

pub loop-t-preserved : goal.loop-t-preserved
loop-t-preserved c =
    let a = c.args in
    let v = c.loop-t in
    let first = c.put_inputs in
    let start = c.put_held in
    let held = c.list_of-held.ensures in
    let N = unlabelled a.net.now in
    let F = fields_of N in
    let put : length first.new.vals ≡ 1024 = search rules in
    let long : length start.new.vals ≡ 1024 = search rules in
    let full : length v.vals ≡ 1024 = sym (ap length first.ensures ∙ puts-length _ _ _ _) ∙ put in
    let whole : length c.list_of-held.new.list ≡ 1024 = search rules in
    let many = length-take-le c.list_of-held.result c.list_of-held.new.list (omega (arith, held.0, c.requires.0)) ∙ held.1 in
    let is = pass_is F v.regs a.ins.now a.list.now _ v.t N.nodes (length a.list.now) _ v.vals _ _ _ c.requires.0 full c.requires.2 c.requires.3 many held.2 first.ensures start.ensures c.evaluate.ensures in
    promised_turn N a.regs.now a.ins.now a.cycles a.outs.now v.t v.regs _ _ v.outs _ _ _ _ v.invariant c.loop-t-test.true long is many held.2 c.change_registers.ensures c.put_values.ensures
