-- `cycles::calls::steps` meets its contract. Its tests are the checks 12, 13 and 16 in their order; a netlist with other counts is not an accepted one.
use Rattle.std.proofs.Common.{◌≡◌, ◌*◌, length, sym, ◌∙◌, ap, arith, rules}
use Rattle.std.proofs.lemmas.List.{length-take-le}
use native.Mathlib.Nat.{mul-le-mul_left}
use borrow.Author.Tests.{not-true, not-false}
use Rattle.cycles.proofs.Listed.{found-ins, all_fit_list}
use Rattle.cycles.proofs.Answers.{refused_12, refused_13, refused_16, all_done}
use Rattle.cycles.specs.Steps.{unlabelled}
use Rattle.cycles.proofs.calls.steps.Goals as goal

pub overflow_mul-t : goal.overflow_mul-t
overflow_mul-t c =
    let l = c.list_of-per in
    omega (arith, c.ranges.cycles, mul-le-mul_left {m = l.result} {n = 1024} c.args.cycles (omega (arith, l.ensures.0, c.if-net-gt1024.false)))

pub returns-then-ins-t : goal.returns-then-ins-t
returns-then-ins-t c =
    let a = c.args in
    let N = unlabelled a.net.now in
    let count = c.list_of-per.ensures.1 ∙ found-ins N.code N.nodes in
    λ g rg. refused_12 N a.regs.now a.cycles a.ins.now a.outs.now (λ e. c.if-ins-t.true (e ∙ ap (λ k. a.cycles * k) (sym count)))

pub inputs_fit-requires : goal.inputs_fit-requires
inputs_fit-requires c =
    let l = c.list_of-per in
    let full : length l.new.list ≡ 1024 = search rules in
    rw (length-take-le l.result l.new.list (omega (arith, l.ensures.0, c.if-net-gt1024.false))) (omega (arith, c.if-ins-t.false))

pub returns-then-not-inputs_fit : goal.returns-then-not-inputs_fit
returns-then-not-inputs_fit c =
    let a = c.args in
    let N = unlabelled a.net.now in
    let l = c.list_of-per in
    let count = l.ensures.1 ∙ found-ins N.code N.nodes in
    let full : length l.new.list ≡ 1024 = search rules in
    let many = length-take-le l.result l.new.list (omega (arith, l.ensures.0, c.if-net-gt1024.false)) ∙ l.ensures.1 in
    let fit = all_fit_list N.code N.width _ a.ins.now N.nodes _ a.cycles c.if-net-gt1024.false l.ensures.2 many ∙ sym c.inputs_fit.ensures in
    λ g rg. refused_13 N a.regs.now a.cycles a.ins.now a.outs.now (c.if-ins-t.false ∙ ap (λ k. a.cycles * k) count) (fit ∙ not-true _ c.if-not-inputs_fit.true-raw)

pub returns-then-outs-t : goal.returns-then-outs-t
returns-then-outs-t c =
    let a = c.args in
    let N = unlabelled a.net.now in
    let l = c.list_of-per in
    let count = l.ensures.1 ∙ found-ins N.code N.nodes in
    let full : length l.new.list ≡ 1024 = search rules in
    let many = length-take-le l.result l.new.list (omega (arith, l.ensures.0, c.if-net-gt1024.false)) ∙ l.ensures.1 in
    let fit = all_fit_list N.code N.width _ a.ins.now N.nodes _ a.cycles c.if-net-gt1024.false l.ensures.2 many ∙ sym c.inputs_fit.ensures in
    λ g rg. refused_16 N a.regs.now a.cycles a.ins.now a.outs.now (c.if-ins-t.false ∙ ap (λ k. a.cycles * k) count) (fit ∙ not-false _ c.if-not-inputs_fit.false-raw) c.if-outs-t.true

pub run_cycles-requires : goal.run_cycles-requires
run_cycles-requires c =
    let l = c.list_of-per in
    let full : length l.new.list ≡ 1024 = search rules in
    let long = length-take-le l.result l.new.list (omega (arith, l.ensures.0, c.if-net-gt1024.false)) in
    (c.if-net-gt1024.false, c.if-net-gt64.false, long ∙ l.ensures.1, l.ensures.2, rw long (omega (arith, c.if-ins-t.false)), c.if-outs-t.false)

pub returns : goal.returns
returns c =
    let a = c.args in
    let N = unlabelled a.net.now in
    let l = c.list_of-per in
    let count = l.ensures.1 ∙ found-ins N.code N.nodes in
    let full : length l.new.list ≡ 1024 = search rules in
    let many = length-take-le l.result l.new.list (omega (arith, l.ensures.0, c.if-net-gt1024.false)) ∙ l.ensures.1 in
    let fit = all_fit_list N.code N.width _ a.ins.now N.nodes _ a.cycles c.if-net-gt1024.false l.ensures.2 many ∙ sym c.inputs_fit.ensures in
    λ g rg. all_done N a.regs.now a.cycles a.ins.now a.outs.now _ _ (c.if-ins-t.false ∙ ap (λ k. a.cycles * k) count) (fit ∙ not-false _ c.if-not-inputs_fit.false-raw) c.if-outs-t.false (c.run_cycles.ensures g rg)
