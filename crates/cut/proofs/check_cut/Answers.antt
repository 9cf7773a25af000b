-- `cut::check_cut` meets its contract. The checks in their order: each return is the first that is not good.
use Rattle.std.proofs.Common.{◌≤◌, eqb, leb, length, sym, ◌∙◌, arith, leb-true}
use Rattle.std.proofs.lemmas.Result.{err_from_is_err_and}
use Rattle.base.proofs.Verdicts.{asked-good}
use Rattle.base.proofs.Tests.{and_left}
use Rattle.netlist.proofs.Numbers.{within}
use Rattle.cut.proofs.Answers.{cut_order, whole_passed, parts_first, depths_first, known, joined_is}
use Rattle.cut.proofs.check_cut.Goals as goal

pub returns-in_err-passed : goal.returns-in_err-passed
returns-in_err-passed c =
    let n = c.args.net.now in
    let t = c.args.cut.now in
    let p = err_from_is_err_and c.from_residual.result c.from_residual.ensures.1 in
    rw (p.1, p.2, cut_order n t, ← c.numbers_good.ensures, ← c.whole.ensures, ← c.in_err-passed.ensures)

pub returns-in_err-passed-2 : goal.returns-in_err-passed-2
returns-in_err-passed-2 c =
    let n = c.args.net.now in
    let t = c.args.cut.now in
    let p = err_from_is_err_and c.from_residual-in_err-passed-2.result c.from_residual-in_err-passed-2.ensures.1 in
    rw (p.1, p.2, cut_order n t, ← c.numbers_good.ensures, ← c.whole.ensures, ← c.in_ok-passed.ensures, ← c.whole-2.ensures, ← c.in_err-passed-2.ensures)

pub returns-in_err-passed-3 : goal.returns-in_err-passed-3
returns-in_err-passed-3 c =
    let n = c.args.net.now in
    let t = c.args.cut.now in
    let p = err_from_is_err_and c.from_residual-in_err-passed-3.result c.from_residual-in_err-passed-3.ensures.1 in
    rw (p.1, p.2, cut_order n t, ← c.numbers_good.ensures, ← c.whole.ensures, ← c.in_ok-passed.ensures, ← c.whole-2.ensures, ← c.in_ok-passed-2.ensures, ← c.whole-3.ensures, ← c.in_err-passed-3.ensures)

pub returns-in_err-passed-4 : goal.returns-in_err-passed-4
returns-in_err-passed-4 c =
    let n = c.args.net.now in
    let t = c.args.cut.now in
    let g = sym c.numbers_good.ensures ∙ whole_passed 3 _ _ _ c.whole.ensures c.in_ok-passed.ensures in
    let l : n.nodes ≤ length t.part = omega (arith, (within n g).nodes) in
    let p = err_from_is_err_and c.from_residual-in_err-passed-4.result c.from_residual-in_err-passed-4.ensures.1 in
    rw (p.1, p.2, cut_order n t, ← c.numbers_good.ensures, ← parts_first n t l, ← c.whole.ensures, ← c.in_ok-passed.ensures, ← c.whole-2.ensures, ← c.in_ok-passed-2.ensures, ← c.whole-3.ensures, ← c.in_ok-passed-3.ensures, ← c.check_parts.ensures, ← c.in_err-passed-4.ensures)

pub returns-in_err-passed-5 : goal.returns-in_err-passed-5
returns-in_err-passed-5 c =
    let n = c.args.net.now in
    let t = c.args.cut.now in
    let g = sym c.numbers_good.ensures ∙ whole_passed 3 _ _ _ c.whole.ensures c.in_ok-passed.ensures in
    let l : n.nodes ≤ length t.part = omega (arith, (within n g).nodes) in
    let q = c.find_queues-queues.result in
    let k = known n t q g (whole_passed 8 _ _ _ c.whole-3.ensures c.in_ok-passed-3.ensures) (sym (parts_first n t l) ∙ sym c.check_parts.ensures ∙ asked-good 8 _ _ (sym c.in_ok-passed-4.ensures)) c.find_queues-queues.ensures in
    let p = err_from_is_err_and c.from_residual-in_err-passed-5.result c.from_residual-in_err-passed-5.ensures.1 in
    rw (p.1, p.2, cut_order n t, ← c.numbers_good.ensures, ← k.count, ← parts_first n t l, ← c.whole.ensures, ← c.in_ok-passed.ensures, ← c.whole-2.ensures, ← c.in_ok-passed-2.ensures, ← c.whole-3.ensures, ← c.in_ok-passed-3.ensures, ← c.check_parts.ensures, ← c.in_ok-passed-4.ensures, ← c.whole-4.ensures, ← c.in_err-passed-5.ensures)

pub returns-in_err-passed-6 : goal.returns-in_err-passed-6
returns-in_err-passed-6 c =
    let n = c.args.net.now in
    let t = c.args.cut.now in
    let g = sym c.numbers_good.ensures ∙ whole_passed 3 _ _ _ c.whole.ensures c.in_ok-passed.ensures in
    let l : n.nodes ≤ length t.part = omega (arith, (within n g).nodes) in
    let q = c.find_queues-queues.result in
    let k = known n t q g (whole_passed 8 _ _ _ c.whole-3.ensures c.in_ok-passed-3.ensures) (sym (parts_first n t l) ∙ sym c.check_parts.ensures ∙ asked-good 8 _ _ (sym c.in_ok-passed-4.ensures)) c.find_queues-queues.ensures in
    let few : q.count ≤ 512 = leb-true q.count 512 (and_left (leb q.count 512) (eqb t.queues q.count) (whole_passed 9 _ _ _ c.whole-4.ensures c.in_ok-passed-5.ensures)) in
    let p = err_from_is_err_and c.from_residual-in_err-passed-6.result c.from_residual-in_err-passed-6.ensures.1 in
    rw (p.1, p.2, cut_order n t, ← c.numbers_good.ensures, ← k.count, ← parts_first n t l, ← depths_first t q.count (omega arith), ← c.whole.ensures, ← c.in_ok-passed.ensures, ← c.whole-2.ensures, ← c.in_ok-passed-2.ensures, ← c.whole-3.ensures, ← c.in_ok-passed-3.ensures, ← c.check_parts.ensures, ← c.in_ok-passed-4.ensures, ← c.whole-4.ensures, ← c.in_ok-passed-5.ensures, ← c.check_depths.ensures, ← c.in_err-passed-6.ensures)

pub check_joined-requires : goal.check_joined-requires
check_joined-requires c =
    let n = c.args.net.now in
    let t = c.args.cut.now in
    let g = sym c.numbers_good.ensures ∙ whole_passed 3 _ _ _ c.whole.ensures c.in_ok-passed.ensures in
    let l : n.nodes ≤ length t.part = omega (arith, (within n g).nodes) in
    let q = c.find_queues-queues.result in
    let k = known n t q g (whole_passed 8 _ _ _ c.whole-3.ensures c.in_ok-passed-3.ensures) (sym (parts_first n t l) ∙ sym c.check_parts.ensures ∙ asked-good 8 _ _ (sym c.in_ok-passed-4.ensures)) c.find_queues-queues.ensures in
    let few : q.count ≤ 512 = leb-true q.count 512 (and_left (leb q.count 512) (eqb t.queues q.count) (whole_passed 9 _ _ _ c.whole-4.ensures c.in_ok-passed-5.ensures)) in
    (few, omega (arith, k.parts))

pub returns-in_err-passed-7 : goal.returns-in_err-passed-7
returns-in_err-passed-7 c =
    let n = c.args.net.now in
    let t = c.args.cut.now in
    let g = sym c.numbers_good.ensures ∙ whole_passed 3 _ _ _ c.whole.ensures c.in_ok-passed.ensures in
    let l : n.nodes ≤ length t.part = omega (arith, (within n g).nodes) in
    let q = c.find_queues-queues.result in
    let k = known n t q g (whole_passed 8 _ _ _ c.whole-3.ensures c.in_ok-passed-3.ensures) (sym (parts_first n t l) ∙ sym c.check_parts.ensures ∙ asked-good 8 _ _ (sym c.in_ok-passed-4.ensures)) c.find_queues-queues.ensures in
    let few : q.count ≤ 512 = leb-true q.count 512 (and_left (leb q.count 512) (eqb t.queues q.count) (whole_passed 9 _ _ _ c.whole-4.ensures c.in_ok-passed-5.ensures)) in
    let p = err_from_is_err_and c.from_residual-in_err-passed-7.result c.from_residual-in_err-passed-7.ensures.1 in
    rw (p.1, p.2, cut_order n t, ← c.numbers_good.ensures, ← joined_is n t q k.is few, ← k.count, ← parts_first n t l, ← depths_first t q.count (omega arith), ← c.whole.ensures, ← c.in_ok-passed.ensures, ← c.whole-2.ensures, ← c.in_ok-passed-2.ensures, ← c.whole-3.ensures, ← c.in_ok-passed-3.ensures, ← c.check_parts.ensures, ← c.in_ok-passed-4.ensures, ← c.whole-4.ensures, ← c.in_ok-passed-5.ensures, ← c.check_depths.ensures, ← c.in_ok-passed-6.ensures, ← c.check_joined.ensures, ← c.in_err-passed-7.ensures)

pub returns-in_err-passed-8 : goal.returns-in_err-passed-8
returns-in_err-passed-8 c =
    let n = c.args.net.now in
    let t = c.args.cut.now in
    let g = sym c.numbers_good.ensures ∙ whole_passed 3 _ _ _ c.whole.ensures c.in_ok-passed.ensures in
    let l : n.nodes ≤ length t.part = omega (arith, (within n g).nodes) in
    let q = c.find_queues-queues.result in
    let k = known n t q g (whole_passed 8 _ _ _ c.whole-3.ensures c.in_ok-passed-3.ensures) (sym (parts_first n t l) ∙ sym c.check_parts.ensures ∙ asked-good 8 _ _ (sym c.in_ok-passed-4.ensures)) c.find_queues-queues.ensures in
    let few : q.count ≤ 512 = leb-true q.count 512 (and_left (leb q.count 512) (eqb t.queues q.count) (whole_passed 9 _ _ _ c.whole-4.ensures c.in_ok-passed-5.ensures)) in
    let p = err_from_is_err_and c.from_residual-in_err-passed-8.result c.from_residual-in_err-passed-8.ensures.1 in
    rw (p.1, p.2, cut_order n t, ← c.numbers_good.ensures, ← joined_is n t q k.is few, ← k.count, ← parts_first n t l, ← depths_first t q.count (omega arith), ← c.whole.ensures, ← c.in_ok-passed.ensures, ← c.whole-2.ensures, ← c.in_ok-passed-2.ensures, ← c.whole-3.ensures, ← c.in_ok-passed-3.ensures, ← c.check_parts.ensures, ← c.in_ok-passed-4.ensures, ← c.whole-4.ensures, ← c.in_ok-passed-5.ensures, ← c.check_depths.ensures, ← c.in_ok-passed-6.ensures, ← c.check_joined.ensures, ← c.in_ok-passed-7.ensures, ← c.check_labels.ensures, ← c.in_err-passed-8.ensures)

pub returns : goal.returns
returns c =
    let n = c.args.net.now in
    let t = c.args.cut.now in
    let g = sym c.numbers_good.ensures ∙ whole_passed 3 _ _ _ c.whole.ensures c.in_ok-passed.ensures in
    let l : n.nodes ≤ length t.part = omega (arith, (within n g).nodes) in
    let q = c.find_queues-queues.result in
    let k = known n t q g (whole_passed 8 _ _ _ c.whole-3.ensures c.in_ok-passed-3.ensures) (sym (parts_first n t l) ∙ sym c.check_parts.ensures ∙ asked-good 8 _ _ (sym c.in_ok-passed-4.ensures)) c.find_queues-queues.ensures in
    let few : q.count ≤ 512 = leb-true q.count 512 (and_left (leb q.count 512) (eqb t.queues q.count) (whole_passed 9 _ _ _ c.whole-4.ensures c.in_ok-passed-5.ensures)) in
    rw (cut_order n t, ← c.numbers_good.ensures, ← joined_is n t q k.is few, ← k.count, ← parts_first n t l, ← depths_first t q.count (omega arith), ← c.whole.ensures, ← c.in_ok-passed.ensures, ← c.whole-2.ensures, ← c.in_ok-passed-2.ensures, ← c.whole-3.ensures, ← c.in_ok-passed-3.ensures, ← c.check_parts.ensures, ← c.in_ok-passed-4.ensures, ← c.whole-4.ensures, ← c.in_ok-passed-5.ensures, ← c.check_depths.ensures, ← c.in_ok-passed-6.ensures, ← c.check_joined.ensures, ← c.in_ok-passed-7.ensures, ← c.check_labels.ensures, ← c.in_ok-passed-8.ensures, k.is)
