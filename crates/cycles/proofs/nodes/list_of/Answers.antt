-- `cycles::nodes::list_of` meets its contract. The nodes passed so far that have the code stand at their places, and the next goes to place j.
use Rattle.std.proofs.Common.{◌≡◌, ◌+◌, ◌<◌, eqb, get_or, length, arith, rules}
use Rattle.cycles.specs.Listed.{found_in}
use Rattle.cycles.proofs.Listed.{byte_is, found_none, found-step, found-few, listed_take, listed-none, listed-step}
use Rattle.cycles.proofs.nodes.list_of.Goals as goal

pub loop-i-init : goal.loop-i-init
loop-i-init c = (found_none c.args.kind c.args.code.now, listed-none c.args.kind c.args.code.now c.args.list.now)

pub offset_bounds-list-j : goal.offset_bounds-list-j
offset_bounds-list-j c = omega (arith, c.loop-i.invariant.0, found-few c.args.kind c.args.code.now c.loop-i.i)

pub bounds-list-j : goal.bounds-list-j
bounds-list-j c = omega (arith, c.loop-i.invariant.0, found-few c.args.kind c.args.code.now c.loop-i.i)

pub overflow_add-j : goal.overflow_add-j
overflow_add-j c =
    let a = c.args in
    let v = c.loop-i in
    omega (arith, v.invariant.0, c.from-j.ensures, byte_is (eqb (get_or a.code.now v.i 0) a.kind), found-step a.kind a.code.now v.i, found-few a.kind a.code.now (v.i + 1), c.requires)

pub loop-i-preserved : goal.loop-i-preserved
loop-i-preserved c =
    let a = c.args in
    let v = c.loop-i in
    let long : length v.list ≡ 1024 = search rules in
    let few : v.i < 1024 = omega (arith, c.loop-i-test.true, c.requires) in
    (rw (v.invariant.0, c.from-j.ensures, byte_is (eqb (get_or a.code.now v.i 0) a.kind)) (found-step a.kind a.code.now v.i), listed-step a.kind a.code.now v.i v.j v.list v.invariant.1 long few v.invariant.0)

pub returns : goal.returns
returns c =
    let a = c.args in
    let v = c.loop-i in
    let e : v.i ≡ a.n = omega (arith, v.auto.i-end, c.loop-i-test.false) in
    let q : v.j ≡ found_in a.kind a.code.now a.n = rw (← e) v.invariant.0 in
    (omega (arith, q, found-few a.kind a.code.now a.n), q, listed_take a.kind a.code.now a.n v.j v.list q (rw (← e) v.invariant.1))
