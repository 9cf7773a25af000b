-- `queues::drawing::Drawing::via` meets its contract. The tests of the code are those of the definition.
use Rattle.std.proofs.Common.{◌≡◌, ℕ, Some, ap, ◌+◌, ◌*◌, ◌%◌, ◌^◌, ◌<◌, Bool, true, ◌&&◌, ltb, get_or, count_ones, arith, ltb-true, ne_eqb}
use Rattle.base.proofs.Tests.{and_right}
use Rattle.queues.specs.Queues.{channel_place}
use Rattle.queues.proofs.Crossings.{below_32}
use Rattle.queues.proofs.Uses.{unused}
use Rattle.queues.proofs.Whole.{via_is, place-low}
use Rattle.queues.proofs.Words.{one_shl}
use Rattle.queues.proofs.drawing.Drawing.via.Goals as goal

inside : (used : Bool) (x n : ℕ) → (used && ltb x n) ≡ true → x < n
inside used x n e = ltb-true x n (and_right used (ltb x n) e)

pub others_of-requires : goal.others_of-requires
others_of-requires c = below_32 c.args.self.now.net.now c.args.self.now.part.now c.args.self.now.fits c.args.x (inside c.args.used c.args.x c.args.self.now.net.now.nodes c.if-not-used-i.false)

pub overflow_add-result : goal.overflow_add-result
overflow_add-result c =
    let a = c.args in
    let l = inside a.used a.x a.self.now.net.now.nodes c.if-not-used-i.false in
    let e : (get_or a.uses.now a.x unused).first + count_ones (c.others_of.result % ((1 * 2 ^ a.p) % 2 ^ 32)) ≡ channel_place a.self.now.net.now a.self.now.part.now a.x a.p = rw (c.others_of.ensures, one_shl a.p c.requires.1) (via_is a.self.now.net.now a.self.now.part.now c.args.self.now.fits a.uses.now c.requires.0 a.x a.p l c.requires.1) in
    omega (arith, e, place-low a.self.now.net.now a.self.now.part.now c.args.self.now.fits a.x a.p l c.requires.1)

pub returns : goal.returns
returns c =
    let a = c.args in
    let l = inside a.used a.x a.self.now.net.now.nodes c.if-not-used-i.false in
    rw (c.if-not-used-i.false, ne_eqb _ _ c.if-own-p.false, c.others_of.ensures, one_shl a.p c.requires.1) (ap Some (via_is a.self.now.net.now a.self.now.part.now c.args.self.now.fits a.uses.now c.requires.0 a.x a.p l c.requires.1))
