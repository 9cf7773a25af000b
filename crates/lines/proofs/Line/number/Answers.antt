-- `lines::Line::number` meets its contract: a turn puts the last digit in front, and the end puts the first.
use mathlib.Core.List.{◌∷◌}
use mathlib.Core.Path.{refl, ap, ◌∙◌}
use Prim.Native.Nat.{◌<◌, ◌^◌}
use native.Mathlib.Omega.{arith}
use lib.ListN.{drop}
use Rattle.std.proofs.lemmas.Fmt.{length-decimal-le, decimal_nonempty}
use Rattle.lines.proofs.Spelling.{spell_turn, spell_end}
use Rattle.lines.proofs.Line.number.Goals as goal

pub loop-rest-init : goal.loop-rest-init
loop-rest-init c =
    let h : c.args.n < 2 ^ 64 = c.ranges.n.fits in
    (omega arith, omega (arith, length-decimal-le 20 c.args.n (omega arith) (omega arith) h), refl)

pub byte-requires : goal.byte-requires
byte-requires c =
    let v = c.loop-rest.invariant in
    (omega (arith, v.1, decimal_nonempty c.loop-rest.rest c.loop-rest.auto.rest-fits.fits, c.requires), omega (arith, v.0, c.requires))

pub loop-rest-preserved : goal.loop-rest-preserved
loop-rest-preserved c =
    let v = c.loop-rest.invariant in
    let e = c.byte.ensures in
    let t = spell_turn c.loop-rest.rest _ _ _ c.loop-rest-test.true c.loop-rest.auto.rest-fits.fits (e.1 ∙ ap (λ x. x ∷ drop c.loop-rest.self.from c.loop-rest.self.bytes) c.last_digit.ensures) v.2 in
    let l = decimal_nonempty c.loop-rest.rest c.loop-rest.auto.rest-fits.fits in
    (omega (arith, v.0, e.0), omega (arith, v.1, e.0, t.0, l, c.requires), t.1)

pub byte-requires-2 : goal.byte-requires-2
byte-requires-2 c =
    let v = c.loop-rest.invariant in
    (omega (arith, v.1, decimal_nonempty c.loop-rest.rest c.loop-rest.auto.rest-fits.fits, c.requires), omega (arith, v.0, c.requires))

pub returns : goal.returns
returns c =
    let v = c.loop-rest.invariant in
    let e = c.byte-2.ensures in
    let t = spell_end c.loop-rest.rest _ _ _ c.loop-rest-test.false (e.1 ∙ ap (λ x. x ∷ drop c.loop-rest.self.from c.loop-rest.self.bytes) c.last_digit-2.ensures) v.2 in
    (omega (arith, v.0, e.0), omega (arith, v.1, e.0, t.0, c.requires), t.1)
