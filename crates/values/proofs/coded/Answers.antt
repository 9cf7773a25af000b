-- `values::coded` meets its contract. What NOT, NEG, ADD, SUB, SHL and CAT make at 32 bits is, in w bits, what they make at w; and a value of 32 bits has none from bit 32 up.
use Rattle.std.proofs.Common.{◌≡◌, ◌+◌, ◌*◌, ◌/◌, ◌%◌, ◌^◌, ◌<◌, lt_of_lt_of_le, arith, pow_mono}
use native.Mathlib.Nat.{div-eq_of_lt}
use Rattle.base.proofs.Widths.{mod_down, not_down}
use Rattle.values.proofs.Wraps.{less_down}
use Rattle.values.specs.Values.{one_of, two_of, shifted_of, wired_of, code_of}
use Rattle.values.proofs.coded.Goals as goal

pub returns-in-16 : goal.returns-in-16
unfolding code_of one_of
returns-in-16 c = rw c.in-16.is (not_down c.args.w c.args.x c.requires.0 (omega arith))

pub returns-in-17 : goal.returns-in-17
unfolding code_of one_of
returns-in-17 c = rw c.in-17.is (less_down c.args.w 0 c.args.x c.requires.0 (omega arith) (omega arith))

pub returns-in-35 : goal.returns-in-35
unfolding code_of two_of
returns-in-35 c = rw c.in-35.is (mod_down (c.args.x + c.args.y) c.args.w c.requires.0)

pub returns-in-36 : goal.returns-in-36
unfolding code_of two_of
returns-in-36 c = rw c.in-36.is (less_down c.args.w c.args.x c.args.y c.requires.0 (omega arith) (omega arith))

pub returns-in-64 : goal.returns-in-64
unfolding code_of shifted_of
returns-in-64 c = rw c.in-64.is (mod_down (c.args.x * 2 ^ (c.args.y % 32)) c.args.w c.requires.0)

pub returns-in-81 : goal.returns-in-81
unfolding code_of wired_of
returns-in-81 c = rw (c.in-81.is, c.joined.ensures) (mod_down (c.args.x * 2 ^ c.args.v + c.args.y) c.args.w c.requires.0)

pub returns-else-k-lt32 : goal.returns-else-k-lt32
unfolding code_of wired_of
returns-else-k-lt32 c =
    let a = c.args in
    let b : a.x < 2 ^ 32 = omega arith in
    let e : a.x / 2 ^ a.k ≡ 0 = div-eq_of_lt (lt_of_lt_of_le b (pow_mono c.if-k-lt32.false)) in
    rw (c.in-82.is, e)
