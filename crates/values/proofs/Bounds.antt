-- A node's value is below 2 ^ w.
use Rattle.std.proofs.Common.{ℕ, ◌%◌, ◌^◌, ◌<◌, Bool, true, false, cond, ◌&&◌, leb, mod-lt, pow_pos}
use Rattle.values.specs.Values.{code_of, value_of}

either_below : (w n : ℕ) (b : Bool) → cond b (n % 2 ^ w) 0 < 2 ^ w
either_below w n true = mod-lt n (pow_pos w)
either_below w n false = pow_pos w

pub value-below : (code w v k x y z : ℕ) → value_of code w v k x y z < 2 ^ w
unfolding value_of
value-below code w v k x y z = either_below w (code_of code w v k x y z) (leb w 32 && leb v 32)
