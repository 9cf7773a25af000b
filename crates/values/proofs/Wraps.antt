-- What wraps at 32 bits is, in w bits, what wraps at w.
use Rattle.std.proofs.Common.{◌≡◌, ℕ, ◌+◌, ◌-◌, ◌%◌, ◌^◌, ◌<◌, ◌≤◌, ◌∙◌, ap, mod-eq_of_lt, arith}
use Rattle.std.proofs.Math.Nat.{mod-add-mod, add-mod_right}
use Rattle.base.proofs.Widths.{sub_down}

pub less_down : (w x y : ℕ) → w ≤ 32 → x < 2 ^ 32 → y < 2 ^ 32 → (x + (2 ^ 32 - y)) % 2 ^ 32 % 2 ^ w ≡ (x + (2 ^ w - y % 2 ^ w)) % 2 ^ w
less_down w x y h a b =
    let d : ℕ = x + (2 ^ 32 - y) in
    let e : d + y ≡ x + 2 ^ 32 = omega arith in
    sub_down w (d % 2 ^ 32) x y h (mod-add-mod d (2 ^ 32) y ∙ ap (λ n. n % 2 ^ 32) e ∙ add-mod_right x (2 ^ 32) ∙ mod-eq_of_lt a)
