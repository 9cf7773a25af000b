-- Widths: 2 ^ w as the machine makes it, and what 32 bits wrap, in w bits. Stated once over w.
use mathlib.Core.Path.{◌≡◌, refl, sym, ap, ◌∙◌}
use mathlib.Core.Bool.{Bool, true, false}
use Prim.Native.Nat.{ℕ, ◌+◌, ◌-◌, ◌*◌, ◌/◌, ◌%◌, ◌^◌, ◌≤◌, ◌<◌}
use native.Mathlib.Nat.{one-mul, add-mul, mod-lt, div-add-mod', mod-add-mod, add-mod_right, add-mul-mod_self_right, mul-add-mod_self_right}
use native.Mathlib.Omega.{arith}
use borrow.Author.Tests.{leb-true, leb-false, lt-ltb, le-ltb}
use lib.Dec.{lit<, leb, ltb}
use lib.Count.{count_leading_zeros}
use Rattle.std.proofs.lemmas.Nat.{leading_length}
use lib.Pow.{pow_pos, pow_mono, pow-add, shl_exact, shr_lt, mod-mod-pow}

pub one_shl : (w : ℕ) → w ≤ 32 → (1 * 2 ^ w) % 2 ^ 64 ≡ 2 ^ w
one_shl w h = shl_exact {a = 1} 1 w 64 (lit< tt) (omega arith) ∙ one-mul (2 ^ w)

-- to wrap at 32 bits first changes nothing
pub mod_down : (n w : ℕ) → w ≤ 32 → n % 2 ^ 32 % 2 ^ w ≡ n % 2 ^ w
mod_down n w h =
    let e : 32 - w + w ≡ 32 = omega arith in
    rw e at (mod-mod-pow n (32 - w) w)

-- the difference r of x and y that wraps at 32 bits
pub sub_down : (w r x y : ℕ) → w ≤ 32 → (r + y) % 2 ^ 32 ≡ x → r % 2 ^ w ≡ (x + (2 ^ w - y % 2 ^ w)) % 2 ^ w
sub_down w r x y h e =
    let P : ℕ = 2 ^ w in
    let D : ℕ = P - y % P in
    let t : r + y + D ≡ r + P + y / P * P = omega (arith, div-add-mod' y P, mod-lt y (pow_pos w)) in
    sym
    (ap (λ (n : ℕ). (n + D) % P) (sym e)
    ∙ sym (mod-add-mod ((r + y) % 2 ^ 32) P D)
    ∙ ap (λ (n : ℕ). (n + D) % P) (mod_down (r + y) w h)
    ∙ mod-add-mod (r + y) P D
    ∙ ap (λ (n : ℕ). n % P) t
    ∙ add-mul-mod_self_right (r + P) (y / P) P
    ∙ add-mod_right r P)

-- the complement at 32 bits
pub not_down : (w x : ℕ) → w ≤ 32 → x < 2 ^ 32 → (2 ^ 32 - 1 - x) % 2 ^ w ≡ (2 ^ w - 1 - x % 2 ^ w) % 2 ^ w
not_down w x h b =
    let P : ℕ = 2 ^ w in
    let Q : ℕ = 2 ^ (32 - w) in
    let q : ℕ = x / P in
    let e : 32 - w + w ≡ 32 = omega arith in
    let f : 2 ^ 32 ≡ Q * P = rw e at (pow-add 2 (32 - w) w) in
    let k : q < Q = shr_lt (32 - w) w (rw e b) in
    let s : ℕ = Q - 1 - q in
    let g : Q ≡ s + q + 1 = omega arith in
    let m : Q * P ≡ s * P + q * P + 1 * P = ap (λ (n : ℕ). n * P) g ∙ simp add-mul in
    let t : 2 ^ 32 - 1 - x ≡ s * P + (P - 1 - x % P) = omega (arith, div-add-mod' x P, mod-lt x (pow_pos w)) in
    ap (λ (n : ℕ). n % P) t ∙ mul-add-mod_self_right s P (P - 1 - x % P)

-- a number of m bits is below 2 ^ w just where m is w at most
by_length : (x w m : ℕ) → x < 2 ^ m → 2 ^ m ≤ 2 * x + 1 → (b : Bool) → leb m w ≡ b → b ≡ ltb x (2 ^ w)
by_length x w m f l true e = sym (lt-ltb x (2 ^ w) (omega (arith, f, pow_mono {i = m} {j = w} (leb-true m w e))))
by_length x w m f l false e = sym (le-ltb x (2 ^ w) (omega (arith, l, pow-add 2 1 w, pow_mono {i = 1 + w} {j = m} (omega (arith, leb-false m w e)))))

pub below_counted : (x w : ℕ) → x < 2 ^ 32 → leb (32 - count_leading_zeros 32 x) w ≡ ltb x (2 ^ w)
below_counted x w h =
    let (m, s, f, l) = leading_length 32 x h in
    let e : 32 - count_leading_zeros 32 x ≡ m = omega (arith, s) in
    rw e (by_length x w m f l (leb m w) refl)
