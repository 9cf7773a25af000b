-- Bytes of a number and back. Each by division with remainder, two bytes first and then twice two.
use mathlib.Core.Path.{◌≡◌, sym, ◌∙◌, ap}
use mathlib.Core.List.{[], ◌∷◌}
use Prim.Native.Nat.{ℕ, ◌+◌, ◌*◌, ◌/◌, ◌%◌, ◌<◌}
use native.Mathlib.Nat.{div-div-eq-div-mul}
use native.Mathlib.Omega.{arith}
use Rattle.base.specs.Bytes.{two, four, le2, le4}

pub le2-two : (x y : ℕ) → x < 256 → y < 256 → le2 (two x y) ≡ x ∷ y ∷ []
le2-two x y hx hy =
    let p : (x + y * 256) % 256 ≡ x = omega arith in
    let d : (x + y * 256) / 256 ≡ y = omega arith in
    let q : y % 256 ≡ y = omega arith in
    rw (p, d, q)

pub two-le2 : (n : ℕ) → n < 65536 → two (n % 256) (n / 256 % 256) ≡ n
two-le2 n h = omega arith

pub two-below : (x y : ℕ) → x < 256 → y < 256 → two x y < 65536
two-below x y hx hy = omega arith

-- of two words, the lower and the upper, each with its two bytes
pub le4-four : (x y z u : ℕ) → x < 256 → y < 256 → z < 256 → u < 256 → le4 (four x y z u) ≡ x ∷ y ∷ z ∷ u ∷ []
le4-four x y z u hx hy hz hu =
    let p : four x y z u % 256 ≡ x = omega arith in
    let d : four x y z u / 256 ≡ y + two z u * 256 = omega arith in
    let q : (y + two z u * 256) % 256 ≡ y = omega arith in
    let e : four x y z u / 65536 ≡ two z u = omega arith in
    let r : two z u % 256 ≡ z = omega arith in
    let g : four x y z u / 16777216 ≡ two z u / 256 = sym (div-div-eq-div-mul (four x y z u) 65536 256) ∙ ap (λ m. m / 256) e in
    let o : two z u / 256 ≡ u = omega arith in
    let t : u % 256 ≡ u = omega arith in
    rw (p, d, q, e, r, g, o, t)

pub four-le4 : (n : ℕ) → n < 4294967296 → four (n % 256) (n / 256 % 256) (n / 65536 % 256) (n / 16777216 % 256) ≡ n
four-le4 n h =
    let e : n / 65536 / 256 ≡ n / 16777216 = div-div-eq-div-mul n 65536 256 in
    let top : two (n / 65536 % 256) (n / 65536 / 256 % 256) ≡ n / 65536 = two-le2 (n / 65536) (omega arith) in
    let low : two (n % 256) (n / 256 % 256) ≡ n % 65536 = omega arith in
    let all : n % 65536 + n / 65536 * 65536 ≡ n = omega arith in
    rw (← e, top, low) all

pub four_below : (x y z u : ℕ) → x < 256 → y < 256 → z < 256 → u < 256 → four x y z u < 4294967296
four_below x y z u hx hy hz hu = omega arith
