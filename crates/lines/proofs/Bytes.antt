-- What the tests of a line's bytes say: a digit lies from 48 to 57, and a number that goes on is not 0 and stays below 2^32.
use mathlib.Core.Path.{◌≡◌}
use mathlib.Core.Bool.{true, ◌&&◌}
use Prim.Native.Nat.{ℕ, ◌<◌, ◌^◌}
use borrow.Author.Tests.{ltb-true}
use lib.Dec.{ltb}
use Rattle.base.proofs.Tests.{and_left, and_right}
use Rattle.lines.specs.Commands.{is_digit, longer, goes_on}

pub digit_bounds : (b : ℕ) → is_digit b ≡ true → (47 < b) × (b < 58)
unfolding is_digit
digit_bounds b e = (ltb-true 47 b (and_left (ltb 47 b) (ltb b 58) e), ltb-true b 58 (and_right (ltb 47 b) (ltb b 58) e))

pub goes_digit : (x b : ℕ) → goes_on x b ≡ true → is_digit b ≡ true
unfolding goes_on
goes_digit x b e = and_left (is_digit b) (ltb 0 x && ltb (longer x b) (2 ^ 32)) e

pub goes_bounds : (x b : ℕ) → goes_on x b ≡ true → (0 < x) × (longer x b < 2 ^ 32)
unfolding goes_on
goes_bounds x b e =
    let f : (ltb 0 x && ltb (longer x b) (2 ^ 32)) ≡ true = and_right (is_digit b) (ltb 0 x && ltb (longer x b) (2 ^ 32)) e in
    (ltb-true 0 x (and_left (ltb 0 x) (ltb (longer x b) (2 ^ 32)) f), ltb-true (longer x b) (2 ^ 32) (and_right (ltb 0 x) (ltb (longer x b) (2 ^ 32)) f))
