-- Entries of one size put one behind the other: one turn of the loop. The bytes put are one stretch, which grows by an entry.
use mathlib.Core.Path.{◌≡◌, sym, ◌∙◌}
use mathlib.Core.List.{List, ◌++◌}
use Prim.Native.Nat.{ℕ, suc, ◌+◌, ◌*◌, ◌<◌, ◌≤◌}
use native.Mathlib.Nat.{suc-mul, mul-le-mul_right}
use native.Mathlib.Omega.{arith}
use borrow.Author.Tests.{le-leb}
use lib.ListN.{length}
use Rattle.base.specs.Lists.{flat, patch}
use Rattle.base.proofs.Flat.{flat-none, flat_step, flat-length}
use Rattle.base.proofs.Patch.{patch-none, patch-length, patch-patch}
use Rattle.layout.specs.Write.{placed}

-- bytes that fit are placed
pub placed-fits : (xs : List ℕ) (i : ℕ) (bs : List ℕ) → i + length bs ≤ length xs → placed xs i bs ≡ patch xs i bs
placed-fits xs i bs h = rw (le-leb (i + length bs) (length xs) h)

-- a second stretch right behind the first
pub placed-next : (xs l : List ℕ) (i j : ℕ) (bs cs : List ℕ) → l ≡ patch xs i bs → j ≡ i + length bs → j + length cs ≤ length xs → placed l j cs ≡ patch xs i (bs ++ cs)
placed-next xs l i j bs cs e h room =
    let within : i + length bs ≤ length xs = omega arith in
    let long : length (patch xs i bs) ≡ length xs = patch-length xs i bs within in
    rw e (placed-fits (patch xs i bs) j cs (omega arith) ∙ patch-patch xs i j bs cs within h)

module _ (f : ℕ → List ℕ) (k : ℕ) (sized : (i : ℕ) → length (f i) ≡ k) (xs : List ℕ) (i n : ℕ) (room : i + n * k ≤ length xs) where
  pub put-none : xs ≡ patch xs i (flat f 0)
  put-none = rw (flat-none f) (sym (patch-none xs i))

  -- that entry j has room
  pub put-room : (j : ℕ) → j < n → i + (j * k + k) ≤ length xs
  put-room j h = omega (arith, mul-le-mul_right {m = suc j} {n = n} k h, suc-mul j k)

  pub put_step : (j m : ℕ) (l bs : List ℕ) → j < n → l ≡ patch xs i (flat f j) → m ≡ i + j * k → bs ≡ f j → placed l m bs ≡ patch xs i (flat f (j + 1))
  put_step j m l bs h e at same =
      let long : length (flat f j) ≡ j * k = flat-length f k sized j in
      let size : length (f j) ≡ k = sized j in
      rw (same, ← flat_step f j) (placed-next xs l i m (flat f j) (f j) e (omega arith) (omega (arith, put-room j h)))
