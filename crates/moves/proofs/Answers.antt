-- What is answered where there is no such input or output, whatever the other checks would say; and the queue that a drain works out for its output.
use mathlib.Core.Path.{◌≡◌, refl, sym}
use mathlib.Core.Bool.{Bool, true, false, ◌||◌}
use Prim.Native.Nat.{ℕ, ◌+◌, ◌<◌, min}
use native.Mathlib.Omega.{arith}
use borrow.Author.Tests.{leb-true, leb-false, lt-ltb, le-ltb, clash}
use lib.Dec.{leb}
use Rattle.base.specs.Checks.{verdict}
use Rattle.plans.specs.declared.Plan.{Plan}
use Rattle.moves.specs.Moves.{feed_checked, output_at, output_on, drain_checked}

pub feed-none : (b c : Bool) → feed_checked false b c ≡ 12
unfolding feed_checked verdict
feed-none b c = refl

pub drain-none : (b : Bool) → drain_checked false b ≡ 12
unfolding drain_checked verdict
drain-none b = refl

-- the code's test for an output: m is how many there are, and q its queue
module _ (P : Plan) (j m q : ℕ) (f : m ≡ min P.outputs 512) (e : q ≡ min P.inputs 512 + min P.channels 512 + j) where
  pub output-none : (leb m j || leb 512 q) ≡ true → output_on P j ≡ 512
  unfolding output_at
  output-none = go (leb m j) refl
    where
      go : (b : Bool) → leb m j ≡ b → (b || leb 512 q) ≡ true → output_at P.inputs P.channels P.outputs j ≡ 512
      go true h t = rw (le-ltb j (min P.outputs 512) (omega (arith, leb-true m j h, f))) refl
      go false h t = rw (lt-ltb j (min P.outputs 512) (omega (arith, leb-false m j h, f))) (omega (arith, leb-true 512 q t, e))

  pub output-some : (leb m j || leb 512 q) ≡ false → (output_on P j ≡ q) × (q < 512)
  unfolding output_at
  output-some = go (leb m j) refl
    where
      go : (b : Bool) → leb m j ≡ b → (b || leb 512 q) ≡ false → (output_at P.inputs P.channels P.outputs j ≡ q) × (q < 512)
      go true h t = absurd (clash (sym t))
      go false h t = let l = leb-false 512 q t in (rw (lt-ltb j (min P.outputs 512) (omega (arith, leb-false m j h, f))) (omega (arith, l, e)), l)
