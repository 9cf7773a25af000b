-- The least of a bounded search: of the numbers below n that pass a test, one with the least measure. By induction on n.
use mathlib.Core.Path.{◌≡◌, refl, sym, ◌∙◌, subst}
use mathlib.Core.Logic.{◌≢◌, ◌⊎◌, inl, inr, by_cases}
use mathlib.Core.Bool.{Bool, true, false, false≢true}
use Prim.Native.Nat.{ℕ, zero, suc, ◌≤◌, ◌<◌}
use native.Mathlib.Omega.{arith}
use native.Mathlib.Nat.{not-suc-le-zero, le_refl}
use native.Mathlib.Decide.{dec_le}
use lib.Dec.{eqb}
use borrow.Author.Tests.{eqb-true, eqb-false}
use Rattle.nets.proofs.Facts.{split-on}

-- what holds below n and at n holds below n + 1
pub upto {ℓ} : (P : ℕ → Type ℓ) (n : ℕ) → ((j : ℕ) → j < n → P j) → P n → (j : ℕ) → j < suc n → P j
upto P n h p j l =
    split-on (λ b. P j) (eqb j n) (λ e. subst P (sym (eqb-true j n e)) p)
    (λ e. h j (let ne : j ≢ n = eqb-false j n e in omega arith))

-- one of those below n with t on that has the least f
pub record Least (n : ℕ) (t : ℕ → Bool) (f : ℕ → ℕ) : Type 0 where
  pub it : ℕ
  pub below : it < n
  pub holds : t it ≡ true
  pub least : (j : ℕ) → j < n → t j ≡ true → f it ≤ f j

pub search_least : (n : ℕ) (t : ℕ → Bool) (f : ℕ → ℕ) → Least n t f ⊎ ((j : ℕ) → j < n → t j ≡ false)
search_least zero t f = inr (λ j h. absurd (not-suc-le-zero h))
search_least (suc n) t f = go (search_least n t f) (t n) refl
  where
    keep : (l : Least n t f) → (t n ≡ true → f l.it ≤ f n) → Least (suc n) t f
    keep l h =
        record { it = l.it; below = omega (arith, l.below); holds = l.holds; least = upto (λ j. t j ≡ true → f l.it ≤ f j) n l.least h }

    new : t n ≡ true → ((j : ℕ) → j < n → t j ≡ true → f n ≤ f j) → Least (suc n) t f
    new e h = record { it = n; below = le_refl (suc n); holds = e; least = upto (λ j. t j ≡ true → f n ≤ f j) n h (λ _. le_refl (f n)) }

    go : Least n t f ⊎ ((j : ℕ) → j < n → t j ≡ false) → (b : Bool) → t n ≡ b → Least (suc n) t f ⊎ ((j : ℕ) → j < suc n → t j ≡ false)
    go (inl l) true e =
        by_cases (dec_le (f l.it) (f n)) (λ h. inl (keep l (λ _. h)))
        (λ h. inl (new e (λ j b u. let m = l.least j b u in omega arith)))
    go (inl l) false e = inl (keep l (λ y. absurd (false≢true (sym e ∙ y))))
    go (inr h) true e = inl (new e (λ j b u. absurd (false≢true (sym (h j b) ∙ u))))
    go (inr h) false e = inr (upto (λ j. t j ≡ false) n h e)
