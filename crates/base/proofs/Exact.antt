-- A number is answered exactly where all checks before it are good and its own is not. By induction on the checks: the answer is 0 or a number of the list, and the numbers rise.
use mathlib.Core.Path.{◌≡◌, refl, ◌∙◌, ap}
use mathlib.Core.Logic.{◌⊎◌, inl, inr, ⊎_elim}
use mathlib.Core.List.{List, [], ◌∷◌}
use Prim.Native.Nat.{ℕ, zero, suc, ◌<◌, ◌≤◌}
use native.Mathlib.Nat.{not-suc-le-zero, le_of_suc-le-suc}
use native.Mathlib.Omega.{arith}
use lib.ListN.{length, take}
use Rattle.std.specs.Prelude.{Option}
use Rattle.std.specs.Prelude.{None, Some}
use Rattle.base.specs.declared.Verdict.{Verdict}
use Rattle.base.specs.Checks.{verdict, or_else, answered, AllGood, Rising, number_of, found_by, ExactAt}
use Rattle.base.proofs.Verdicts.{verdict-good, verdict-bad}

-- an answer is 0 or one of the numbers from k on
above-one : (k n : ℕ) (c : Option ℕ) (v : Verdict) → k ≤ n → (v.answer ≡ 0) ⊎ (suc n ≤ v.answer) → ((or_else n c v).answer ≡ 0) ⊎ (k ≤ (or_else n c v).answer)
above-one k n None v e h = ⊎_elim (λ z. inl z) (λ (l : suc n ≤ v.answer). inr (omega arith)) h
above-one k n (Some p) v e h = inr e

above : (k : ℕ) (cs : List (ℕ × Option ℕ)) → Rising k cs → ((verdict cs).answer ≡ 0) ⊎ (k ≤ (verdict cs).answer)
unfolding verdict
above k [] h = inl refl
above k ((n, c) ∷ cs) h = above-one k n c (verdict cs) h.0 (above (suc n) cs h.1)

number-above : (k : ℕ) (cs : List (ℕ × Option ℕ)) → Rising k cs → (j : ℕ) → j < length cs → k ≤ number_of cs j
number-above k [] h j l = absurd (not-suc-le-zero l)
number-above k ((n, c) ∷ cs) h zero l = h.0
number-above k ((n, c) ∷ cs) h (suc j) l =
    let m = number-above (suc n) cs h.1 j (le_of_suc-le-suc l) in
    omega (arith, h.0)

-- the first check of a list
at_first : (n : ℕ) (c : Option ℕ) (v : Verdict) (p : ℕ) → 0 < n → (v.answer ≡ 0) ⊎ (suc n ≤ v.answer) → or_else n c v ≡ answered n p → c ≡ Some p
at_first n None v p h high e =
    let a : v.answer ≡ n = ap (λ w. w.answer) e in
    let z : ⊥ = ⊎_elim (λ (x : v.answer ≡ 0). omega arith) (λ (x : suc n ≤ v.answer). omega arith) high in
    absurd z
at_first n (Some q) v p h high e = ap Some (ap (λ w. w.place) e)

-- a later one
later : (n m : ℕ) (c : Option ℕ) (v : Verdict) (p : ℕ) → n < m → or_else n c v ≡ answered m p → (c ≡ None) × (v ≡ answered m p)
later n m None v p h e = (refl, e)
later n m (Some q) v p h e =
    let a : n ≡ m = ap (λ w. w.answer) e in
    let z : ⊥ = omega arith in
    absurd z

there : (k : ℕ) (cs : List (ℕ × Option ℕ)) → 0 < k → Rising k cs → (j p : ℕ) → j < length cs → verdict cs ≡ answered (number_of cs j) p → AllGood (take j cs) × (found_by cs j ≡ Some p)
unfolding verdict
there k [] z h j p l e = absurd (not-suc-le-zero l)
there k ((n, c) ∷ cs) z h zero p l e = (tt, at_first n c (verdict cs) p (omega (arith, h.0)) (above (suc n) cs h.1) e)
there k ((n, c) ∷ cs) z h (suc j) p l e =
    let m = number-above (suc n) cs h.1 j (le_of_suc-le-suc l) in
    let r = later n (number_of cs j) c (verdict cs) p m e in
    let d = there (suc n) cs (omega arith) h.1 j p (le_of_suc-le-suc l) r.1 in
    ((r.0, d.0), d.1)

back : (cs : List (ℕ × Option ℕ)) (j p : ℕ) → j < length cs → AllGood (take j cs) × (found_by cs j ≡ Some p) → verdict cs ≡ answered (number_of cs j) p
back [] j p l a = absurd (not-suc-le-zero l)
back ((n, c) ∷ cs) zero p l a = verdict-bad n p c cs a.1
back ((n, c) ∷ cs) (suc j) p l a = verdict-good n c cs a.0.0 ∙ back cs j p (le_of_suc-le-suc l) (a.0.1, a.1)

pub exact : (cs : List (ℕ × Option ℕ)) → Rising 1 cs → (j p : ℕ) → j < length cs → ExactAt cs j p
exact cs h j p l = (there 1 cs (omega arith) h j p l, back cs j p l)
