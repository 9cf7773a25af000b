-- The first check that is not good: what each check adds, and that a number is answered exactly where all checks before are good and its own is not.
use mathlib.Core.Path.{◌≡◌, refl, sym, ◌∙◌, ap}
use mathlib.Core.Bool.{Bool, true, false, cond}
use mathlib.Core.Logic.{◌↔◌}
use mathlib.Core.List.{List, [], ◌∷◌, ◌++◌}
use Prim.Native.Nat.{ℕ, suc, ◌<◌}
use native.Mathlib.Omega.{arith}
use borrow.Author.Tests.{ne_eqb, eqb-true, eqb-false}
use lib.Dec.{eqb}
use Rattle.std.specs.Prelude.{Option, None, Some, Result, Ok, Err}
use Rattle.base.specs.declared.Verdict.{Verdict}
use Rattle.base.specs.Checks.{verdict, judged, passed, or_else, answered, done, whole, AllGood, Rising}

pub verdict-good : (n : ℕ) (c : Option ℕ) (cs : List (ℕ × Option ℕ)) → c ≡ None → verdict ((n, c) ∷ cs) ≡ verdict cs
unfolding verdict
verdict-good n c cs e = rw e

pub verdict-bad : (n p : ℕ) (c : Option ℕ) (cs : List (ℕ × Option ℕ)) → c ≡ Some p → verdict ((n, c) ∷ cs) ≡ answered n p
unfolding verdict
verdict-bad n p c cs e = rw e

pub verdict-done : verdict [] ≡ done
unfolding verdict
verdict-done = refl

-- all checks are good: done
pub all-good : (cs : List (ℕ × Option ℕ)) → AllGood cs → verdict cs ≡ done
all-good [] g = verdict-done
all-good ((n, c) ∷ cs) g = verdict-good n c cs g.0 ∙ all-good cs g.1

-- and the other way round
one : (n : ℕ) (c : Option ℕ) (v : Verdict) → 0 < n → (or_else n c v).answer ≡ 0 → (c ≡ None) × (v.answer ≡ 0)
one n None v h e = (refl, e)
one n (Some p) v h e = let z : ⊥ = omega arith in absurd z

pub good-all : (k : ℕ) (cs : List (ℕ × Option ℕ)) → 0 < k → Rising k cs → (verdict cs).answer ≡ 0 → AllGood cs
unfolding verdict
good-all k [] z h e = tt
good-all k ((n, c) ∷ cs) z h e =
    let o = one n c (verdict cs) (omega (arith, h.0)) e in
    (o.0, good-all (suc n) cs (omega arith) h.1 o.1)

-- further checks behind: asked where all before are good
pub verdict-more : (cs ds : List (ℕ × Option ℕ)) → AllGood cs → verdict (cs ++ ds) ≡ verdict ds
verdict-more [] ds g = refl
verdict-more ((n, c) ∷ cs) ds g = verdict-good n c (cs ++ ds) g.0 ∙ verdict-more cs ds g.1

-- all of two lists are good: so are those of each
pub good-apart : (cs ds : List (ℕ × Option ℕ)) → AllGood (cs ++ ds) → AllGood cs × AllGood ds
good-apart [] ds g = (tt, g)
good-apart ((n, c) ∷ cs) ds g =
    let r = good-apart cs ds g.1 in
    ((g.0, r.0), r.1)

kept : (n : ℕ) (c : Option ℕ) (v w : Verdict) → ((or_else n c v).answer ≡ 0 → ⊥) → ((v.answer ≡ 0 → ⊥) → w ≡ v) → or_else n c w ≡ or_else n c v
kept n None v w h f = f h
kept n (Some p) v w h f = refl

pub verdict-kept : (cs ds : List (ℕ × Option ℕ)) → ((verdict cs).answer ≡ 0 → ⊥) → verdict (cs ++ ds) ≡ verdict cs
unfolding verdict
verdict-kept [] ds h = absurd (h refl)
verdict-kept ((n, c) ∷ cs) ds h = kept n c (verdict cs) (verdict (cs ++ ds)) h (λ g. verdict-kept cs ds g)

-- a check of a whole: good exactly where its test holds
pub whole-good : (b : Bool) → whole b ≡ None → b ≡ true
whole-good true e = refl
whole-good false e =
    let z : ◌≡◌ {A = ℕ} 0 1 = cc in
    let y : ⊥ = omega arith in
    absurd y

-- a check of a whole is bad exactly where its test fails, and its place is 0
pub whole-bad : (b : Bool) (p : ℕ) → (whole b ≡ Some p) ↔ ((b ≡ false) × (p ≡ 0))
whole-bad true p = (λ e. let z : ◌≡◌ {A = ℕ} 0 1 = cc in let y : ⊥ = omega arith in absurd y, λ h. let z : ◌≡◌ {A = ℕ} 0 1 = cc h.0 in let y : ⊥ = omega arith in absurd y)
whole-bad false p = (λ e. (refl, cc), λ h. ap Some (sym h.1))

-- a verdict as a call gives it
pub judged-bad : (v : Verdict) → (v.answer ≡ 0 → ⊥) → judged v ≡ Err v
judged-bad v h = rw (ne_eqb v.answer 0 h)

-- a check of a list is good: the rest decides
pub judged-rest : (n : ℕ) (c : Option ℕ) (cs : List (ℕ × Option ℕ)) → c ≡ None → judged (verdict ((n, c) ∷ cs)) ≡ judged (verdict cs)
judged-rest n c cs e = ap judged (verdict-good n c cs e)

-- the last one is the answer
last : (n : ℕ) (c : Option ℕ) → 0 < n → judged (or_else n c done) ≡ passed n c
last n None h = refl
last n (Some p) h = judged-bad (answered n p) (λ z. omega arith)

pub judged-last : (n : ℕ) (c : Option ℕ) → 0 < n → judged (verdict ((n, c) ∷ [])) ≡ passed n c
unfolding verdict
judged-last n c h = last n c h

-- a check that was asked with `?`: it is the answer, or it is good and the next one is asked
one_bad : (n : ℕ) (c : Option ℕ) (v e : Verdict) → 0 < n → passed n c ≡ Err e → judged (or_else n c v) ≡ Err e
one_bad n None v e h p = let z : ◌≡◌ {A = ℕ} 0 1 = cc in let y : ⊥ = omega arith in absurd y
one_bad n (Some q) v e h p = judged-bad (answered n q) (λ z. omega arith) ∙ p

pub asked-bad : (n : ℕ) (c : Option ℕ) (cs : List (ℕ × Option ℕ)) (e : Verdict) → 0 < n → passed n c ≡ Err e → judged (verdict ((n, c) ∷ cs)) ≡ Err e
unfolding verdict
asked-bad n c cs e h p = one_bad n c (verdict cs) e h p

pub asked-good : (n : ℕ) (c : Option ℕ) (x : Unit) → passed n c ≡ Ok x → c ≡ None
asked-good n None x p = refl
asked-good n (Some q) x p = let z : ◌≡◌ {A = ℕ} 0 1 = cc in let y : ⊥ = omega arith in absurd y

-- a check of a whole that was asked with `?`
pub whole_granted : (n : ℕ) (b : Bool) (x : Unit) → passed n (whole b) ≡ Ok x → b ≡ true
whole_granted n b x p = whole-good b (asked-good n (whole b) x p)

pub whole_refused : (n : ℕ) (b : Bool) (e : Verdict) → passed n (whole b) ≡ Err e → (b ≡ false) × (e ≡ answered n 0)
whole_refused n true e p = let z : ◌≡◌ {A = ℕ} 0 1 = cc in let y : ⊥ = omega arith in absurd y
whole_refused n false e p = (refl, cc)

-- and the other way round
err_on : (v e : Verdict) (b : Bool) → eqb v.answer 0 ≡ b → ◌≡◌ {A = Result Unit Verdict} (cond b (Ok tt) (Err v)) (Err e) → (v ≡ e) × (v.answer ≡ 0 → ⊥)
err_on v e true t h = let z : ◌≡◌ {A = ℕ} 0 1 = cc in let y : ⊥ = omega arith in absurd y
err_on v e false t h = (cc, eqb-false v.answer 0 t)

pub judged-err : (v e : Verdict) → judged v ≡ Err e → (v ≡ e) × (v.answer ≡ 0 → ⊥)
judged-err v e h = err_on v e (eqb v.answer 0) refl h

ok_on : (v : Verdict) (x : Unit) (b : Bool) → eqb v.answer 0 ≡ b → ◌≡◌ {A = Result Unit Verdict} (cond b (Ok tt) (Err v)) (Ok x) → v.answer ≡ 0
ok_on v x true t h = eqb-true v.answer 0 t
ok_on v x false t h = let z : ◌≡◌ {A = ℕ} 0 1 = cc in let y : ⊥ = omega arith in absurd y

pub judged_ok : (v : Verdict) (x : Unit) → judged v ≡ Ok x → v.answer ≡ 0
judged_ok v x h = ok_on v x (eqb v.answer 0) refl h
