-- The exact refusals, from the shared laws on lists of checks.
use mathlib.Core.Path.{◌≡◌, refl, ap}
use mathlib.Core.Bool.{Bool, true, false, ◌&&◌}
use mathlib.Core.Logic.{◌⊎◌, inl, inr, ⊎_elim, ◌↔◌}
use mathlib.Core.List.{List}
use Prim.Native.Nat.{ℕ, ◌<◌}
use native.Mathlib.Omega.{arith}
use borrow.Author.Tests.{leb-false, lt-leb, ne_eqb}
use lib.Dec.{leb, lit<, lit≤}
use Rattle.base.specs.Checks.{Rising}
use Rattle.base.proofs.Exact.{exact}
use Rattle.base.proofs.Verdicts.{all-good, good-all, whole-bad}
use Rattle.opens.specs.Opening.{limit_good, open_checks, open_verdict, opened_by, opened}
use Rattle.opens.specs.Meaning.{OpenExact, OpenAnswers, OpenDone, LimitMeans, RefusedIsZeros}

pub rising : (net cut : List ℕ) (limit : ℕ) → Rising 1 (open_checks net cut limit)
rising net cut limit =
    (lit≤ tt, (lit≤ tt, (lit≤ tt, (lit≤ tt, (lit≤ tt, (lit≤ tt, (lit≤ tt, (lit≤ tt, (lit≤ tt, (lit≤ tt, (lit≤ tt, (lit≤ tt, tt))))))))))))

pub open_exact : OpenExact
open_exact net cut limit j p h = exact (open_checks net cut limit) (rising net cut limit) j p h

pub open_answers : OpenAnswers
unfolding opened opened_by
open_answers net cut limit = refl

pub open_done : OpenDone
unfolding opened opened_by
open_done net cut limit = (good-all 1 (open_checks net cut limit) (lit< tt) (rising net cut limit), λ g. ap (λ v. v.answer) (all-good (open_checks net cut limit) g))

pub refused_is_zeros : RefusedIsZeros
unfolding opened opened_by
refused_is_zeros net cut limit h =
    let e = ne_eqb (open_verdict net cut limit).answer 0 h in
    (rw e, rw e)

-- two tests joined fail exactly where one of them does
and_fails : (a b : Bool) → ((a && b) ≡ false) ↔ ((a ≡ false) ⊎ (b ≡ false))
and_fails true b = (λ e. inr e, ⊎_elim (λ z. let y : ◌≡◌ {A = ℕ} 0 1 = cc in let x : ⊥ = omega arith in absurd x) (λ e. e))
and_fails false b = (λ e. inl refl, λ e. refl)

pub limit_means : LimitMeans
limit_means net cut limit p =
    let w = whole-bad (limit_good limit) p in
    let a = and_fails (leb 1 limit) (leb limit 4000000000) in (
      λ e.
          let f = w.0 e in
          (⊎_elim (λ x. inl (let l : limit < 1 = leb-false 1 limit x in omega arith)) (λ y. inr (leb-false limit 4000000000 y)) (a.0 f.0), f.1),
      λ f. w.1 (a.1 (⊎_elim (λ (x : limit ≡ 0). inl (lt-leb 1 limit (omega arith))) (λ y. inr (lt-leb limit 4000000000 y)) f.0), f.1),
    )
