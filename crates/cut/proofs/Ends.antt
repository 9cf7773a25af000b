-- The marks say which parts are at an end of some queue.
use mathlib.Core.Path.{◌≡◌, refl, sym, ◌∙◌, ap}
use mathlib.Core.Bool.{Bool, true, false, ◌||◌}
use mathlib.Core.List.{List, [], ◌∷◌, ◌++◌}
use Prim.Native.Nat.{ℕ, zero, suc, ◌<◌, ◌≤◌}
use native.Mathlib.Numerals.{add-one}
use native.Mathlib.Omega.{arith}
use borrow.Author.Tests.{eqb-true, eqb-false}
use lib.Dec.{eqb}
use lib.ListN.{length, get_or, set, replicate, take, length-set}
use lib.Seq.{get_or-set_same, get_or-set_other}
use Rattle.std.proofs.Common.{Bor, map}
use Rattle.std.specs.List.{list_any}
use Rattle.std.proofs.lemmas.List.Folds.{list_any-append, list_any_more}
use Rattle.queues.specs.Lists.{some}
use Rattle.cut.specs.Pass.{ended}

-- a turn marks one part more
pub end-turn : (ps : List (Bor ℕ)) (p : Bor ℕ) (l : List Bool) → ended (map (λ y. y.now) (ps ++ p ∷ [])) l ≡ set (ended (map (λ y. y.now) ps) l) p.now true
unfolding ended
end-turn [] p l = refl
end-turn (q ∷ ps) p l = end-turn ps p (set l q.now true)

mark_on : (k p : ℕ) (l : List Bool) → p < length l → (t : Bool) → eqb k p ≡ t → get_or (set l k true) p false ≡ (t || get_or l p false)
mark_on k p l h true e = rw (eqb-true k p e) (get_or-set_same l p true false h)
mark_on k p l h false e = get_or-set_other l k p true false (λ j. eqb-false k p e (sym j))

swap : (a b c : Bool) → (b || (a || c)) ≡ ((a || b) || c)
swap true true c = refl
swap true false c = refl
swap false b c = refl

-- a part is marked exactly where the list has it
marked_at : (ps : List ℕ) (p : ℕ) (l : List Bool) → p < length l → get_or (ended ps l) p false ≡ (list_any (λ x. eqb x p) ps || get_or l p false)
unfolding ended
marked_at [] p l h = refl
marked_at (x ∷ ps) p l h =
    marked_at ps p (set l x true) (rw (length-set l x true) h)
    ∙ ap (λ b. list_any (λ y. eqb y p) ps || b) (mark_on x p l h (eqb x p) refl)
    ∙ swap (eqb x p) (list_any (λ y. eqb y p) ps) (get_or l p false)

shuffle : (a b x y : Bool) → ((a || x) || (b || y)) ≡ ((x || y) || (a || b))
shuffle true true true y = refl
shuffle true true false true = refl
shuffle true true false false = refl
shuffle true false true y = refl
shuffle true false false true = refl
shuffle true false false false = refl
shuffle false b true true = refl
shuffle false true true false = refl
shuffle false false true false = refl
shuffle false true false true = refl
shuffle false false false true = refl
shuffle false true false false = refl
shuffle false false false false = refl

-- one of two lists' first n entries is p, place by place
any_end : (from into : List ℕ) (p n : ℕ) → n ≤ length from → n ≤ length into → (list_any (λ x. eqb x p) (take n from) || list_any (λ x. eqb x p) (take n into)) ≡ some n (λ q. eqb (get_or from q 0) p || eqb (get_or into q 0) p)
unfolding some
any_end from into p zero h g = refl
any_end from into p (suc n) h g =
    let f = list_any_more (λ x. eqb x p) from n 0 (omega arith) in
    let i = list_any_more (λ x. eqb x p) into n 0 (omega arith) in
    rw (← add-one n, f, i)
    (shuffle (list_any (λ x. eqb x p) (take n from)) (list_any (λ x. eqb x p) (take n into)) (eqb (get_or from n 0) p) (eqb (get_or into n 0) p)
    ∙ ap (λ b. (eqb (get_or from n 0) p || eqb (get_or into n 0) p) || b) (any_end from into p n (omega arith) (omega arith)))

no_mark : (m j : ℕ) → get_or (replicate m false) j false ≡ false
no_mark zero j = refl
no_mark (suc m) zero = refl
no_mark (suc m) (suc j) = no_mark m j

or_false : (b c : Bool) → c ≡ false → (b || c) ≡ b
or_false true c e = refl
or_false false c e = e

-- the parts at the first n queues' two ends
pub ended_at : (from into : List ℕ) (n m p : ℕ) → n ≤ length from → n ≤ length into → p < length (replicate m false) → get_or (ended (take n from ++ take n into) (replicate m false)) p false ≡ some n (λ q. eqb (get_or from q 0) p || eqb (get_or into q 0) p)
ended_at from into n m p h g l =
    marked_at (take n from ++ take n into) p (replicate m false) l
    ∙ or_false _ _ (no_mark m p)
    ∙ list_any-append (λ x. eqb x p) (take n from) (take n into)
    ∙ any_end from into p n h g
