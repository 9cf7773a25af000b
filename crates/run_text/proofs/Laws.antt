-- Where a byte stands first, whether texts are alike, and what decimal digits say, one turn of the loop.
use Rattle.std.proofs.Common.{Bool, zero, suc, sym, ◌∙◌, refl, [], ◌∷◌, eq-eqb, ne_eqb, ◌≡◌, ℕ, ◌+◌, ◌*◌, ◌%◌, ◌^◌, ◌<◌, ◌≤◌, true, false, eqb, List, length, get_or, drop, add-one, arith, drop_of_length-le, drop-cons}
use lib.Pointwise.{pointwise}
use Rattle.std.specs.Bool.{MatchBool}
use Rattle.std.specs.List.{AllWithin, HoldsAt}
use Rattle.std.proofs.lemmas.List.{ext_get_or}
use Rattle.std.proofs.lemmas.Slice.Eq.{bytes_eq-Decides}
use borrow.Author.Tests.{eqb-true}
use Rattle.base.proofs.Tests.{and_left, and_right, every_true, every_at, every-false}
use Rattle.run_text.specs.Texts.{first_in, digit_of, number_on, alike, all_are}

pub first-empty : (b : ℕ) → first_in b [] ≡ 0
unfolding first_in
first-empty b = refl

pub first-hit : (b x : ℕ) (xs : List ℕ) → x ≡ b → first_in b (x ∷ xs) ≡ 0
unfolding first_in
first-hit b x xs e = rw (eq-eqb x b e)

pub first-miss : (b x : ℕ) (xs : List ℕ) → ¬ (x ≡ b) → first_in b (x ∷ xs) ≡ first_in b xs + 1
unfolding first_in
first-miss b x xs e = rw (ne_eqb x b e) (omega arith)

pub first-le : (b : ℕ) (xs : List ℕ) → first_in b xs ≤ length xs
unfolding first_in
first-le b [] = omega arith
first-le b (x ∷ xs) = go (eqb x b) refl (first-le b xs)
  where
    go : (t : Bool) → eqb x b ≡ t → first_in b xs ≤ length xs → first_in b (x ∷ xs) ≤ suc (length xs)
    go true e h = rw e (omega arith)
    go false e h = rw e (omega arith)

-- whether each byte of a text is b, by what `all` says
pub are-all : (b : ℕ) (a : List ℕ) (r : Bool) → MatchBool r (AllWithin (λ x. x ≡ b) a 0 (length a)) ((k : ℕ) × (k < length a) × HoldsAt (λ x. ¬ (x ≡ b)) a k) → r ≡ all_are b a
unfolding all_are
are-all b a true h = sym (every_true _ (length a) (λ k l. eq-eqb _ _ (h k 0 (omega arith) l)))
are-all b a false (k, l, n) = sym (every-false _ (length a) k l (ne_eqb _ _ (n 0)))

-- whether two texts have the same bytes, as `==` says it
pub alike_same : (a b : List ℕ) → alike a b ≡ pointwise eqb a b
unfolding alike
alike_same a b = go (alike a b) (pointwise eqb a b) refl refl
  where
    each : alike a b ≡ true → a ≡ b
    each e =
        let l : length a ≡ length b = eqb-true _ _ (and_left _ _ e) in
        ext_get_or 0 a b l (λ i h. eqb-true _ _ (every_at _ (length a) (and_right (eqb (length a) (length b)) _ e) i h))

    same : a ≡ b → alike a b ≡ true
    same e = rw (e, eq-eqb (length b) (length b) refl) (every_true _ (length b) (λ k l. eq-eqb _ _ refl))

    go : (t u : Bool) → alike a b ≡ t → pointwise eqb a b ≡ u → alike a b ≡ pointwise eqb a b
    go true u e f = e ∙ sym ((bytes_eq-Decides a b).1 (each e))
    go false true e f = same ((bytes_eq-Decides a b).0 f) ∙ sym f
    go false false e f = e ∙ sym f

pub number-next : (n i : ℕ) (t : List ℕ) → i < length t → number_on ((n * 10 + digit_of (get_or t i 0)) % 2 ^ 64) (drop (i + 1) t) ≡ number_on n (drop i t)
unfolding number_on
number-next n i t h = rw (drop-cons t i 0 h, add-one i)

pub number-end : (n i : ℕ) (t : List ℕ) → length t ≤ i → number_on n (drop i t) ≡ n
unfolding number_on
number-end n i t h = rw (drop_of_length-le t h)

-- where no byte of a front is the one that is looked for, it is behind that front
pub first-drop : (b n : ℕ) (xs : List ℕ) → n ≤ first_in b xs → first_in b xs ≡ n + first_in b (drop n xs)
unfolding first_in
first-drop b zero xs h = omega arith
first-drop b (suc n) [] h = let y : ⊥ = omega (arith, h) in absurd y
first-drop b (suc n) (x ∷ xs) h = go (eqb x b) refl (first-drop b n xs)
  where
    go : (t : Bool) → eqb x b ≡ t → (n ≤ first_in b xs → first_in b xs ≡ n + first_in b (drop n xs)) → first_in b (x ∷ xs) ≡ suc n + first_in b (drop n xs)
    go true e f = let g : suc n ≤ 0 = rw e at h in let y : ⊥ = omega (arith, g) in absurd y
    go false e f = let g : suc n ≤ suc (first_in b xs) = rw e at h in rw e (omega (arith, f (omega (arith, g))))
