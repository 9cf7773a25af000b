-- Small laws of tests, of lists of operands and of queues as lists.
use mathlib.Core.Path.{◌≡◌, refl, sym, ap, ap₂, ◌∙◌, subst}
use mathlib.Core.Bool.{Bool, true, false, not, ◌&&◌, false≢true}
use mathlib.Core.List.{List, [], ◌∷◌, map, tail, Memᴰ}
use Prim.Native.Nat.{ℕ, ◌<◌}
use native.Mathlib.Nat.{lt_irrefl, zero-lt-suc}
use lib.Dec.{eqb}
use lib.ListN.{length, get_or}
use borrow.Author.Tests.{eqb-true}
use Rattle.base.proofs.Tests.{and_left, and_right}
use Rattle.nets.specs.Lists.{all_of, implies}
use Rattle.nets.specs.State.{some_token}

-- ---- tests

pub and_in : {a b : Bool} → a ≡ true → b ≡ true → (a && b) ≡ true
and_in {a} {b} p q = rw p q

pub and_end : (a : Bool) → (a && true) ≡ a
and_end true = refl
and_end false = refl

pub not_in : {a : Bool} → a ≡ false → not a ≡ true
not_in {a} p = rw p

pub not_out : (a : Bool) → not a ≡ true → a ≡ false
not_out true e = sym e
not_out false e = refl

pub implies_out : (a b : Bool) → implies a b ≡ true → a ≡ true → b ≡ true
implies_out true b e h = e
implies_out false b e h = absurd (false≢true h)

pub implies_in : (a b : Bool) → (a ≡ true → b ≡ true) → implies a b ≡ true
implies_in true b f = f refl
implies_in false b f = refl

-- by cases on a test, its equation kept
pub split-on {ℓ} : (P : Bool → Type ℓ) (b : Bool) → (b ≡ true → P true) → (b ≡ false → P false) → P b
split-on P true y n = y refl
split-on P false y n = n refl

-- what holds at k with the test on, and anywhere with the test off
pub pick {ℓ} : (P : ℕ → Bool → Type ℓ) (k : ℕ) → P k true → ((j : ℕ) → P j false) → (j : ℕ) → P j (eqb j k)
pick P k y n j = split-on (P j) (eqb j k) (λ e. subst (λ x. P x true) (sym (eqb-true j k e)) y) (λ e. n j)

-- ---- lists of operands

pub all_out : (t : ℕ → Bool) (xs : List ℕ) → all_of t xs ≡ true → (a : ℕ) → Memᴰ a xs → t a ≡ true
all_out t [] e a m = elim m [ ]
all_out t (x ∷ xs) e a (Memᴰ.head p) = ap t p ∙ and_left (t x) (all_of t xs) e
all_out t (x ∷ xs) e a (Memᴰ.tail m) = all_out t xs (and_right (t x) (all_of t xs) e) a m

pub all_in : (t : ℕ → Bool) (xs : List ℕ) → ((a : ℕ) → Memᴰ a xs → t a ≡ true) → all_of t xs ≡ true
all_in t [] h = refl
all_in t (x ∷ xs) h = and_in (h x (Memᴰ.head refl)) (all_in t xs (λ a m. h a (Memᴰ.tail m)))

pub all_same : (t u : ℕ → Bool) (xs : List ℕ) → ((a : ℕ) → Memᴰ a xs → t a ≡ u a) → all_of t xs ≡ all_of u xs
all_same t u [] h = refl
all_same t u (x ∷ xs) h = ap₂ ◌&&◌ (h x (Memᴰ.head refl)) (all_same t u xs (λ a m. h a (Memᴰ.tail m)))

pub map_same : (f g : ℕ → ℕ) (xs : List ℕ) → ((a : ℕ) → Memᴰ a xs → f a ≡ g a) → map f xs ≡ map g xs
map_same f g [] h = refl
map_same f g (x ∷ xs) h = ap₂ ◌∷◌ (h x (Memᴰ.head refl)) (map_same f g xs (λ a m. h a (Memᴰ.tail m)))

-- ---- queues

pub token-length : (xs : List ℕ) → some_token xs ≡ true → 0 < length xs
token-length [] e = absurd (false≢true e)
token-length (x ∷ xs) e = zero-lt-suc (length xs)

pub length-token : (xs : List ℕ) → 0 < length xs → some_token xs ≡ true
length-token [] h = absurd (lt_irrefl 0 h)
length-token (x ∷ xs) h = refl

pub token-split : (xs : List ℕ) → some_token xs ≡ true → xs ≡ get_or xs 0 0 ∷ tail xs
token-split [] e = absurd (false≢true e)
token-split (x ∷ xs) e = refl
