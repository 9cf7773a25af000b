-- Functions of a number, changed at one place, listed and tested.
use Rattle.std.specs.Prelude.{Bool, true, cond, ◌&&◌, List, [], ◌∷◌, ℕ, zero, suc, eqb}

-- f changed at k
abbrev pub at {ℓ} : {A : Type ℓ} → ℕ → A → (ℕ → A) → ℕ → A
at k x f j = cond (eqb j k) x (f j)

-- the table f 0, f 1, .., f (n - 1)
unfoldable pub tab : {A : Type 0} → ℕ → (ℕ → A) → List A
tab zero f = []
tab (suc n) f = f 0 ∷ tab n (λ j. f (suc j))

-- every entry of a list passes a test
abbrev pub all_of : (ℕ → Bool) → List ℕ → Bool
all_of t [] = true
all_of t (x ∷ xs) = t x && all_of t xs

-- every test of a list holds
abbrev pub all_hold : List Bool → Bool
all_hold [] = true
all_hold (b ∷ bs) = b && all_hold bs

-- where a holds, b does
abbrev pub implies : Bool → Bool → Bool
implies a b = cond a b true

-- 1 where a test holds
abbrev pub bit : Bool → ℕ
bit b = cond b 1 0
