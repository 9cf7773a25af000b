-- Lists of nodes of one code: one turn of the loop that makes one, and what arrays hold that were changed at a list's nodes. By induction on the nodes: a node is at the next place of its list or in no place.
use mathlib.Core.Path.{◌≡◌, refl, ◌∙◌, ap}
use mathlib.Core.Bool.{Bool, true, false, cond, ◌&&◌}
use mathlib.Core.List.{List}
use mathlib.Core.Logic.{⊎_elim}
use Prim.Native.Nat.{ℕ, zero, suc, ◌+◌, ◌*◌, ◌<◌, ◌≤◌}
use native.Mathlib.Nat.{le_of_suc-le-suc, eq-or-lt_of_le, not-suc-le-zero, mod-eq_of_lt}
use native.Mathlib.Numerals.{add-one}
use native.Mathlib.Omega.{arith}
use borrow.Author.Tests.{eqb-true, eqb-false, eq-eqb}
use lib.Dec.{eqb}
use mir.Val.{bool_byte}
use Rattle.std.proofs.lemmas.List.{get_or-take}
use lib.ListN.{length, take, get_or, set, length-set}
use lib.Seq.{get_or-set_same, get_or-set_other}
use Rattle.base.specs.Checks.{every}
use Rattle.cycles.specs.Inputs.{ins_in, fits_in, all_fit_in}
use Rattle.cycles.specs.Pass.{inside}
use Rattle.cycles.specs.Listed.{found_in, Listed, puts, list_fits}

-- ---- how many there are

pub found-ins : (code : List ℕ) (n : ℕ) → found_in 0 code n ≡ ins_in code n
unfolding found_in ins_in
found-ins code zero = refl
found-ins code (suc n) = rw (found-ins code n)

small : (b : Bool) → cond b 1 0 ≤ 1
small true = omega arith
small false = omega arith

-- a test as a number
pub byte_is : (b : Bool) → bool_byte b ≡ cond b 1 0
byte_is true = refl
byte_is false = refl

module _ (kind : ℕ) (code : List ℕ) where
  pub found_none : 0 ≡ found_in kind code 0
  unfolding found_in
  found_none = refl

  pub found-step : (i : ℕ) → found_in kind code i + cond (eqb (get_or code i 0) kind) 1 0 ≡ found_in kind code (i + 1)
  unfolding found_in
  found-step i = rw (add-one i)

  pub found-few : (n : ℕ) → found_in kind code n ≤ n
  unfolding found_in
  found-few zero = omega arith
  found-few (suc n) = omega (arith, found-few n, small (eqb (get_or code n 0) kind))

  found-more : (n i : ℕ) → i ≤ n → found_in kind code i ≤ found_in kind code n
  unfolding found_in
  found-more zero i h =
      let e : i ≡ 0 = omega arith in
      rw e (omega arith)
  found-more (suc n) i h =
      ⊎_elim
      (λ (e : i ≡ suc n). rw e (omega arith))
      (λ (l : i < suc n). omega (arith, found-more n i (le_of_suc-le-suc l)))
      (eq-or-lt_of_le h)

  -- a node's place
  found_at : (n i : ℕ) → i < n → get_or code i 0 ≡ kind → found_in kind code i < found_in kind code n
  found_at n i h e =
      let f : ◌≡◌ {A = ℕ} (cond (eqb (get_or code i 0) kind) 1 0) 1 = rw (eq-eqb (get_or code i 0) kind e) in
      let s = found-step i in
      omega (arith, found-more n (i + 1) (omega arith))

  -- ---- the list so far

  pub listed-none : (list : List ℕ) → Listed kind code 0 list
  listed-none list = record { placed = λ i h e. absurd (not-suc-le-zero h) }

  pub listed-step : (i j : ℕ) (list : List ℕ) → Listed kind code i list → length list ≡ 1024 → i < 1024 → j ≡ found_in kind code i → Listed kind code (i + 1) (set list j i)
  listed-step i j list l long b q =
      record {
        placed = λ p h e.
            ⊎_elim
            (λ (z : p ≡ i). rw (z, ← q) (get_or-set_same list j i 0 (omega (arith, found-few i))))
            (λ (z : p < i). get_or-set_other list j (found_in kind code p) i 0 (λ y. omega (arith, found_at i p z e)) ∙ l.placed p z e)
            (eq-or-lt_of_le (le_of_suc-le-suc (rw (← add-one i) h)));
      }

  -- as many as there are, from the list's front
  pub listed_take : (n m : ℕ) (list : List ℕ) → m ≡ found_in kind code n → Listed kind code n list → Listed kind code n (take m list)
  listed_take n m list q l = record { placed = λ i h e. get_or-take m list (found_in kind code i) 0 (rw q (found_at n i h e)) ∙ l.placed i h e }

  -- and of fewer nodes
  pub listed_less : (n : ℕ) (list : List ℕ) → Listed kind code (suc n) list → Listed kind code n list
  listed_less n list l = record { placed = λ i h. l.placed i (omega arith) }

-- ---- arrays changed at its nodes

pub puts_none : (list : List ℕ) (f : ℕ → ℕ) (xs : List ℕ) → xs ≡ puts list f 0 xs
unfolding puts
puts_none list f xs = refl

pub puts-step : (list : List ℕ) (f : ℕ → ℕ) (j p v : ℕ) (xs l : List ℕ) → l ≡ puts list f j xs → p ≡ inside (get_or list j 0) → v ≡ f j → set l p v ≡ puts list f (j + 1) xs
unfolding puts
puts-step list f j p v xs l e h q = rw (add-one j, e, h, q)

pub puts-length : (list : List ℕ) (f : ℕ → ℕ) (m : ℕ) (xs : List ℕ) → length (puts list f m xs) ≡ length xs
unfolding puts
puts-length list f zero xs = refl
puts-length list f (suc m) xs = simp length-set (puts-length list f m xs)

module _ (kind : ℕ) (code list : List ℕ) (f : ℕ → ℕ) (xs : List ℕ) where
  abbrev after : ℕ → List ℕ
  after n = puts list f (found_in kind code n) xs

  one_more_lem : (n : ℕ) → eqb (get_or code n 0) kind ≡ true → found_in kind code (suc n) ≡ suc (found_in kind code n)
  unfolding found_in
  one_more_lem n e = rw e (omega arith)

  no_more : (n : ℕ) → eqb (get_or code n 0) kind ≡ false → found_in kind code (suc n) ≡ found_in kind code n
  unfolding found_in
  no_more n e = rw e (omega arith)

  put-here : (n : ℕ) → eqb (get_or code n 0) kind ≡ true → n < 1024 → Listed kind code (suc n) list → after (suc n) ≡ set (after n) n (f (found_in kind code n))
  unfolding puts
  put-here n e b l =
      let q : inside (get_or list (found_in kind code n) 0) ≡ n = ap inside (l.placed n (omega arith) (eqb-true (get_or code n 0) kind e)) ∙ mod-eq_of_lt b in
      rw (one_more_lem n e, q)

  put-none : (n : ℕ) → eqb (get_or code n 0) kind ≡ false → after (suc n) ≡ after n
  put-none n e = ap (λ m. puts list f m xs) (no_more n e)

  at_on : (n : ℕ) → suc n ≤ 1024 → length xs ≡ 1024 → Listed kind code (suc n) list
      → ((i : ℕ) → i < n → get_or code i 0 ≡ kind → get_or (after n) i 0 ≡ f (found_in kind code i))
      → (i : ℕ) → i < suc n → get_or code i 0 ≡ kind → (b : Bool) → eqb (get_or code n 0) kind ≡ b → get_or (after (suc n)) i 0 ≡ f (found_in kind code i)
  at_on n b long l before i h e true t =
      ap (λ ys. get_or ys i 0) (put-here n t b l)
      ∙ ⊎_elim
      (λ (z : i ≡ n). rw z (get_or-set_same (after n) n (f (found_in kind code n)) 0 (omega (arith, puts-length list f (found_in kind code n) xs))))
      (λ (z : i < n). get_or-set_other (after n) n i (f (found_in kind code n)) 0 (omega arith) ∙ before i z e)
      (eq-or-lt_of_le (le_of_suc-le-suc h))
  at_on n b long l before i h e false t =
      ap (λ ys. get_or ys i 0) (put-none n t)
      ∙ ⊎_elim
      (λ (z : i ≡ n). absurd (eqb-false (get_or code n 0) kind t (rw (← z) e)))
      (λ (z : i < n). before i z e)
      (eq-or-lt_of_le (le_of_suc-le-suc h))

  -- a node of the list has what was put there
  pub puts_at : (n : ℕ) → n ≤ 1024 → length xs ≡ 1024 → Listed kind code n list → (i : ℕ) → i < n → get_or code i 0 ≡ kind → get_or (after n) i 0 ≡ f (found_in kind code i)
  puts_at zero b long l i h e = absurd (not-suc-le-zero h)
  puts_at (suc n) b long l i h e = at_on n b long l (puts_at n (omega arith) long (listed_less kind code n list l)) i h e (eqb (get_or code n 0) kind) refl

  other_on : (n : ℕ) → suc n ≤ 1024 → Listed kind code (suc n) list → (i : ℕ) → (i < suc n → get_or code i 0 ≡ kind → ⊥) → get_or (after n) i 0 ≡ get_or xs i 0 → (b : Bool) → eqb (get_or code n 0) kind ≡ b → get_or (after (suc n)) i 0 ≡ get_or xs i 0
  other_on n b l i h before true t =
      ap (λ ys. get_or ys i 0) (put-here n t b l)
      ∙ get_or-set_other (after n) n i (f (found_in kind code n)) 0 (λ z. h (omega arith) (rw z (eqb-true (get_or code n 0) kind t)))
      ∙ before
  other_on n b l i h before false t = ap (λ ys. get_or ys i 0) (put-none n t) ∙ before

  -- and any other place what it had
  pub puts-other : (n : ℕ) → n ≤ 1024 → Listed kind code n list → (i : ℕ) → (i < n → get_or code i 0 ≡ kind → ⊥) → get_or (after n) i 0 ≡ get_or xs i 0
  unfolding puts found_in
  puts-other zero b l i h = refl
  puts-other (suc n) b l i h = other_on n b l i h (puts-other n (omega arith) (listed_less kind code n list l) i (λ y. h (omega arith))) (eqb (get_or code n 0) kind) refl

-- ---- the inputs of a list

module _ (code width list ins : List ℕ) (m : ℕ) where
  fits_on : (n : ℕ) → suc n ≤ 1024 → Listed 0 code (suc n) list → all_fit_in code width ins m n ≡ list_fits width list ins m (found_in 0 code n) → (b : Bool) → eqb (get_or code n 0) 0 ≡ b
      → (cond b (fits_in (get_or width n 0) (get_or ins (m + ins_in code n) 0)) true && all_fit_in code width ins m n) ≡ list_fits width list ins m (found_in 0 code n + cond b 1 0)
  fits_on n b l before true t =
      let e : found_in 0 code n + 1 ≡ suc (found_in 0 code n) = omega arith in
      let q : inside (get_or list (found_in 0 code n) 0) ≡ n = ap inside (l.placed n (omega arith) (eqb-true (get_or code n 0) 0 t)) ∙ mod-eq_of_lt b in
      rw (e, q, before, ← found-ins code n)
  fits_on n b l before false t =
      let e : found_in 0 code n + 0 ≡ found_in 0 code n = omega arith in
      rw (e) before

  pub fits_list : (n : ℕ) → n ≤ 1024 → Listed 0 code n list → all_fit_in code width ins m n ≡ list_fits width list ins m (found_in 0 code n)
  unfolding found_in
  fits_list zero b l = refl
  fits_list (suc n) b l = fits_on n b l (fits_list n (omega arith) (listed_less 0 code n list l)) (eqb (get_or code n 0) 0) refl

every-same : (f g : ℕ → Bool) (n : ℕ) → ((k : ℕ) → f k ≡ g k) → every f n ≡ every g n
every-same f g zero h = refl
every-same f g (suc n) h = rw (h n, every-same f g n h)

-- the inputs of all cycles
pub all_fit_list : (code width list ins : List ℕ) (n per cycles : ℕ) → n ≤ 1024 → Listed 0 code n list → per ≡ found_in 0 code n → every (λ t. all_fit_in code width ins (t * ins_in code n) n) cycles ≡ every (λ t. list_fits width list ins (t * per) per) cycles
all_fit_list code width list ins n per cycles b l e =
    every-same (λ t. all_fit_in code width ins (t * ins_in code n) n) (λ t. list_fits width list ins (t * per) per) cycles
    (λ t. rw (e, found-ins code n) (fits_list code width list ins (t * ins_in code n) n b l ∙ ap (λ k. list_fits width list ins (t * ins_in code n) k) (found-ins code n)))
