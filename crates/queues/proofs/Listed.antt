-- Lists in order, and their entries stored one behind the other: a turn of a loop that finds one more entry or none. By induction on the entries.
use Rattle.std.proofs.Common.{◌≡◌, ℕ, zero, suc, ◌+◌, ◌*◌, ◌<◌, ◌≤◌, Bool, true, false, cond, List, [], ◌∷◌, ◌++◌, length, get_or, set, sym, refl, ap, ◌∙◌, ⊎_elim, append-nil, le_of_suc-le-suc, not-suc-le-zero, add-zero, add-suc, eq-or-lt_of_le, add-one, arith, length-append, length-set, slice_set, get_or-set_other, get_or-set_same}
use Rattle.queues.specs.Lists.{listed, laid, one_if, some, largest}

module _ {A : Type 0} where
  pub laid_append : (f : A → ℕ) (k : ℕ) (ps qs : List A) (xs : List ℕ) → laid f k (ps ++ qs) xs ≡ laid f (k + length ps) qs (laid f k ps xs)
  unfolding laid
  laid_append f k [] qs xs = ap (λ j. laid f j qs xs) (sym (add-zero k))
  laid_append f k (p ∷ ps) qs xs = laid_append f (suc k) ps qs (set xs k (f p)) ∙ ap (λ j. laid f j qs (laid f (suc k) ps (set xs k (f p)))) (omega arith)

  laid-before : (f : A → ℕ) (k : ℕ) (qs : List A) (xs : List ℕ) (j : ℕ) → j < k → get_or (laid f k qs xs) j 0 ≡ get_or xs j 0
  unfolding laid
  laid-before f k [] xs j h = refl
  laid-before f k (q ∷ qs) xs j h = laid-before f (suc k) qs (set xs k (f q)) j (omega arith) ∙ get_or-set_other xs k j (f q) 0 (omega arith)

  -- where there is room, each entry stands at its place
  pub laid_at : (f : A → ℕ) (d : A) (k : ℕ) (qs : List A) (xs : List ℕ) (j : ℕ) → j < length qs → k + length qs ≤ length xs → get_or (laid f k qs xs) (k + j) 0 ≡ f (get_or qs j d)
  unfolding laid
  laid_at f d k [] xs j h b = absurd (not-suc-le-zero h)
  laid_at f d k (q ∷ qs) xs zero h b =
      rw (add-zero k) (laid-before f (suc k) qs (set xs k (f q)) k (omega arith) ∙ get_or-set_same xs k (f q) 0 (omega arith))
  laid_at f d k (q ∷ qs) xs (suc j) h b =
      let e : k + suc j ≡ suc k + j = omega arith in
      rw e (laid_at f d (suc k) qs (set xs k (f q)) j (omega arith) (rw (length-set xs k (f q)) (omega arith)))

  laid_if : (f : A → ℕ) (k : ℕ) (b : Bool) (x : A) (xs : List ℕ) → laid f k (one_if b x) xs ≡ cond b (slice_set xs k (f x)) xs
  unfolding laid
  laid_if f k true x xs = refl
  laid_if f k false x xs = refl

  -- one more entry, or none
  pub laid-turn : (f : A → ℕ) (k : ℕ) (qs : List A) (b : Bool) (x : A) (xs l : List ℕ) (j : ℕ) → l ≡ laid f k qs xs → j ≡ k + length qs → cond b (slice_set l j (f x)) l ≡ laid f k (qs ++ one_if b x) xs
  laid-turn f k qs b x xs l j e h = rw (e, h) (sym (laid_append f k qs (one_if b x) xs ∙ laid_if f (k + length qs) b x (laid f k qs xs)))

  one-length : (b : Bool) (x : A) → length (one_if b x) ≡ cond b 1 0
  one-length true x = refl
  one-length false x = refl

  pub length-turn : (qs : List A) (b : Bool) (x : A) → length (qs ++ one_if b x) ≡ length qs + cond b 1 0
  length-turn qs b x = length-append qs (one_if b x) ∙ ap (λ n. length qs + n) (one-length b x)

  -- the list so far, and one turn more
  pub listed_next : (i : ℕ) (f : ℕ → List A) → listed (i + 1) f ≡ listed i f ++ f i
  unfolding listed
  listed_next i f = rw (add-one i)

  pub listed_same : (n : ℕ) (f g : ℕ → List A) → ((k : ℕ) → k < n → f k ≡ g k) → listed n f ≡ listed n g
  unfolding listed
  listed_same zero f g h = refl
  listed_same (suc n) f g h = rw (listed_same n f g (λ k l. h k (omega arith)), h n (omega arith))

  -- entries that are none
  pub listed-skip : (k z : ℕ) (f : ℕ → List A) → ((j : ℕ) → j < z → f (k + j) ≡ []) → listed (k + z) f ≡ listed k f
  unfolding listed
  listed-skip k zero f h = rw (add-zero k)
  listed-skip k (suc z) f h = rw (add-suc k z, h z (omega arith), append-nil (listed (k + z) f)) (listed-skip k z f (λ j l. h j (omega arith)))

  one-few : (b : Bool) (x : A) → length (one_if b x) ≤ 1
  one-few true x = omega arith
  one-few false x = omega arith

  -- no more entries than turns, and m for each turn
  pub listed-few : (n m : ℕ) (f : ℕ → List A) → ((k : ℕ) → k < n → length (f k) ≤ m) → length (listed n f) ≤ n * m
  unfolding listed
  listed-few zero m f h = omega arith
  listed-few (suc n) m f h =
      let a = listed-few n m f (λ k l. h k (omega arith)) in
      let b = h n (omega arith) in
      rw (length-append (listed n f) (f n)) (omega arith)

  pub ones-few : (n : ℕ) (t : ℕ → Bool) (x : ℕ → A) → length (listed n (λ i. one_if (t i) (x i))) ≤ n
  ones-few n t x = let h = listed-few n 1 (λ i. one_if (t i) (x i)) (λ k l. one-few (t k) (x k)) in omega arith

-- a loop that finds an entry in each turn where a test holds: how many it has found, and what it has stored
module _ {A : Type 0} (t : ℕ → Bool) (x : ℕ → A) where
  pub count_turn : (i q r : ℕ) → q ≡ length (listed i (λ j. one_if (t j) (x j))) → r ≡ cond (t i) 1 0 → q + r ≡ length (listed (i + 1) (λ j. one_if (t j) (x j)))
  count_turn i q r e h = rw (e, h) (sym (ap length (listed_next i (λ j. one_if (t j) (x j))) ∙ length-turn (listed i (λ j. one_if (t j) (x j))) (t i) (x i)))

  pub store-turn : (f : A → ℕ) (k i j v : ℕ) (xs l m : List ℕ) → l ≡ laid f k (listed i (λ j. one_if (t j) (x j))) xs → j ≡ k + length (listed i (λ j. one_if (t j) (x j))) → v ≡ f (x i) → m ≡ cond (t i) (slice_set l j v) l → m ≡ laid f k (listed (i + 1) (λ j. one_if (t j) (x j))) xs
  store-turn f k i j v xs l m e h g s =
      s
      ∙ ap (λ y. cond (t i) (slice_set l j y) l) g
      ∙ laid-turn f k (listed i (λ j. one_if (t j) (x j))) (t i) (x i) xs l j e h
      ∙ ap (λ qs. laid f k qs xs) (sym (listed_next i (λ j. one_if (t j) (x j))))

-- a loop that finds a stretch of entries in each turn
module _ {A : Type 0} (g : ℕ → List A) where
  pub stretch-count : (i : ℕ) → length (listed (i + 1) g) ≡ length (listed i g) + length (g i)
  stretch-count i = ap length (listed_next i g) ∙ length-append (listed i g) (g i)

  pub stretch-turn : (f : A → ℕ) (k i j : ℕ) (xs l m : List ℕ) → l ≡ laid f k (listed i g) xs → j ≡ k + length (listed i g) → m ≡ laid f j (g i) l → m ≡ laid f k (listed (i + 1) g) xs
  stretch-turn f k i j xs l m e h s =
      s
      ∙ rw (e, h) (sym (laid_append f k (listed i g) (g i) xs))
      ∙ ap (λ qs. laid f k qs xs) (sym (listed_next i g))

-- an entry in each turn
pub ones-all : {A : Type 0} (x : ℕ → A) (n : ℕ) → length (listed n (λ j. one_if true (x j))) ≡ n
unfolding listed
ones-all x zero = refl
ones-all x (suc n) = length-append (listed n (λ j. one_if true (x j))) (x n ∷ []) ∙ rw (ones-all x n) (omega arith)

-- each is at most the largest
pub largest_le : (n : ℕ) (f : ℕ → ℕ) (i : ℕ) → i < n → f i ≤ largest n f
unfolding largest
largest_le zero f i h = absurd (not-suc-le-zero h)
largest_le (suc n) f i h =
    ⊎_elim
    (λ (e : i ≡ n). rw e (omega arith))
    (λ (l : i < n). let r = largest_le n f i l in omega arith)
    (eq-or-lt_of_le (le_of_suc-le-suc h))

-- and the largest is at most what each is
pub largest-few : (n m : ℕ) (f : ℕ → ℕ) → ((i : ℕ) → i < n → f i ≤ m) → largest n f ≤ m
unfolding largest
largest-few zero m f h = omega arith
largest-few (suc n) m f h =
    let a = largest-few n m f (λ i l. h i (omega arith)) in
    let b = h n (omega arith) in
    omega arith

-- tests that agree on the entries
pub some_same : (n : ℕ) (t u : ℕ → Bool) → ((k : ℕ) → k < n → t k ≡ u k) → some n t ≡ some n u
unfolding some
some_same zero t u h = refl
some_same (suc n) t u h = rw (h n (omega arith), some_same n t u (λ k l. h k (omega arith)))

pub some-none : (n : ℕ) (t : ℕ → Bool) → ((k : ℕ) → k < n → t k ≡ false) → some n t ≡ false
unfolding some
some-none zero t h = refl
some-none (suc n) t h = rw (h n (omega arith)) (some-none n t (λ k l. h k (omega arith)))

pub largest-same : (n : ℕ) (f g : ℕ → ℕ) → ((k : ℕ) → k < n → f k ≡ g k) → largest n f ≡ largest n g
unfolding largest
largest-same zero f g h = refl
largest-same (suc n) f g h = rw (h n (omega arith), largest-same n f g (λ k l. h k (omega arith)))
