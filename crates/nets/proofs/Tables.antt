-- How lists and arrays hold a state of functions: a list is the table of a function, a store to it changes the function at one place, and a put or a take
-- on a queue is one store, or one place moved up after the other. By induction on the table, and by the place's quotient and rest by 16.
use mathlib.Core.Path.{◌≡◌, refl, sym, ap, ap₂, ◌∙◌}
use mathlib.Core.Logic.{◌≢◌, ◌⊎◌, inl, inr, ⊎_elim, by_cases}
use mathlib.Core.Bool.{Bool, true, false, cond}
use mathlib.Core.List.{List, [], ◌∷◌, ◌++◌, tail, Memᴰ}
use Prim.Native.Nat.{ℕ, zero, suc, ◌+◌, ◌-◌, ◌*◌, ◌/◌, ◌%◌, ◌≤◌, ◌<◌}
use native.Mathlib.Omega.{arith}
use native.Mathlib.Nat.{not-suc-le-zero}
use native.Mathlib.Decide.{dec_lt, ℕ_discrete}
use lib.ListN.{length, get_or, set, replicate, length-append, get_or-append, get_or-eq_default}
use lib.Seq.{get_or-append_seam}
use lib.Dec.{eqb}
use borrow.Author.Tests.{eqb-true, eqb-false, eq-eqb, ne_eqb}
use Rattle.nets.specs.Lists.{at, tab}
use Rattle.nets.specs.Stored.{cell}
use Rattle.nets.proofs.Facts.{split-on, pick}

module _ {A : Type 0} where
  pub length-tab : (n : ℕ) (f : ℕ → A) → length (tab n f) ≡ n
  unfolding tab
  length-tab zero f = refl
  length-tab (suc n) f = ap suc (length-tab n (λ j. f (suc j)))

  pub get_d_tab : (n : ℕ) (f : ℕ → A) (j : ℕ) (d : A) → j < n → get_or (tab n f) j d ≡ f j
  unfolding tab
  get_d_tab zero f j d h = absurd (not-suc-le-zero h)
  get_d_tab (suc n) f zero d h = refl
  get_d_tab (suc n) f (suc j) d h = get_d_tab n (λ j. f (suc j)) j d (omega arith)

  pub mem-tab : (n : ℕ) (f : ℕ → A) (k : ℕ) (a : A) → k < n → a ≡ f k → Memᴰ a (tab n f)
  unfolding tab
  mem-tab zero f k a h e = absurd (not-suc-le-zero h)
  mem-tab (suc n) f zero a h e = Memᴰ.head e
  mem-tab (suc n) f (suc k) a h e = Memᴰ.tail (mem-tab n (λ j. f (suc j)) k a (omega arith) e)

  -- a table of one value
  pub tab_const : (n : ℕ) (x : A) → tab n (λ j. x) ≡ replicate n x
  unfolding tab
  tab_const zero x = refl
  tab_const (suc n) x = ap (λ l. x ∷ l) (tab_const n x)

  -- two tables are one where the functions agree
  pub tab-same : (n : ℕ) (f g : ℕ → A) → ((j : ℕ) → j < n → f j ≡ g j) → tab n f ≡ tab n g
  unfolding tab
  tab-same zero f g h = refl
  tab-same (suc n) f g h = ap₂ ◌∷◌ (h 0 (omega arith)) (tab-same n (λ j. f (suc j)) (λ j. g (suc j)) (λ j l. h (suc j) (omega arith)))

  -- a store to a table
  pub set-tab : (n : ℕ) (f : ℕ → A) (k : ℕ) (x : A) → set (tab n f) k x ≡ tab n (at k x f)
  unfolding tab
  set-tab zero f k x = refl
  set-tab (suc n) f zero x = ap₂ ◌∷◌ refl (tab-same n (λ j. f (suc j)) (λ j. at 0 x f (suc j)) (λ j l. rw (ne_eqb (suc j) 0 (λ e. omega arith))))
  set-tab (suc n) f (suc k) x =
      ap₂ ◌∷◌ (rw (ne_eqb 0 (suc k) (λ e. omega arith)))
      (set-tab n (λ j. f (suc j)) k x
      ∙ tab-same n (at k x (λ j. f (suc j))) (λ j. at (suc k) x f (suc j))
      (λ j l. ap (λ b. cond b x (f (suc j))) (sym (eqb-suc j k))))
    where
      eqb-suc : (a b : ℕ) → eqb (suc a) (suc b) ≡ eqb a b
      eqb-suc a b = split-on (λ t. eqb a b ≡ t → eqb (suc a) (suc b) ≡ t) (eqb a b) (λ _ e. eq-eqb (suc a) (suc b) (ap suc (eqb-true a b e))) (λ _ e. ne_eqb (suc a) (suc b) (λ q. eqb-false a b e (omega arith))) refl

snoc_at : (xs : List ℕ) (x r : ℕ) → r ≢ length xs → get_or xs r 0 ≡ get_or (xs ++ (x ∷ [])) r 0
snoc_at xs x r ne =
    by_cases (dec_lt r (length xs)) (λ h. sym (get_or-append xs (x ∷ []) 0 r h))
    (λ h. get_or-eq_default xs 0 (omega arith) ∙ sym (get_or-eq_default (xs ++ (x ∷ [])) 0 (rw length-append (omega arith))))

-- a put writes one place
pub cell_push : (f : ℕ → List ℕ) (q x : ℕ) → length (f q) < 16 → (j : ℕ) → at (16 * q + length (f q)) x (cell f) j ≡ cell (at q (f q ++ (x ∷ [])) f) j
unfolding cell
cell_push f q x room j =
    split-on (λ b. eqb (j / 16) q ≡ b → cond (eqb j (16 * q + length (f q))) x (get_or (f (j / 16)) (j % 16) 0) ≡ get_or (cond b (f q ++ (x ∷ [])) (f (j / 16))) (j % 16) 0) (eqb (j / 16) q)
    (λ _ t. let d : j / 16 ≡ q = eqb-true (j / 16) q t in
    split-on (λ b. cond b x (get_or (f (j / 16)) (j % 16) 0) ≡ get_or (f q ++ (x ∷ [])) (j % 16) 0) (eqb j (16 * q + length (f q)))
    (λ u. let w : j ≡ 16 * q + length (f q) = eqb-true j (16 * q + length (f q)) u in
    let r : j % 16 ≡ length (f q) = omega arith in
    rw r (sym (get_or-append_seam (f q) x [] 0)))
    (λ u. let w : j ≢ 16 * q + length (f q) = eqb-false j (16 * q + length (f q)) u in
    ap (λ y. get_or (f y) (j % 16) 0) d ∙ snoc_at (f q) x (j % 16) (λ z. w (omega arith))))
    (λ _ t. let d : j / 16 ≢ q = eqb-false (j / 16) q t in rw (ne_eqb j (16 * q + length (f q)) (λ z. d (omega arith)))) refl

-- so a put on the array of all queues is one store
pub push_stores : (n : ℕ) (f : ℕ → List ℕ) (q x : ℕ) → length (f q) < 16
    → set (tab n (cell f)) (16 * q + length (f q)) x ≡ tab n (cell (at q (f q ++ (x ∷ [])) f))
push_stores n f q x room = set-tab n (cell f) (16 * q + length (f q)) x ∙ tab-same n (at (16 * q + length (f q)) x (cell f)) (cell (at q (f q ++ (x ∷ [])) f)) (λ j _. cell_push f q x room j)

get_d_tail : (xs : List ℕ) (r : ℕ) → get_or (tail xs) r 0 ≡ get_or xs (suc r) 0
get_d_tail [] r = refl
get_d_tail (x ∷ xs) r = refl

-- a take moves the queue's places up by one, and clears the last
pub cell-take : (f : ℕ → List ℕ) (q : ℕ) → length (f q) ≤ 16 → (r : ℕ) → r < 16
    → cell (at q (tail (f q)) f) (16 * q + r) ≡ cond (eqb r 15) 0 (cell f (16 * q + suc r))
unfolding cell
cell-take f q fits r h =
    let d : (16 * q + r) / 16 ≡ q = omega arith in
    let m : (16 * q + r) % 16 ≡ r = omega arith in
    rw (d, m) (rw (eq-eqb q q refl)
    (get_d_tail (f q) r
    ∙ split-on (λ b. eqb r 15 ≡ b → get_or (f q) (suc r) 0 ≡ cond b 0 (get_or (f ((16 * q + suc r) / 16)) ((16 * q + suc r) % 16) 0)) (eqb r 15)
    (λ _ t. let e : r ≡ 15 = eqb-true r 15 t in get_or-eq_default (f q) 0 (omega arith))
    (λ _ t. let e : r ≢ 15 = eqb-false r 15 t in
    let d' : (16 * q + suc r) / 16 ≡ q = omega arith in
    let m' : (16 * q + suc r) % 16 ≡ suc r = omega arith in
    sym (ap₂ (λ a b. get_or (f a) b 0) d' m')) refl))

-- the queue is read back from its places
pub cell_head : (f : ℕ → List ℕ) (q : ℕ) → cell f (16 * q) ≡ get_or (f q) 0 0
unfolding cell
cell_head f q = ap₂ (λ a b. get_or (f a) b 0) (omega arith) (omega arith)

cell_other : (f : ℕ → List ℕ) (q : ℕ) (xs : List ℕ) (j : ℕ) → j / 16 ≢ q → cell f j ≡ cell (at q xs f) j
unfolding cell
cell_other f q xs j d = rw (ne_eqb (j / 16) q d)

-- the places of queue q, the first k of them moved up by one
unfoldable pub moved : (ℕ → List ℕ) → ℕ → ℕ → ℕ → ℕ
moved f q zero = cell f
moved f q (suc k) = at (16 * q + k) (moved f q k (16 * q + k + 1)) (moved f q k)

moved_out : (f : ℕ → List ℕ) (q k j : ℕ) → (j < 16 * q) ⊎ (16 * q + k ≤ j) → moved f q k j ≡ cell f j
unfolding moved
moved_out f q zero j o = refl
moved_out f q (suc k) j o =
    rw (ne_eqb j (16 * q + k) (λ e. ⊎_elim (λ h. omega arith) (λ h. omega arith) o))
    (moved_out f q k j (⊎_elim (λ h. inl h) (λ h. inr (omega arith)) o))

moved_in : (f : ℕ → List ℕ) (q k j : ℕ) → 16 * q ≤ j → j < 16 * q + k → moved f q k j ≡ cell f (suc j)
unfolding moved
moved_in f q zero j l h = absurd (omega arith)
moved_in f q (suc k) j l h =
    split-on (λ b. eqb j (16 * q + k) ≡ b → cond b (moved f q k (16 * q + k + 1)) (moved f q k j) ≡ cell f (suc j)) (eqb j (16 * q + k))
    (λ _ t. let e : j ≡ 16 * q + k = eqb-true j (16 * q + k) t in
    moved_out f q k (16 * q + k + 1) (inr (omega arith)) ∙ ap (cell f) (omega arith))
    (λ _ t. let e : j ≢ 16 * q + k = eqb-false j (16 * q + k) t in moved_in f q k j l (omega arith)) refl

-- all of them moved, and the last place cleared
pub moved_all : (f : ℕ → List ℕ) (q : ℕ) → length (f q) ≤ 16 → (j : ℕ) → at (16 * q + 15) 0 (moved f q 15) j ≡ cell (at q (tail (f q)) f) j
moved_all f q fits j =
    by_cases (ℕ_discrete (j / 16) q)
    (λ d. let r : ℕ = j % 16 in
    let e : 16 * q + r ≡ j = omega arith in
    let w = cell-take f q fits r (omega arith) in
    let v : cell (at q (tail (f q)) f) j ≡ cond (eqb r 15) 0 (cell f (16 * q + suc r)) = ap (cell (at q (tail (f q)) f)) (sym e) ∙ w in
    go (eqb r 15) refl e ∙ sym v)
    (λ d. rw (ne_eqb j (16 * q + 15) (λ e. d (omega arith))) (moved_out f q 15 j (away d) ∙ cell_other f q (tail (f q)) j d))
  where
    go : (b : Bool) → eqb (j % 16) 15 ≡ b → 16 * q + j % 16 ≡ j → at (16 * q + 15) 0 (moved f q 15) j ≡ cond b 0 (cell f (16 * q + suc (j % 16)))
    go true t e = let w : j % 16 ≡ 15 = eqb-true (j % 16) 15 t in rw (eq-eqb j (16 * q + 15) (omega arith))
    go false t e =
        let w : j % 16 ≢ 15 = eqb-false (j % 16) 15 t in
        rw (ne_eqb j (16 * q + 15) (λ u. w (omega arith))) (moved_in f q 15 j (omega arith) (omega arith) ∙ ap (cell f) (omega arith))

    away : j / 16 ≢ q → (j < 16 * q) ⊎ (16 * q + 15 ≤ j)
    away d = by_cases (dec_lt j (16 * q)) (λ h. inl h) (λ h. inr (omega arith))

-- ---- how many tokens each queue holds

pub push_used_lem : (n : ℕ) (f : ℕ → List ℕ) (q x : ℕ) → set (tab n (λ k. length (f k))) q (length (f q) + 1) ≡ tab n (λ k. length (at q (f q ++ (x ∷ [])) f k))
push_used_lem n f q x =
    set-tab n (λ k. length (f k)) q (length (f q) + 1)
    ∙ tab-same n (at q (length (f q) + 1) (λ k. length (f k))) (λ k. length (at q (f q ++ (x ∷ [])) f k))
    (λ j _. pick (λ j b. cond b (length (f q) + 1) (length (f j)) ≡ length (cond b (f q ++ (x ∷ [])) (f j))) q (sym (length-append (f q) (x ∷ []))) (λ j. refl) j)

length-tail : (xs : List ℕ) → 0 < length xs → length xs - 1 ≡ length (tail xs)
length-tail [] h = let z : ⊥ = omega arith in absurd z
length-tail (x ∷ xs) h = omega arith

pub take-used : (n : ℕ) (f : ℕ → List ℕ) (q : ℕ) → 0 < length (f q) → set (tab n (λ k. length (f k))) q (length (f q) - 1) ≡ tab n (λ k. length (at q (tail (f q)) f k))
take-used n f q h =
    set-tab n (λ k. length (f k)) q (length (f q) - 1)
    ∙ tab-same n (at q (length (f q) - 1) (λ k. length (f k))) (λ k. length (at q (tail (f q)) f k))
    (λ j _. pick (λ j b. cond b (length (f q) - 1) (length (f j)) ≡ length (cond b (tail (f q)) (f j))) q (length-tail (f q) h) (λ j. refl) j)

-- ---- a take in the one list, place by place

-- the first k places of queue q moved up by one
unfoldable pub shifted : List ℕ → ℕ → ℕ → List ℕ
shifted xs q zero = xs
shifted xs q (suc k) = set (shifted xs q k) (16 * q + k) (get_or (shifted xs q k) (16 * q + k + 1) 0)

shifted_is : (n : ℕ) (f : ℕ → List ℕ) (q k : ℕ) → 16 * q + 16 ≤ n → k ≤ 15 → shifted (tab n (cell f)) q k ≡ tab n (moved f q k)
unfolding shifted moved
shifted_is n f q zero l h = refl
shifted_is n f q (suc k) l h =
    let e = shifted_is n f q k l (omega arith) in
    rw (e, get_d_tab n (moved f q k) (16 * q + k + 1) 0 (omega arith)) (set-tab n (moved f q k) (16 * q + k) (moved f q k (16 * q + k + 1)))

pub take-stores : (n : ℕ) (f : ℕ → List ℕ) (q : ℕ) → 16 * q + 16 ≤ n → length (f q) ≤ 16
    → set (shifted (tab n (cell f)) q 15) (16 * q + 15) 0 ≡ tab n (cell (at q (tail (f q)) f))
take-stores n f q l h =
    rw (shifted_is n f q 15 l (omega arith))
    (set-tab n (moved f q 15) (16 * q + 15) 0 ∙ tab-same n (at (16 * q + 15) 0 (moved f q 15)) (cell (at q (tail (f q)) f)) (λ j _. moved_all f q h j))
