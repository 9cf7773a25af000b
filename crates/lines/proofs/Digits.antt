-- The digits of a number: below ten there is one, else the last stands behind those of a tenth, so one more digit behind a number's digits gives those of the
-- longer number. They are the number's decimals without leading zeros, and there are no others.
use mathlib.Core.Path.{◌≡◌, refl, sym, ap, ap₂, ◌∙◌}
use mathlib.Core.Bool.{Bool, true, false}
use mathlib.Core.Logic.{◌⊎◌, inl, inr, ⊎_elim}
use mathlib.Core.List.{List, [], ◌∷◌, ◌++◌, append-nil}
use Prim.Native.Nat.{ℕ, zero, suc, ◌+◌, ◌-◌, ◌*◌, ◌/◌, ◌%◌, ◌^◌, ◌<◌, ◌≤◌}
use native.Mathlib.Omega.{arith}
use borrow.Author.Tests.{ltb-true, ltb-false}
use lib.Dec.{ltb}
use lib.ListN.{length, get_or, length-append, get_or-append}
use lib.Seq.{get_or-append_seam, append_snoc}
use Rattle.std.specs.Fmt.{decimal}
use Rattle.std.proofs.lemmas.Fmt.{decimal_digit, decimal_step_wide, decimal_by_steps_wide, length-decimal-le_wide}
use Rattle.lines.specs.Commands.{longer}
use Rattle.lines.specs.Meaning.{said_behind, Spells}

below_or : (a b : ℕ) → (a < b) ⊎ (b ≤ a)
below_or a b = go (ltb a b) refl
  where
    go : (t : Bool) → ltb a b ≡ t → (a < b) ⊎ (b ≤ a)
    go true e = inl (ltb-true a b e)
    go false e = inr (ltb-false a b e)

-- a property of numbers and digits that holds of one digit and goes on with a further one holds of what is spelled
pub spelled_by : (Q : ℕ → List ℕ → Type 0)
    → ((n : ℕ) → n < 10 → Q n ((48 + n) ∷ []))
    → ((m d : ℕ) (xs : List ℕ) → 0 < m → d < 10 → Q m xs → Q (m * 10 + d) (xs ++ ((48 + d) ∷ [])))
    → (n : ℕ)
    → n < 10 ^ 20
    → Q n (decimal n)
spelled_by Q one more n h =
    decimal_by_steps_wide Q one (λ n xs k q.
    let e : n / 10 * 10 + n % 10 ≡ n = omega arith in
    rw e at (more (n / 10) (n % 10) xs (omega arith) (omega arith) q)) n (omega arith)

-- ---- what is spelled are the decimals of its number

said-last : (n b : ℕ) (xs : List ℕ) → said_behind n (xs ++ (b ∷ [])) ≡ longer (said_behind n xs) b
unfolding said_behind
said-last n b [] = refl
said-last n b (x ∷ xs) = said-last (longer n x) b xs

first_spells : (n : ℕ) → n < 10 → Spells n ((48 + n) ∷ [])
unfolding said_behind
first_spells n h =
    record {
      a_digit = omega arith;
      each_digit = each;
      no_zeros = λ e. (omega (arith, e), refl);
      says = omega arith;
    }
  where
    each : (k : ℕ) → k < 1 → (48 ≤ get_or ((48 + n) ∷ []) k 0) × (get_or ((48 + n) ∷ []) k 0 ≤ 57)
    each zero l = (omega arith, omega arith)
    each (suc k) l = let y : ⊥ = omega arith in absurd y

last_spells : (m d : ℕ) (xs : List ℕ) → 0 < m → d < 10 → Spells m xs → Spells (m * 10 + d) (xs ++ ((48 + d) ∷ []))
last_spells m d xs h l s =
    record {
      a_digit = rw long (omega arith);
      each_digit = λ k g. each k (below_or k (length xs)) (rw long at g);
      no_zeros = λ e. let y : ⊥ = omega (arith, (s.no_zeros (sym (get_or-append xs ((48 + d) ∷ []) 0 0 s.a_digit) ∙ e)).0) in absurd y;
      says = said-last 0 (48 + d) xs ∙ rw s.says (omega arith);
    }
  where
    long : length (xs ++ ((48 + d) ∷ [])) ≡ length xs + 1
    long = length-append xs ((48 + d) ∷ [])

    each : (k : ℕ) → (k < length xs) ⊎ (length xs ≤ k) → k < length xs + 1 → (48 ≤ get_or (xs ++ ((48 + d) ∷ [])) k 0) × (get_or (xs ++ ((48 + d) ∷ [])) k 0 ≤ 57)
    each k (inl b) g = rw (get_or-append xs ((48 + d) ∷ []) 0 k b) (s.each_digit k b)
    each k (inr b) g =
        let e : k ≡ length xs = omega arith in
        rw (e, get_or-append_seam xs (48 + d) [] 0) (omega arith, omega arith)

pub spelled_spells : (n : ℕ) → n < 10 ^ 20 → Spells n (decimal n)
spelled_spells = spelled_by Spells first_spells last_spells

pub decimal-length : (n : ℕ) → n < 10 ^ 20 → length (decimal n) ≤ 20
decimal-length n h = length-decimal-le_wide 20 n (omega arith) h (omega arith)

-- ---- one more digit

pub one_more_lem : (x b : ℕ) → 0 < x → 47 < b → b < 58 → longer x b < 10 ^ 20 → decimal (longer x b) ≡ decimal x ++ (b ∷ [])
one_more_lem x b h l u s =
    let d : longer x b / 10 ≡ x = omega arith in
    let m : 48 + longer x b % 10 ≡ b = omega arith in
    decimal_step_wide (longer x b) (omega arith) (omega arith) ∙ ap₂ (λ y c. decimal y ++ (c ∷ [])) d m

-- ---- there are no other decimals of it

behind_le : (x : ℕ) (bs : List ℕ) → x ≤ said_behind x bs
unfolding said_behind
behind_le x [] = omega arith
behind_le x (b ∷ bs) = omega (arith, behind_le (longer x b) bs)

more-alone : (x : ℕ) (bs : List ℕ) → 0 < x → ((k : ℕ) → k < length bs → (48 ≤ get_or bs k 0) × (get_or bs k 0 ≤ 57)) → said_behind x bs < 10 ^ 20 → decimal x ++ bs ≡ decimal (said_behind x bs)
unfolding said_behind
more-alone x [] h d s = append-nil (decimal x)
more-alone x (b ∷ bs) h d s =
    let c : (48 ≤ b) × (b ≤ 57) = d 0 (omega arith) in
    let g : longer x b < 10 ^ 20 = omega (arith, behind_le (longer x b) bs) in
    let p : 0 < longer x b = omega arith in
    sym (append_snoc (decimal x) b bs)
    ∙ ap (λ xs. xs ++ bs) (sym (one_more_lem x b h (omega (arith, c)) (omega (arith, c)) g))
    ∙ more-alone (longer x b) bs p (λ k l. d (suc k) (omega (arith, l))) s

no_more : (bs : List ℕ) → length bs ≡ 0 → bs ≡ []
no_more [] e = refl
no_more (b ∷ bs) e = let y : ⊥ = omega (arith, e) in absurd y

pub alone : (n : ℕ) (digits : List ℕ) → n < 10 ^ 20 → Spells n digits → digits ≡ decimal n
unfolding said_behind
alone n [] h s = let y : ⊥ = omega (arith, s.a_digit) in absurd y
alone n (b ∷ bs) h s = ⊎_elim first other (below_or 48 b)
  where
    c : (48 ≤ b) × (b ≤ 57)
    c = s.each_digit 0 (omega arith)

    says : said_behind (b - 48) bs ≡ n
    says = let z : 0 * 10 + (b - 48) ≡ b - 48 = omega arith in rw z at s.says

    first : 48 < b → b ∷ bs ≡ decimal n
    first l =
        let e : b ≡ 48 + (b - 48) = omega arith in
        let p : 0 < b - 48 = omega arith in
        let u : b - 48 < 10 = omega (arith, c) in
        ap (λ x. x ∷ bs) e
        ∙ ap (λ xs. xs ++ bs) (sym (decimal_digit (b - 48) u))
        ∙ more-alone (b - 48) bs p (λ k g. s.each_digit (suc k) (omega (arith, g))) (rw says h)
        ∙ ap decimal says

    other : b ≤ 48 → b ∷ bs ≡ decimal n
    other l =
        let e : b ≡ 48 = omega (arith, c) in
        let z : (n ≡ 0) × (length (b ∷ bs) ≡ 1) = s.no_zeros e in
        ap₂ (λ x xs. x ∷ xs) e (no_more bs (omega (arith, z))) ∙ sym (decimal_digit 0 (omega arith)) ∙ ap decimal (sym z.0)
