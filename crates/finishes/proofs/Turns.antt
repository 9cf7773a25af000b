-- One turn of each pass, and the marked parts counted.
use Rattle.std.proofs.Common.{◌≡◌, ℕ, zero, suc, ◌+◌, ◌-◌, ◌<◌, ◌≤◌, Bool, true, false, cond, not, ◌&&◌, ltb, List, length, take, count_by, get_or, set, refl, sym, ap, ◌∙◌, le_refl, add-one, add-zero, arith}
use Rattle.std.proofs.lemmas.List.{set-get_or}
use Rattle.std.proofs.lemmas.List.Sums.{count_by_more_no, count_by_more_yes}
use Rattle.base.specs.Lists.{fill}
use Rattle.base.proofs.Fill.{fill_step, fill-past}
use Rattle.lanes.specs.Lanes.{take_used}
use Rattle.finishes.specs.Finishes.{part_in, below, held_by, cleared, take_if, used_after, cells_after, flags_after, finished}

pub below_none : (count : List ℕ) (limit lo : ℕ) (l : List Bool) → l ≡ below count limit lo (lo - lo) l
unfolding below
below_none count limit lo l = let s : lo - lo ≡ 0 = omega arith in rw s

pub below-turn : (count : List ℕ) (limit lo p : ℕ) (l₀ l : List Bool) → lo ≤ p → l ≡ below count limit lo (p - lo) l₀ → set l p (ltb (get_or count p 0) limit) ≡ below count limit lo (p + 1 - lo) l₀
unfolding below
below-turn count limit lo p l₀ l h e =
    let s : p + 1 - lo ≡ suc (p - lo) = omega arith in
    let t : lo + (p - lo) ≡ p = omega arith in
    rw (s, t, ← e)

pub cleared-turn : (from into : List ℕ) (flag : List Bool) (used : List ℕ) (q : ℕ) (l₀ l : List Bool)
    → l ≡ cleared from into flag used q l₀
    → held_by (held_by l (part_in from q) (get_or flag q false)) (part_in into q) (ltb 0 (get_or used q 0)) ≡ cleared from into flag used (q + 1) l₀
unfolding cleared
cleared-turn from into flag used q l₀ l e = rw (add-one q, e)

-- an element that is not yet filled is what it was
pub fill-turn : (f : ℕ → ℕ) (i v : ℕ) (xs l : List ℕ) → l ≡ fill f i xs → (get_or l i 0 ≡ get_or xs i 0 → v ≡ f i) → set l i v ≡ fill f (i + 1) xs
fill-turn f i v xs l e h = fill_step f i v xs l e (h (ap (λ k. get_or k i 0) e ∙ fill-past f i i xs (le_refl i)))

-- and stays so where nothing is stored
pub fill-kept : (f : ℕ → ℕ) (i : ℕ) (xs l : List ℕ) → l ≡ fill f i xs → get_or xs i 0 ≡ f i → l ≡ fill f (i + 1) xs
fill-kept f i xs l e h = sym (set-get_or l i 0) ∙ fill-turn f i (get_or l i 0) xs l e (λ k. k ∙ h)

pub used_turn : (into : List ℕ) (fin : List Bool) (q : ℕ) (u₀ u v : List ℕ) → u ≡ used_after into fin q u₀ → v ≡ cond (get_or fin (part_in into q) false && ltb 0 (get_or u q 0)) (take_used u q) u → v ≡ used_after into fin (q + 1) u₀
unfolding used_after
used_turn into fin q u₀ u v e g = rw (add-one q, ← e) g

pub cells-turn : (into : List ℕ) (fin : List Bool) (q : ℕ) (u₀ u c₀ c d : List ℕ) → u ≡ used_after into fin q u₀ → c ≡ cells_after into fin q u₀ c₀ → d ≡ take_if (get_or fin (part_in into q) false) u c q → d ≡ cells_after into fin (q + 1) u₀ c₀
unfolding cells_after
cells-turn into fin q u₀ u c₀ c d e k g = rw (add-one q, ← e, ← k) g

pub flags-turn : (from : List ℕ) (fin : List Bool) (q : ℕ) (f₀ f : List Bool) → f ≡ flags_after from fin q f₀ → set f q (get_or f q false && not (get_or fin (part_in from q) false)) ≡ flags_after from fin (q + 1) f₀
unfolding flags_after
flags-turn from fin q f₀ f e = rw (add-one q, ← e)

-- the marked ones among the first n
more : (fin : List Bool) (n : ℕ) (b : Bool) → n < length fin → get_or fin n false ≡ b → count_by (λ x. x) (take (n + 1) fin) ≡ count_by (λ x. x) (take n fin) + cond b 1 0
more fin n true h e = count_by_more_yes (λ x. x) fin n false h e
more fin n false h e = count_by_more_no (λ x. x) fin n false h e ∙ sym (add-zero (count_by (λ x. x) (take n fin)))

pub counted : (fin : List Bool) (n : ℕ) → n ≤ length fin → count_by (λ x. x) (take n fin) ≡ finished fin n
unfolding finished
counted fin zero h = refl
counted fin (suc n) h =
    ap (λ k. count_by (λ x. x) (take k fin)) (sym (add-one n))
    ∙ more fin n (get_or fin n false) (omega arith) refl
    ∙ ap (λ k. k + cond (get_or fin n false) 1 0) (counted fin n (omega arith))
