-- A stretch of a list, element by element: what `take` after `drop` holds. By induction on the stretch.
use mathlib.Core.Path.{◌≡◌, refl, sym, ◌∙◌, ap}
use mathlib.Core.List.{List, [], ◌∷◌, ◌++◌}
use Prim.Native.Nat.{ℕ, zero, suc, ◌+◌, ◌<◌, ◌≤◌}
use native.Mathlib.Nat.{add-suc, add-zero}
use native.Mathlib.Omega.{arith}
use lib.ListN.{length, get_or, take, drop, take-append-drop, length-drop}
use lib.Seq.{drop-cons, take-add, get_or-take, get_or-drop, ext_get_or, length-take-le}
use Rattle.base.specs.Lists.{fill}
use Rattle.std.proofs.lemmas.List.{drop-set-lt}
use borrow.Rule.Slice.PartMut.{put_mid}
use Rattle.base.proofs.Fill.{fill_at, fill-length}
use Rattle.base.proofs.Patch.{put_mid-patch, patch-front}

-- f i, f (i + 1), .., k of them
abbrev pub from : (ℕ → ℕ) → ℕ → ℕ → List ℕ
from f zero i = []
from f (suc k) i = f i ∷ from f k (suc i)

window-from : (s : List ℕ) (m k i : ℕ) → m + i + k ≤ length s → take k (drop (m + i) s) ≡ from (λ j. get_or s (m + j) 0) k i
window-from s m zero i h = refl
window-from s m (suc k) i h =
    rw (drop-cons s (m + i) 0 (omega arith))
    (ap (λ l. get_or s (m + i) 0 ∷ l) (rw (← add-suc m i) (window-from s m k (suc i) (omega arith))))

pub window : (s : List ℕ) (m k : ℕ) → m + k ≤ length s → take k (drop m s) ≡ from (λ j. get_or s (m + j) 0) k 0
window s m k h = ap (λ z. take k (drop z s)) (sym (add-zero m)) ∙ window-from s m k 0 (omega arith)

-- what was filled from a stretch is the stretch
pub fill-window : (s xs : List ℕ) (m k : ℕ) → m + k ≤ length s → k ≤ length xs → take k (fill (λ j. get_or s (m + j) 0) k xs) ≡ take k (drop m s)
fill-window s xs m k h l =
    let f : ℕ → ℕ = λ j. get_or s (m + j) 0 in
    let long : length (take k (fill f k xs)) ≡ k = length-take-le k (fill f k xs) (rw (fill-length f k xs) l) in
    let room : k ≤ length (drop m s) = rw (length-drop m s) (omega arith) in
    ext_get_or 0 (take k (fill f k xs)) (take k (drop m s)) (long ∙ sym (length-take-le k (drop m s) room))
    (λ i b.
    let u : i < k = rw long at b in
    get_or-take k (fill f k xs) i 0 u ∙ fill_at f k i xs u l ∙ sym (get_or-take k (drop m s) i 0 u ∙ get_or-drop m s i 0))

-- a list cut in four
pub in_four : (s : List ℕ) (a b c : ℕ) → take a s ++ take b (drop a s) ++ take c (drop (a + b) s) ++ drop (a + b + c) s ≡ s
in_four s a b c = rw (← take-add a b s, ← take-add (a + b) c s) (take-append-drop (a + b + c) s)

-- a stretch copied to the front of a list: what it is filled with, and behind it the list
behind : (f : ℕ → ℕ) (n k : ℕ) (xs : List ℕ) → n ≤ k → drop k (fill f n xs) ≡ drop k xs
unfolding fill
behind f zero k xs h = refl
behind f (suc n) k xs h = drop-set-lt k (fill f n xs) n (f n) h ∙ behind f n k xs (omega arith)

pub window-copied : (s xs : List ℕ) (m k : ℕ) → m + k ≤ length s → k ≤ length xs → put_mid 0 k xs (take k (drop m s)) ≡ fill (λ j. get_or s (m + j) 0) k xs
window-copied s xs m k h l =
    let f : ℕ → ℕ = λ j. get_or s (m + j) 0 in
    let bs : List ℕ = take k (drop m s) in
    let long : length bs ≡ k = length-take-le k (drop m s) (rw (length-drop m s) (omega arith)) in
    put_mid-patch 0 k xs bs bs refl (sym long)
    ∙ patch-front xs bs
    ∙ ap (λ n. bs ++ drop n xs) long
    ∙ sym (ap (λ l. l ++ drop k xs) (fill-window s xs m k h l))
    ∙ sym (ap (λ l. take k (fill f k xs) ++ l) (behind f k k xs (omega arith)))
    ∙ take-append-drop k (fill f k xs)
