-- Bytes loaded to the front of a list, and a stretch of a sheet loaded so.
use mathlib.Core.Path.{◌≡◌, refl, ◌∙◌, ap}
use mathlib.Core.List.{List, ◌++◌}
use Prim.Native.Nat.{ℕ, ◌+◌, ◌≤◌, min}
use native.Mathlib.Nat.{zero-add}
use native.Mathlib.Omega.{arith}
use lib.ListN.{length, get_or, take, drop, length-drop}
use lib.Seq.{length-take-le, get_or-take, get_or-drop}
use Rattle.base.specs.Lists.{fill}
use Rattle.base.proofs.Fill.{fill-same, fill_clipped}
use Rattle.base.proofs.Windows.{window-copied}

-- some bytes, or as many as there is room for, copied to the front of a list
pub filled : (bs xs ys : List ℕ) (k : ℕ) → k ≡ min (length bs) (length xs) → ys ≡ take k bs → ys ++ drop k xs ≡ fill (λ j. get_or bs j 0) (length bs) xs
filled bs xs ys k e h =
    ap (λ l. l ++ drop k xs) h
    ∙ window-copied bs xs 0 k (omega arith) (omega arith)
    ∙ fill-same (λ j. get_or bs (0 + j) 0) (λ j. get_or bs j 0) k xs (λ j b. ap (λ i. get_or bs i 0) (zero-add j))
    ∙ fill_clipped (λ j. get_or bs j 0) (length bs) (length xs) k xs _ refl e refl

-- a stretch of the sheet, loaded
pub stretch_loaded : (s : List ℕ) (m k : ℕ) (xs : List ℕ) → m + k ≤ length s → fill (λ j. get_or (take k (drop m s)) j 0) (length (take k (drop m s))) xs ≡ fill (λ j. get_or s (m + j) 0) k xs
stretch_loaded s m k xs h =
    let l : length (take k (drop m s)) ≡ k = length-take-le k (drop m s) (rw (length-drop m s) (omega arith)) in
    ap (λ n. fill (λ j. get_or (take k (drop m s)) j 0) n xs) l
    ∙ fill-same (λ j. get_or (take k (drop m s)) j 0) (λ j. get_or s (m + j) 0) k xs (λ j b. get_or-take k (drop m s) j 0 b ∙ get_or-drop m s j 0)
