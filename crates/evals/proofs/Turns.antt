-- One turn of each pass.
use mathlib.Core.Path.{◌≡◌}
use mathlib.Core.Bool.{Bool}
use mathlib.Core.List.{List}
use Prim.Native.Nat.{ℕ, suc, ◌+◌, ◌-◌, ◌*◌, ◌≤◌}
use native.Mathlib.Numerals.{add-one}
use native.Mathlib.Omega.{arith}
use lib.Dec.{ltb}
use lib.ListN.{get_or, set}
use Rattle.evals.specs.Passes.{Fields, value_now, met_now, vals_after, mets_after, tokens_in, tokens_there}

pub vals-turn : (F : Fields) (held : List ℕ) (lo i x : ℕ) (l₀ l : List ℕ) → lo ≤ i → l ≡ vals_after F held lo (i - lo) l₀ → x ≡ value_now F held l i → set l i x ≡ vals_after F held lo (i + 1 - lo) l₀
unfolding vals_after
vals-turn F held lo i x l₀ l h e g =
    let s : i + 1 - lo ≡ suc (i - lo) = omega arith in
    let t : lo + (i - lo) ≡ i = omega arith in
    rw (s, t, g, ← e)

pub mets-turn : (F : Fields) (lo i : ℕ) (b : Bool) (l₀ l : List Bool) → lo ≤ i → l ≡ mets_after F lo (i - lo) l₀ → b ≡ met_now F l i → set l i b ≡ mets_after F lo (i + 1 - lo) l₀
unfolding mets_after
mets-turn F lo i b l₀ l h e g =
    let s : i + 1 - lo ≡ suc (i - lo) = omega arith in
    let t : lo + (i - lo) ≡ i = omega arith in
    rw (s, t, g, ← e)

pub tokens-turn : (cells : List ℕ) (q : ℕ) (l₀ l : List ℕ) → l ≡ tokens_in cells q l₀ → set l (1024 + q) (get_or cells (q * 16) 0) ≡ tokens_in cells (q + 1) l₀
unfolding tokens_in
tokens-turn cells q l₀ l e = rw (add-one q, e)

pub there-turn : (used : List ℕ) (q : ℕ) (l₀ l : List Bool) → l ≡ tokens_there used q l₀ → set l (1024 + q) (ltb 0 (get_or used q 0)) ≡ tokens_there used (q + 1) l₀
unfolding tokens_there
there-turn used q l₀ l e = rw (add-one q, e)

-- where a pass begins: after no node
pub vals-none : (F : Fields) (held : List ℕ) (lo : ℕ) (l : List ℕ) → l ≡ vals_after F held lo (lo - lo) l
unfolding vals_after
vals-none F held lo l = let s : lo - lo ≡ 0 = omega arith in rw s

pub mets-none : (F : Fields) (lo : ℕ) (l : List Bool) → l ≡ mets_after F lo (lo - lo) l
unfolding mets_after
mets-none F lo l = let s : lo - lo ≡ 0 = omega arith in rw s
