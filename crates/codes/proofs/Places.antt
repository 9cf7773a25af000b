-- The table's places by ranges, computed once over all 256 code bytes.
use mathlib.Core.Path.{◌≡◌, sym, ◌∙◌}
use mathlib.Core.Bool.{Bool, cond}
use Prim.Native.Nat.{ℕ, ◌-◌, ◌<◌}
use native.Mathlib.Omega.{arith}
use lib.Dec.{eqb, ltb, eqb→eq}
use Rattle.base.proofs.Tests.{below}
use Rattle.codes.specs.Rows.{rows, place, place_of}

abbrev pub by_range : ℕ → ℕ
by_range c =
    cond (ltb c 0x03) c
    (cond (ltb c 0x10) 19
    (cond (ltb c 0x14) (c - 0x0D)
    (cond (ltb c 0x20) 19
    (cond (ltb c 0x25) (c - 0x19)
    (cond (ltb c 0x30) 19
    (cond (ltb c 0x32) (c - 0x24)
    (cond (ltb c 0x40) 19
    (cond (ltb c 0x42) (c - 0x32)
    (cond (ltb c 0x50) 19
    (cond (ltb c 0x53) (c - 0x40) 19))))))))))

abbrev same : ℕ → Bool
same c = eqb (place_of c) (by_range c)

pub ranges : (c : ℕ) → c < 256 → place_of c ≡ by_range c
unfolding rows place
ranges c h = eqb→eq (place_of c) (by_range c) (below same 256 tt c h)

-- what a range gives is the place, and there is a row there
pub found : (c p : ℕ) → c < 256 → by_range c ≡ p → p < 19 → (place_of c < 19) × (p ≡ place_of c)
found c p h e l =
    let f : place_of c ≡ p = ranges c h ∙ e in
    (rw f l, sym f)

pub none : (c : ℕ) → c < 256 → by_range c ≡ 19 → place_of c < 19 → ⊥
none c h e l =
    let f : place_of c ≡ 19 = ranges c h ∙ e in
    omega arith
