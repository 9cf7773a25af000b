-- A turn of the walk over the entries: the entry has the node, has another, or is cut off. An entry takes at least three bytes, so the bytes that are left are always turns enough.
use mathlib.Core.Path.{◌≡◌, refl, ap}
use mathlib.Core.Bool.{cond}
use mathlib.Core.List.{List}
use Prim.Native.Nat.{ℕ, zero, suc, ◌+◌, ◌-◌, ◌<◌, ◌≤◌}
use native.Mathlib.Omega.{arith}
use borrow.Author.Tests.{lt-leb, le-leb, eq-eqb, ne_eqb}
use lib.Dec.{eqb, leb}
use lib.ListN.{length}
use Rattle.layout.specs.Labels.{entry_node, entry_end}
use Rattle.texts.specs.Texts.{no_text, text_at, text_from, text_of}

module _ (s : List ℕ) (node : ℕ) where
  pub text_cut : (d i : ℕ) → length s < entry_end s i → text_from d s node i ≡ no_text
  unfolding text_from
  text_cut zero i h = refl
  text_cut (suc d) i h = rw (lt-leb (entry_end s i) (length s) h)

  -- turns beyond those that the bytes from i on need change nothing
  pub enough : (d d' i : ℕ) → length s ≤ i + d → length s ≤ i + d' → text_from d s node i ≡ text_from d' s node i
  unfolding text_from
  enough zero zero i h h' = refl
  enough zero (suc d') i h h' = rw (lt-leb (entry_end s i) (length s) (omega arith))
  enough (suc d) zero i h h' = rw (lt-leb (entry_end s i) (length s) (omega arith))
  enough (suc d) (suc d') i h h' =
      ap (λ t. cond (leb (entry_end s i) (length s)) (cond (eqb (entry_node s i) node) (text_at s i) t) no_text) (enough d d' (entry_end s i) (omega arith) (omega arith))

  pub text-start : text_from (length s - 0) s node 0 ≡ text_of s node
  text-start = ap (λ d. text_from d s node 0) (omega arith)

  pub text-here : (i : ℕ) → entry_end s i ≤ length s → entry_node s i ≡ node → text_from (length s - i) s node i ≡ text_at s i
  unfolding text_from
  text-here i h e =
      let d : length s - i ≡ suc (length s - suc i) = omega arith in
      rw (d, le-leb (entry_end s i) (length s) h, eq-eqb (entry_node s i) node e)

  pub text-next : (i : ℕ) → entry_end s i ≤ length s → (entry_node s i ≡ node → ⊥) → text_from (length s - i) s node i ≡ text_from (length s - entry_end s i) s node (entry_end s i)
  unfolding text_from
  text-next i h e =
      let d : length s - i ≡ suc (length s - suc i) = omega arith in
      rw (d, le-leb (entry_end s i) (length s) h, ne_eqb (entry_node s i) node e)
      (enough (length s - suc i) (length s - entry_end s i) (entry_end s i) (omega arith) (omega arith))
