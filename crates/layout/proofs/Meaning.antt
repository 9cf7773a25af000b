-- What the search for a bad label entry answers, entry by entry: a place exactly where that entry is the first bad one, and good exactly where good entries fill the section.
use mathlib.Core.Path.{◌≡◌, refl, sym, ◌∙◌}
use mathlib.Core.Bool.{Bool, true, false, cond}
use mathlib.Core.Logic.{◌↔◌}
use mathlib.Core.List.{List}
use Prim.Native.Nat.{ℕ, zero, suc, ◌+◌, ◌-◌, ◌≤◌}
use native.Mathlib.Numerals.{add-one}
use native.Mathlib.Omega.{arith}
use borrow.Author.Tests.{leb-true, leb-false}
use lib.Dec.{leb}
use lib.ListN.{length}
use Rattle.std.specs.Prelude.{None, Some}
use Rattle.layout.specs.Labels.{entry_good, entry_node, entry_end, labels_from, label_check, Reached, start, next, BadEntry, Filled}
use Rattle.layout.proofs.Entries.{entry-within, labels-start, labels-bad, labels_next, labels-end}

module _ (nodes : ℕ) (s : List ℕ) where
  -- an entry takes bytes, and lies within the section
  record Place (e i : ℕ) : Type 0 where
    low : e ≤ i
    high : i ≤ length s

  place : {e i least : ℕ} → Reached nodes s e i least → Place e i
  place start = record { low = omega arith; high = omega arith }
  place (next {e} {i} {least} r h g) =
      let p = place r in
      record { low = omega (arith, p.low); high = entry-within nodes least s i g }

  -- the search from an entry that was reached is the whole search
  from-here : {e i least : ℕ} → Reached nodes s e i least → labels_from (length s - e) nodes s i least e ≡ label_check nodes s
  from-here start = labels-start nodes s 0 0 0
  from-here (next {e} {i} {least} r h g) =
      let p = place r in
      rw (← add-one e, ← add-one (entry_node s i)) (sym (labels_next nodes s i least e (omega (arith, p.low)) h g) ∙ from-here r)

  bad_on : (d i least e b : ℕ) → Reached nodes s e i least → (x y : Bool) → leb (length s) i ≡ x → entry_good nodes least s i ≡ y
      → cond x None (cond y (labels_from d nodes s (entry_end s i) (suc (entry_node s i)) (suc e)) (Some e)) ≡ Some b
      → (Reached nodes s (suc e) (entry_end s i) (suc (entry_node s i)) → labels_from d nodes s (entry_end s i) (suc (entry_node s i)) (suc e) ≡ Some b → BadEntry nodes s b)
      → BadEntry nodes s b
  bad_on d i least e b r true y q g h more = let z : ◌≡◌ {A = ℕ} 0 1 = cc in let n : ⊥ = omega arith in absurd n
  bad_on d i least e b r false true q g h more = more (next r (leb-false (length s) i q) g) h
  bad_on d i least e b r false false q g h more =
      let same : e ≡ b = cc in
      record {
        byte = i;
        least = least;
        reached = rw (← same) r;
        inside = leb-false (length s) i q;
        bad = g;
      }

  bad-from : (d i least e b : ℕ) → Reached nodes s e i least → labels_from d nodes s i least e ≡ Some b → BadEntry nodes s b
  unfolding labels_from
  bad-from zero i least e b r h = let z : ◌≡◌ {A = ℕ} 0 1 = cc in let n : ⊥ = omega arith in absurd n
  bad-from (suc d) i least e b r h = bad_on d i least e b r (leb (length s) i) (entry_good nodes least s i) refl refl h (λ r' h'. bad-from d (entry_end s i) (suc (entry_node s i)) (suc e) b r' h')

  to_bad : (b : ℕ) → BadEntry nodes s b → label_check nodes s ≡ Some b
  to_bad b f =
      let p = place f.reached in
      sym (from-here f.reached) ∙ labels-bad nodes s f.byte f.least b (omega (arith, p.low, f.inside)) f.inside f.bad

  pub label-bad : (b : ℕ) → (label_check nodes s ≡ Some b) ↔ BadEntry nodes s b
  label-bad b = (λ h. bad-from (length s) 0 0 0 b start h, to_bad b)

  at_end : (e i least : ℕ) → Reached nodes s e i least → length s ≤ i → Filled nodes s
  at_end e i least r h =
      let p = place r in
      let same : i ≡ length s = omega (arith, p.high) in
      record { entries = e; least = least; reached = rw (← same) r }

  good_on : (d i least e : ℕ) → Reached nodes s e i least → (x y : Bool) → leb (length s) i ≡ x → entry_good nodes least s i ≡ y
      → cond x None (cond y (labels_from d nodes s (entry_end s i) (suc (entry_node s i)) (suc e)) (Some e)) ≡ None
      → (Reached nodes s (suc e) (entry_end s i) (suc (entry_node s i)) → labels_from d nodes s (entry_end s i) (suc (entry_node s i)) (suc e) ≡ None → Filled nodes s)
      → Filled nodes s
  good_on d i least e r true y q g h more = at_end e i least r (leb-true (length s) i q)
  good_on d i least e r false true q g h more = more (next r (leb-false (length s) i q) g) h
  good_on d i least e r false false q g h more = let z : ◌≡◌ {A = ℕ} 0 1 = cc in let n : ⊥ = omega arith in absurd n

  good-from : (d i least e : ℕ) → Reached nodes s e i least → length s ≤ e + d → labels_from d nodes s i least e ≡ None → Filled nodes s
  unfolding labels_from
  good-from zero i least e r l h =
      let p = place r in
      at_end e i least r (omega (arith, p.low))
  good-from (suc d) i least e r l h = good_on d i least e r (leb (length s) i) (entry_good nodes least s i) refl refl h (λ r' h'. good-from d (entry_end s i) (suc (entry_node s i)) (suc e) r' (omega arith) h')

  to_good : Filled nodes s → label_check nodes s ≡ None
  to_good f = sym (from-here f.reached) ∙ labels-end nodes s (length s) f.least f.entries (length s - f.entries) (omega arith)

  pub label-good : (label_check nodes s ≡ None) ↔ Filled nodes s
  label-good = (λ h. good-from (length s) 0 0 0 start (omega arith) h, to_good)
