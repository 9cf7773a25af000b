-- A turn of the search for a bad label entry: the entry is bad, is good and lies within the section, or there is none.
use mathlib.Core.Path.{◌≡◌, refl, sym, ◌∙◌, ap}
use mathlib.Core.Bool.{Bool, true, false, ◌&&◌}
use mathlib.Core.List.{List}
use Prim.Native.Nat.{ℕ, zero, suc, ◌+◌, ◌-◌, ◌<◌, ◌≤◌}
use native.Mathlib.Numerals.{add-one}
use native.Mathlib.Omega.{arith}
use borrow.Author.Tests.{lt-leb, le-leb, leb-true}
use lib.Dec.{ltb, leb}
use lib.ListN.{length, get_or, take, drop, length-drop}
use lib.Seq.{length-take-le, get_or-take, get_or-drop}
use Rattle.std.specs.Prelude.{None, Some, SomeIff}
use Rattle.std.specs.Bool.{then_some}
use Rattle.std.specs.List.{list_all}
use Rattle.base.specs.Checks.{every}
use Rattle.base.proofs.Tests.{and_left, all-every}
use Rattle.layout.specs.declared.labels.Entry.{Entry}
use Rattle.layout.specs.Labels.{text_byte, text_good, entry_good, entry_node, entry_length, entry_end, labels_from, label_check}

pub entry-within : (nodes least : ℕ) (s : List ℕ) (i : ℕ) → entry_good nodes least s i ≡ true → entry_end s i ≤ length s
unfolding entry_good
entry-within nodes least s i e = leb-true (entry_end s i) (length s) (and_left _ _ (and_left _ _ e))

module _ (nodes : ℕ) (s : List ℕ) (i least e : ℕ) where
  pub labels-start : labels_from (length s - 0) nodes s 0 0 0 ≡ label_check nodes s
  labels-start = ap (λ d. labels_from d nodes s 0 0 0) (omega arith)

  pub labels-bad : e < length s → i < length s → entry_good nodes least s i ≡ false → labels_from (length s - e) nodes s i least e ≡ Some e
  unfolding labels_from
  labels-bad h l f =
      let d : length s - e ≡ suc (length s - suc e) = omega arith in
      rw (d, lt-leb (length s) i l, f)

  pub labels_next : e < length s → i < length s → entry_good nodes least s i ≡ true → labels_from (length s - e) nodes s i least e ≡ labels_from (length s - (e + 1)) nodes s (entry_end s i) (entry_node s i + 1) (e + 1)
  unfolding labels_from
  labels_next h l f =
      let d : length s - e ≡ suc (length s - suc e) = omega arith in
      rw (add-one e, add-one (entry_node s i), d, lt-leb (length s) i l, f)

  pub labels-end : (d : ℕ) → length s ≤ i → labels_from d nodes s i least e ≡ None
  unfolding labels_from
  labels-end zero l = refl
  labels-end (suc d) l = rw (le-leb (length s) i l)

-- the bytes of a stretch, as the stretch is lent
pub stretch-text : (s : List ℕ) (i n : ℕ) → i + n ≤ length s → list_all text_byte (take n (drop i s)) ≡ text_good s i n
unfolding text_good
stretch-text s i n h =
    let long : length (take n (drop i s)) ≡ n = length-take-le n (drop i s) (rw (length-drop i s) (omega arith)) in
    all-every text_byte (λ j. text_byte (get_or s (i + j) 0)) (take n (drop i s))
    (λ j b. ap text_byte (get_or-take n (drop i s) j 0 (rw long at b) ∙ get_or-drop i s j 0))
    ∙ ap (λ k. every (λ j. text_byte (get_or s (i + j) 0)) k) long

found_if : (b t : Bool) (e : Entry) → b ≡ t → SomeIff (then_some b e) (t ≡ true) e
found_if true t e h = (sym h, refl)
found_if false t e h = λ g. let z : ◌≡◌ {A = ℕ} 0 1 = cc in let y : ⊥ = omega arith in absurd y

-- an entry that lies within the section is good by the rest of its tests
pub entry-judged : (nodes least : ℕ) (s : List ℕ) (i node : ℕ) (text : Bool) → node ≡ entry_node s i → text ≡ text_good s (i + 3) (entry_length s i) → entry_end s i ≤ length s
    → SomeIff {T = Entry} (then_some (ltb node nodes && leb least node && leb 1 (entry_length s i) && leb (entry_length s i) 31 && text) (record { node = node; end = entry_end s i }))
    (entry_good nodes least s i ≡ true)
    (record { node = entry_node s i; end = entry_end s i })
unfolding entry_good
entry-judged nodes least s i node text e t h =
    rw (le-leb (entry_end s i) (length s) h, ← e, ← t)
    (found_if (ltb node nodes && leb least node && leb 1 (entry_length s i) && leb (entry_length s i) 31 && text) _ (record { node = node; end = entry_end s i }) refl)
