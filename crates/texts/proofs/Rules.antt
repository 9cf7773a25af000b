-- The rule of a good label entry, part by part; and in a section of good entries each one that is reached is good, since a bad one would have been named.
use mathlib.Core.Path.{◌≡◌, refl}
use mathlib.Core.Bool.{Bool, true, false, ◌&&◌}
use mathlib.Core.List.{List}
use Prim.Native.Nat.{ℕ, ◌+◌, ◌<◌, ◌≤◌}
use native.Mathlib.Omega.{arith}
use borrow.Author.Tests.{leb-true, ltb-true}
use lib.Dec.{ltb, leb}
use lib.ListN.{length}
use Rattle.std.specs.Prelude.{None, Some}
use Rattle.base.proofs.Tests.{and_left, and_right, and_four}
use Rattle.layout.specs.Labels.{entry_node, entry_length, entry_end, text_good, entry_good, label_check, Reached}
use Rattle.layout.proofs.Meaning.{label-bad}

pub record Rule (nodes least : ℕ) (s : List ℕ) (i : ℕ) : Type 0 where
  pub within : entry_end s i ≤ length s
  pub exists : entry_node s i < nodes
  pub rises : least ≤ entry_node s i
  pub some_bytes : 1 ≤ entry_length s i
  pub few_bytes : entry_length s i ≤ 31

pub rule : (nodes least : ℕ) (s : List ℕ) (i : ℕ) → entry_good nodes least s i ≡ true → Rule nodes least s i
unfolding entry_good
rule nodes least s i e =
    let w : Bool = leb (entry_end s i) (length s) in
    let x : Bool = ltb (entry_node s i) nodes in
    let y : Bool = leb least (entry_node s i) in
    let u : Bool = leb 1 (entry_length s i) in
    let v : Bool = leb (entry_length s i) 31 in
    let t : Bool = text_good s (i + 3) (entry_length s i) in
    let front : (w && (x && y && u && v)) ≡ true = and_left (w && (x && y && u && v)) t e in
    let f = and_four x y u v (and_right w (x && y && u && v) front) in
    record {
      within = leb-true (entry_end s i) (length s) (and_left w (x && y && u && v) front);
      exists = ltb-true (entry_node s i) nodes f.0;
      rises = leb-true least (entry_node s i) f.1;
      some_bytes = leb-true 1 (entry_length s i) f.2;
      few_bytes = leb-true (entry_length s i) 31 f.3;
    }

module _ (nodes : ℕ) (s : List ℕ) where
  good_on : {e i least : ℕ} → (b : Bool) → entry_good nodes least s i ≡ b → label_check nodes s ≡ None → Reached nodes s e i least → i < length s → entry_good nodes least s i ≡ true
  good_on true q g r h = q
  good_on {e} {i} {least} false q g r h =
      let f : label_check nodes s ≡ Some e = (label-bad nodes s e).1 (record { byte = i; least = least; reached = r; inside = h; bad = q }) in
      let z : ◌≡◌ {A = ℕ} 0 1 = cc in
      let y : ⊥ = omega arith in
      absurd y

  pub good-here : (e i least : ℕ) → label_check nodes s ≡ None → Reached nodes s e i least → i < length s → entry_good nodes least s i ≡ true
  good-here e i least g r h = good_on (entry_good nodes least s i) refl g r h

  pub rule-here : (e i least : ℕ) → label_check nodes s ≡ None → Reached nodes s e i least → i < length s → Rule nodes least s i
  rule-here e i least g r h = rule nodes least s i (good-here e i least g r h)
