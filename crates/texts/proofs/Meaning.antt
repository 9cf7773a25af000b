-- What is found, entry by entry: the nodes of the entries before are smaller than what the entry at hand must have at least, so the walk passes them by and stops at the entry that has the node.
use mathlib.Core.Path.{◌≡◌, refl, sym, ◌∙◌, ap}
use mathlib.Core.Bool.{Bool, true, false, cond}
use mathlib.Core.List.{List}
use Prim.Native.Nat.{ℕ, zero, suc, ◌+◌, ◌-◌, ◌<◌, ◌≤◌}
use native.Mathlib.Omega.{arith}
use borrow.Author.Tests.{leb-true, eqb-true}
use lib.Dec.{eqb, leb}
use lib.ListN.{length}
use Rattle.std.specs.Prelude.{None}
use Rattle.layout.specs.Labels.{entry_node, entry_end, label_check, Reached, start, next}
use Rattle.texts.specs.Texts.{Found, no_text, text_at, text_from, text_of}
use Rattle.texts.specs.Meaning.{EntryOf, TextFound, TextMissing, OneEntry, EntryExists, TextWithin, TextLength}
use Rattle.texts.proofs.Walk.{text-start, text-here, text-next}
use Rattle.texts.proofs.Rules.{rule, good-here, rule-here}

-- nothing found is no text
apart : (s : List ℕ) (t : Found) (i : ℕ) → t ≡ no_text → t ≡ text_at s i → ⊥
apart s t i e f =
    let z : ◌≡◌ {A = ℕ} 0 1 = cc (ap (λ x. x.found) (sym e ∙ f)) in
    omega arith

same_byte : (s : List ℕ) (i j : ℕ) → text_at s i ≡ text_at s j → i ≡ j
same_byte s i j e = let f : i + 3 ≡ j + 3 = ap (λ x. x.from) e in omega arith

module _ (nodes : ℕ) (s : List ℕ) (node : ℕ) (g : label_check nodes s ≡ None) where
  -- the walk from an entry that was reached is the whole walk, while the nodes are smaller
  from-here : {e i least : ℕ} → Reached nodes s e i least → least ≤ node → text_from (length s - i) s node i ≡ text_of s node
  from-here start h = text-start s node
  from-here (next {e} {i} {least} r l q) h =
      let u = rule nodes least s i q in
      sym (text-next s node i u.within (λ z. omega arith)) ∙ from-here r (omega (arith, u.rises))

  to_found : (i : ℕ) → EntryOf nodes s node i → text_of s node ≡ text_at s i
  to_found i f =
      let u = rule-here nodes s f.entry i f.least g f.reached f.inside in
      sym (from-here f.reached (omega (arith, u.rises, f.names))) ∙ text-here s node i u.within f.names

  found_on : (d e i least j : ℕ) → Reached nodes s e i least → (x y : Bool) → leb (entry_end s i) (length s) ≡ x → eqb (entry_node s i) node ≡ y
      → cond x (cond y (text_at s i) (text_from d s node (entry_end s i))) no_text ≡ text_at s j
      → (Reached nodes s (suc e) (entry_end s i) (suc (entry_node s i)) → text_from d s node (entry_end s i) ≡ text_at s j → EntryOf nodes s node j)
      → EntryOf nodes s node j
  found_on d e i least j r true true p q h more =
      let same : i ≡ j = same_byte s i j h in
      rw (← same) (record {
        entry = e;
        least = least;
        reached = r;
        inside = omega (arith, leb-true (entry_end s i) (length s) p);
        names = eqb-true (entry_node s i) node q;
      })
  found_on d e i least j r true false p q h more =
      let l : i < length s = omega (arith, leb-true (entry_end s i) (length s) p) in
      more (next r l (good-here nodes s e i least g r l)) h
  found_on d e i least j r false y p q h more = absurd (apart s no_text j refl h)

  found_from : (d e i least j : ℕ) → Reached nodes s e i least → text_from d s node i ≡ text_at s j → EntryOf nodes s node j
  unfolding text_from
  found_from zero e i least j r h = absurd (apart s no_text j refl h)
  found_from (suc d) e i least j r h =
      found_on d e i least j r (leb (entry_end s i) (length s)) (eqb (entry_node s i) node) refl refl h
      (λ r' h'. found_from d (suc e) (entry_end s i) (suc (entry_node s i)) j r' h')

pub text-found : TextFound
text-found nodes s node i g = (λ h. found_from nodes s node g (length s) 0 0 0 i start h, to_found nodes s node g i)

-- What the walk gives is no text, or that of an entry that lies within the section.
pub data Given (s : List ℕ) (t : Found) : Type 0 where
  none : t ≡ no_text → Given s t
  some : (j : ℕ) → entry_end s j ≤ length s → t ≡ text_at s j → Given s t

given_on : (s : List ℕ) (i : ℕ) (t : Found) (x y : Bool) → leb (entry_end s i) (length s) ≡ x → Given s t → Given s (cond x (cond y (text_at s i) t) no_text)
given_on s i t true true e g = some i (leb-true (entry_end s i) (length s) e) refl
given_on s i t true false e g = g
given_on s i t false y e g = none refl

given-from : (s : List ℕ) (node d i : ℕ) → Given s (text_from d s node i)
unfolding text_from
given-from s node zero i = none refl
given-from s node (suc d) i = given_on s i (text_from d s node (entry_end s i)) (leb (entry_end s i) (length s)) (eqb (entry_node s i) node) refl (given-from s node d (entry_end s i))

pub given : (s : List ℕ) (node : ℕ) → Given s (text_of s node)
given s node = given-from s node (length s) 0

none_on : (nodes : ℕ) (s : List ℕ) (node : ℕ) → label_check nodes s ≡ None → Given s (text_of s node) → ((i : ℕ) → EntryOf nodes s node i → ⊥) → text_of s node ≡ no_text
none_on nodes s node g (none e) f = e
none_on nodes s node g (some j h e) f = absurd (f j ((text-found nodes s node j g).0 e))

pub text_missing : TextMissing
text_missing nodes s node g =
    (λ e i f. apart s (text_of s node) i e ((text-found nodes s node i g).1 f), none_on nodes s node g (given s node))

pub one_entry : OneEntry
one_entry nodes s node i j g p q = same_byte s i j (sym ((text-found nodes s node i g).1 p) ∙ (text-found nodes s node j g).1 q)

pub entry-exists : EntryExists
entry-exists nodes s node i g f = rw (← f.names) (rule-here nodes s f.entry i f.least g f.reached f.inside).exists

within_on : (s : List ℕ) (t : Found) → Given s t → t.from + t.length ≤ length s
within_on s t (none e) = rw e (omega arith)
within_on s t (some j h e) = rw e h

pub text-within : TextWithin
text-within s node = within_on s (text_of s node) (given s node)

length_on : (nodes : ℕ) (s : List ℕ) (node : ℕ) → label_check nodes s ≡ None → (text_of s node).found ≡ true → Given s (text_of s node) → (1 ≤ (text_of s node).length) × ((text_of s node).length ≤ 31)
length_on nodes s node g f (none e) =
    let z : ◌≡◌ {A = ℕ} 0 1 = cc (sym (ap (λ x. x.found) e) ∙ f) in
    let y : ⊥ = omega arith in
    absurd y
length_on nodes s node g f (some j h e) =
    let p = (text-found nodes s node j g).0 e in
    let u = rule-here nodes s p.entry j p.least g p.reached p.inside in
    rw e (u.some_bytes, u.few_bytes)

pub text-length : TextLength
text-length nodes s node g f = length_on nodes s node g f (given s node)
