-- An order's loops and checks: a turn counts an entry and what it did, and the code's tests are those of the definitions.
use mathlib.Core.Path.{◌≡◌, refl, sym, ◌∙◌, ap, ap₂}
use mathlib.Core.Bool.{Bool, true, false, cond, not, ◌&&◌}
use mathlib.Core.List.{List, [], ◌∷◌}
use Prim.Native.Nat.{ℕ, zero, suc, ◌+◌, ◌-◌, ◌^◌, ◌<◌, ◌≤◌}
use native.Mathlib.Numerals.{add-one}
use native.Mathlib.Omega.{arith}
use borrow.Author.Tests.{lt-ltb, le-ltb, eqb-true, ltb-false, not-true, ne_eqb}
use lib.Dec.{eqb, ltb}
use lib.ListN.{length, get_or, take}
use lib.Seq.{take-length}
use mir.Val.{bool_byte}
use Rattle.std.specs.List.{filter}
use Rattle.std.proofs.lemmas.List.Filters.{length-filter_more}
use Rattle.base.specs.Checks.{verdict}
use Rattle.base.proofs.Tests.{and_left, and_right}
use Rattle.nets.specs.Lists.{bit}
use Rattle.nets.specs.Orders.{Entry, entry_at, drains_asked}
use Rattle.plans.specs.declared.Plan.{Plan}
use Rattle.lanes.specs.declared.Network.{Network}
use Rattle.orders.specs.declared.Played.{Played}
use Rattle.orders.specs.Orders.{ActOn, act_on, playing, done_as, tried_on, grown, Tried, order_on, order_checked, order_answer, refused_order, OrderPromise}

-- ---- the drains asked for

drains-front : (e : ℕ → Entry) (n : ℕ) → drains_asked e (suc n) ≡ bit (eqb (e 0).kind 1) + drains_asked (λ t. e (suc t)) n
unfolding drains_asked
drains-front e zero = omega arith
drains-front e (suc n) = ap (λ x. x + bit (eqb (e (suc n)).kind 1)) (drains-front e n) ∙ omega arith

-- the entries of kind 1 of a list, whatever tells an entry's kind
pub drains-counted : {A : Type 0} (kind : A → ℕ) (none : A) (xs : List A) (e : ℕ → Entry) → ((t : ℕ) → (e t).kind ≡ kind (get_or xs t none))
    → length (filter (λ x. eqb (kind x) 1) xs) ≡ drains_asked e (length xs)
unfolding drains_asked
drains-counted kind none [] e h = refl
drains-counted kind none (x ∷ xs) e h =
    one (eqb (kind x) 1) ∙ ap₂ (λ a n. bit (eqb a 1) + n) (sym (h 0)) (drains-counted kind none xs (λ t. e (suc t)) (λ t. h (suc t))) ∙ sym (drains-front e (length xs))
  where
    one : (b : Bool) → length (cond b (x ∷ filter (λ x. eqb (kind x) 1) xs) (filter (λ x. eqb (kind x) 1) xs)) ≡ bit b + length (filter (λ x. eqb (kind x) 1) xs)
    one true = omega arith
    one false = omega arith

-- a turn of the count: the entry at i adds one where it is a drain
pub drains-more : {A : Type 0} (t : A → Bool) (none : A) (xs : List A) (i found more : ℕ) → i < length xs → found ≡ length (filter t (take i xs)) → found ≤ i
    → more ≡ bool_byte (t (get_or xs i none)) → (found + more ≡ length (filter t (take (i + 1) xs))) × (found + more ≤ i + 1)
drains-more t none xs i found more h e few m =
    let s = byte (t (get_or xs i none)) in
    (rw (e, m, s.0) (sym (length-filter_more t xs i none h)), omega (arith, few, m, s.1))
  where
    byte : (b : Bool) → (bool_byte b ≡ cond b 1 0) × (bool_byte b ≤ 1)
    byte true = (refl, omega arith)
    byte false = (refl, omega arith)

-- the end of the count: all entries are passed
pub drains-whole : {A : Type 0} (t : A → Bool) (xs : List A) (i found : ℕ) → i ≡ length xs → found ≡ length (filter t (take i xs)) → found ≡ length (filter t xs)
drains-whole t xs i found e h = h ∙ ap (λ n. length (filter t (take n xs))) e ∙ ap (λ ys. length (filter t ys)) (take-length xs)

-- ---- whether an order is played

pub checked_uneven : (b : Bool) → order_checked false b ≡ 12
unfolding order_checked verdict
checked_uneven b = refl

pub checked-short : order_checked true false ≡ 16
unfolding order_checked verdict
checked-short = refl

pub checked-all : order_checked true true ≡ 0
unfolding order_checked verdict
checked-all = refl

module _ (kinds indexes values : List ℕ) (places : ℕ) where
  abbrev even : Bool
  even = eqb (length kinds) (length indexes) && eqb (length kinds) (length values)

  abbrev asked : ℕ
  asked = drains_asked (entry_at kinds indexes values) (length kinds)

  pub asked_uneven : even ≡ false → 12 ≡ order_answer kinds indexes values places
  asked_uneven e = rw e (sym (checked_uneven (not (ltb places asked))))

  pub asked-short : (d : ℕ) → even ≡ true → d ≡ asked → places < d → 16 ≡ order_answer kinds indexes values places
  asked-short d e h l = rw (e, lt-ltb places asked (omega (arith, h, l))) (sym checked-short)

  pub asked-done : (d : ℕ) → even ≡ true → d ≡ asked → d ≤ places → 0 ≡ order_answer kinds indexes values places
  asked-done d e h l = rw (e, le-ltb places asked (omega (arith, h, l))) (sym checked-all)

  -- an order that is played has lists of one length, and places for its drains
  both_hold : (a b : Bool) → order_checked a b ≡ 0 → (a ≡ true) × (b ≡ true)
  both_hold true true e = (refl, refl)
  both_hold true false e = let z : ◌≡◌ {A = ℕ} 16 0 = sym checked-short ∙ e in let y : ⊥ = omega arith in absurd y
  both_hold false b e = let z : ◌≡◌ {A = ℕ} 12 0 = sym (checked_uneven b) ∙ e in let y : ⊥ = omega arith in absurd y

  pub lists_even : order_answer kinds indexes values places ≡ 0 → (length indexes ≡ length kinds) × (length values ≡ length kinds)
  lists_even e =
      let a = (both_hold even (not (ltb places asked)) e).0 in (
        sym (eqb-true (length kinds) (length indexes) (and_left (eqb (length kinds) (length indexes)) (eqb (length kinds) (length values)) a)),
        sym (eqb-true (length kinds) (length values) (and_right (eqb (length kinds) (length indexes)) (eqb (length kinds) (length values)) a)),
      )

  pub drains-fit : order_answer kinds indexes values places ≡ 0 → drains_asked (entry_at kinds indexes values) (length kinds) ≤ places
  drains-fit e = ltb-false places asked (not-true (ltb places asked) (both_hold even (not (ltb places asked)) e).1)

-- ---- an entry after the others

same-playing : {L M : Network} {a b d e f g : ℕ} {x y : List ℕ} → L ≡ M → a ≡ b → d ≡ e → f ≡ g → x ≡ y → playing L a d f x ≡ playing M b e g y
same-playing u v w x y = λ i. playing (u i) (v i) (w i) (x i) (y i)

bit-small : (b : Bool) → bit b ≤ 1
bit-small true = omega arith
bit-small false = omega arith

module _ (P : Plan) (L : Network) (e : ℕ → Entry) (lent : List ℕ) where
  -- what is done so far is what the first t entries do
  abbrev pub Plays : ℕ → Played → Network → List ℕ → Type 0
  Plays t p M zs =
      (p.answer ≡ 0)
      × (p.feeds ≤ t)
      × (p.drains ≤ t)
      × (p.firings ≤ t)
      × (playing M p.feeds p.drains p.firings zs ≡ order_on P L e lent t)

  pub plays-first : (p : Played) → p ≡ refused_order 0 → Plays 0 p L lent
  unfolding order_on
  plays-first p h = rw h (refl, omega arith, omega arith, omega arith, refl)

  -- a count that can still grow
  grows : (b : Bool) (n r t : ℕ) → n ≤ t → t < 2 ^ 64 - 1 → r ≡ grown b n → r ≡ n + bit b
  grows b n r t h l e = let s = bit-small b in omega (arith, e)

  pub plays-next : (t : ℕ) (p : Played) (M : Network) (zs : List ℕ) (r : Played) (M' : Network) (zs' : List ℕ) → t < 2 ^ 64 - 1 → Plays t p M zs
      → Tried P M zs p (e t) r M' zs'
      → Plays (t + 1) r M' zs'
  unfolding order_on
  plays-next t p M zs r M' zs' l h s =
      let a : ActOn = act_on P M (e t) in
      let x = grows (done_as 0 (e t) a) p.feeds r.feeds t h.1 l s.1 in
      let y = grows (done_as 1 (e t) a) p.drains r.drains t h.2 l s.2 in
      let z = grows (done_as 2 (e t) a) p.firings r.firings t h.3 l s.3 in (
        s.0 ∙ h.0,
        omega (arith, x, h.1, bit-small (done_as 0 (e t) a)),
        omega (arith, y, h.2, bit-small (done_as 1 (e t) a)),
        omega (arith, z, h.3, bit-small (done_as 2 (e t) a)),
        same-playing s.4 x y z s.5
            ∙ ap (λ U. tried_on U (e t) (act_on P U.network (e t))) h.4
            ∙ sym (ap (order_on P L e lent) (add-one t)),
      )

-- ---- the whole order, by its answer

module _ (P : Plan) (L : Network) (kinds indexes values lent : List ℕ) where
  abbrev answer : ℕ
  answer = order_answer kinds indexes values (length lent)

  pub order-refused : (p : Played) → p ≡ refused_order answer → (answer ≡ 0 → ⊥) → OrderPromise P L kinds indexes values lent p L lent
  order-refused p h z = rw (ne_eqb answer 0 z) (h, refl, refl)

  pub order-played : (n : ℕ) (p : Played) (M : Network) (zs : List ℕ) → n ≡ length kinds → answer ≡ 0 → Plays P L (entry_at kinds indexes values) lent n p M zs
      → OrderPromise P L kinds indexes values lent p M zs
  order-played n p M zs m z h =
      let g = h.4 ∙ ap (order_on P L (entry_at kinds indexes values) lent) m in
      rw z (λ i. record { answer = h.0 i; feeds = (g i).feeds; drains = (g i).drains; firings = (g i).firings }, ap (λ T. T.network) g, ap (λ T. T.lent) g)
