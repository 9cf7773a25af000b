-- How far a line's bytes go along the form of a command: at each place the line is known, and a further byte leads to a place where it is known again.
use mathlib.Core.Path.{◌≡◌, refl, sym, ap, ap₂, ◌∙◌}
use mathlib.Core.Bool.{Bool, true, false, ◌&&◌}
use mathlib.Core.List.{List, [], ◌∷◌, ◌++◌, append-nil, append_assoc}
use Prim.Native.Nat.{ℕ, ◌+◌, ◌-◌, ◌*◌, ◌^◌, ◌<◌}
use native.Mathlib.Omega.{arith}
use borrow.Author.Tests.{lt-ltb, eqb-true}
use lib.Dec.{eqb}
use lib.Seq.{append_snoc}
use Rattle.base.proofs.Tests.{and_left, and_right}
use Rattle.lines.specs.declared.Reading.{Reading}
use Rattle.std.specs.Fmt.{decimal}
use Rattle.lines.specs.Commands.{reading, nothing, bad, is_digit, longer, goes_on, byte_read, bytes_read}
use Rattle.lines.proofs.Bytes.{digit_bounds, goes_digit, goes_bounds}
use Rattle.std.proofs.lemmas.Fmt.{decimal_digit}
use Rattle.lines.proofs.Digits.{spelled_by, one_more_lem}

-- ---- a text read: what is read of its front, and from there the rest

pub append_read : (R : Reading) (xs ys : List ℕ) → bytes_read R (xs ++ ys) ≡ bytes_read (bytes_read R xs) ys
unfolding bytes_read
append_read R [] ys = refl
append_read R (b ∷ xs) ys = append_read (byte_read R b) xs ys

is_digit_lem : (d : ℕ) → d < 10 → is_digit (48 + d) ≡ true
unfolding is_digit
is_digit_lem d h = rw (lt-ltb 47 (48 + d) (omega arith), lt-ltb (48 + d) 58 (omega arith))

goes_on_lem : (m d : ℕ) → 0 < m → d < 10 → m * 10 + d < 2 ^ 32 → goes_on m (48 + d) ≡ true
unfolding goes_on
goes_on_lem m d h l s = rw (is_digit_lem d l, lt-ltb 0 m h, lt-ltb (longer m (48 + d)) (2 ^ 32) (omega arith))

-- a number is read as itself from s, where s takes a first digit and `at` further ones
module _ (s : Reading) (at : ℕ → Reading) (one : (b : ℕ) → is_digit b ≡ true → byte_read s b ≡ at (b - 48)) (more : (x b : ℕ) → goes_on x b ≡ true → byte_read (at x) b ≡ at (longer x b)) where
  abbrev Read : ℕ → List ℕ → Type 0
  Read n xs = n < 2 ^ 32 → bytes_read s xs ≡ at n

  first_read : (n : ℕ) → n < 10 → Read n ((48 + n) ∷ [])
  unfolding bytes_read
  first_read n h l = let e : 48 + n - 48 ≡ n = omega arith in one (48 + n) (is_digit_lem n h) ∙ ap at e

  last-read : (m d : ℕ) (xs : List ℕ) → 0 < m → d < 10 → Read m xs → Read (m * 10 + d) (xs ++ ((48 + d) ∷ []))
  unfolding bytes_read
  last-read m d xs h k r l =
      let e : longer m (48 + d) ≡ m * 10 + d = omega arith in
      let g : m < 2 ^ 32 = omega arith in
      append_read s xs ((48 + d) ∷ []) ∙ ap (λ R. byte_read R (48 + d)) (r g) ∙ more m (48 + d) (goes_on_lem m d h k l) ∙ ap at e

  pub number_read : (n : ℕ) → n < 2 ^ 32 → bytes_read s (decimal n) ≡ at n
  number_read n h = spelled_by Read first_read last-read n (omega arith) h

-- ---- each place, with the line that leads there

-- a command's letter, and its kind
pub data Letter : ℕ → ℕ → Type 0 where
  feeds : Letter 102 0
  drains : Letter 100 1
  fires : Letter 114 2

pub data Way (line : List ℕ) (R : Reading) : Type 0 where
  start : line ≡ [] → R ≡ nothing → Way line R
  letter : (c k : ℕ) → Letter c k → line ≡ c ∷ [] → R ≡ reading 1 k 0 0 → Way line R
  space : (c k : ℕ) → Letter c k → line ≡ c ∷ 32 ∷ [] → R ≡ reading 2 k 0 0 → Way line R
  number : (c k i : ℕ) → Letter c k → i < 2 ^ 32 → line ≡ c ∷ 32 ∷ decimal i → R ≡ reading 3 k i 0 → Way line R
  number-space : (i : ℕ) → i < 2 ^ 32 → line ≡ 102 ∷ 32 ∷ decimal i ++ (32 ∷ []) → R ≡ reading 4 0 i 0 → Way line R
  numbers : (i v : ℕ) → i < 2 ^ 32 → v < 2 ^ 32 → line ≡ 102 ∷ 32 ∷ decimal i ++ (32 ∷ decimal v) → R ≡ reading 5 0 i v → Way line R
  all-rules : line ≡ 97 ∷ [] → R ≡ reading 6 3 0 0 → Way line R
  no_way : R ≡ bad → Way line R

feed-letter : {c k : ℕ} → Letter c k → k ≡ 0 → c ≡ 102
feed-letter feeds e = refl
feed-letter drains e = let y : ⊥ = omega (arith, e) in absurd y
feed-letter fires e = let y : ⊥ = omega (arith, e) in absurd y

-- a digit's decimal, and that of a number that goes on
digit_decimal : (b : ℕ) → is_digit b ≡ true → b ∷ [] ≡ decimal (b - 48)
digit_decimal b t =
    let d : (47 < b) × (b < 58) = digit_bounds b t in
    let e : b ≡ 48 + (b - 48) = omega (arith, d) in
    let l : b - 48 < 10 = omega (arith, d) in
    ap (λ x. x ∷ []) e ∙ sym (decimal_digit (b - 48) l)

digit_small : (b : ℕ) → is_digit b ≡ true → b - 48 < 2 ^ 32
digit_small b t = omega (arith, digit_bounds b t)

longer-decimal : (x b : ℕ) → goes_on x b ≡ true → decimal x ++ (b ∷ []) ≡ decimal (longer x b)
longer-decimal x b t =
    let d : (47 < b) × (b < 58) = digit_bounds b (goes_digit x b t) in
    let g : (0 < x) × (longer x b < 2 ^ 32) = goes_bounds x b t in
    sym (one_more_lem x b g.0 d.0 d.1 (omega (arith, g)))

-- a further byte at a place, by the tests on it
module _ (line : List ℕ) (R : Reading) (b : ℕ) where
  abbrev Next : Type 0
  Next = Way (line ++ (b ∷ [])) (byte_read R b)

  byte-first : line ≡ [] → R ≡ nothing → Next
  unfolding byte_read
  byte-first e f = go (eqb b 102) (eqb b 100) (eqb b 114) (eqb b 97) refl refl refl refl
    where
      line_is : (c : ℕ) → eqb b c ≡ true → line ++ (b ∷ []) ≡ c ∷ []
      line_is c t = ap₂ (λ l x. l ++ (x ∷ [])) e (eqb-true b c t)

      go : (t u v w : Bool) → eqb b 102 ≡ t → eqb b 100 ≡ u → eqb b 114 ≡ v → eqb b 97 ≡ w → Next
      go true u v w p q r s = letter 102 0 feeds (line_is 102 p) (ap (λ R. byte_read R b) f ∙ rw p)
      go false true v w p q r s = letter 100 1 drains (line_is 100 q) (ap (λ R. byte_read R b) f ∙ rw (p, q))
      go false false true w p q r s = letter 114 2 fires (line_is 114 r) (ap (λ R. byte_read R b) f ∙ rw (p, q, r))
      go false false false true p q r s = all-rules (line_is 97 s) (ap (λ R. byte_read R b) f ∙ rw (p, q, r, s))
      go false false false false p q r s = no_way (ap (λ R. byte_read R b) f ∙ rw (p, q, r, s))

  byte-letter : (c k : ℕ) → Letter c k → line ≡ c ∷ [] → R ≡ reading 1 k 0 0 → Next
  unfolding byte_read
  byte-letter c k l e f = go (eqb b 32) refl
    where
      go : (t : Bool) → eqb b 32 ≡ t → Next
      go true t = space c k l (ap₂ (λ l x. l ++ (x ∷ [])) e (eqb-true b 32 t)) (ap (λ R. byte_read R b) f ∙ rw t)
      go false t = no_way (ap (λ R. byte_read R b) f ∙ rw t)

  byte-space : (c k : ℕ) → Letter c k → line ≡ c ∷ 32 ∷ [] → R ≡ reading 2 k 0 0 → Next
  unfolding byte_read
  byte-space c k l e f = go (is_digit b) refl
    where
      go : (t : Bool) → is_digit b ≡ t → Next
      go true t =
          number c k (b - 48) l (digit_small b t) (ap (λ l. l ++ (b ∷ [])) e ∙ ap (λ xs. c ∷ 32 ∷ xs) (digit_decimal b t)) (ap (λ R. byte_read R b) f ∙ rw t)
      go false t = no_way (ap (λ R. byte_read R b) f ∙ rw t)

  byte-number : (c k i : ℕ) → Letter c k → i < 2 ^ 32 → line ≡ c ∷ 32 ∷ decimal i → R ≡ reading 3 k i 0 → Next
  unfolding byte_read
  byte-number c k i l h e f = go (goes_on i b) (eqb b 32 && eqb k 0) refl refl
    where
      go : (t u : Bool) → goes_on i b ≡ t → (eqb b 32 && eqb k 0) ≡ u → Next
      go true u p q =
          number c k (longer i b) l (goes_bounds i b p).1 (ap (λ l. l ++ (b ∷ [])) e ∙ ap (λ xs. c ∷ 32 ∷ xs) (longer-decimal i b p)) (ap (λ R. byte_read R b) f ∙ rw p)
      go false true p q =
          let s : b ≡ 32 = eqb-true b 32 (and_left (eqb b 32) (eqb k 0) q) in
          let z : c ≡ 102 = feed-letter l (eqb-true k 0 (and_right (eqb b 32) (eqb k 0) q)) in
          number-space i h (ap (λ l. l ++ (b ∷ [])) e ∙ ap₂ (λ x y. x ∷ 32 ∷ decimal i ++ (y ∷ [])) z s) (ap (λ R. byte_read R b) f ∙ rw (p, q))
      go false false p q = no_way (ap (λ R. byte_read R b) f ∙ rw (p, q))

  byte-number-space : (i : ℕ) → i < 2 ^ 32 → line ≡ 102 ∷ 32 ∷ decimal i ++ (32 ∷ []) → R ≡ reading 4 0 i 0 → Next
  unfolding byte_read
  byte-number-space i h e f = go (is_digit b) refl
    where
      go : (t : Bool) → is_digit b ≡ t → Next
      go true t =
          numbers i (b - 48) h (digit_small b t)
          (ap (λ l. l ++ (b ∷ [])) e ∙ append_assoc (102 ∷ 32 ∷ decimal i) (32 ∷ []) (b ∷ []) ∙ ap (λ xs. 102 ∷ 32 ∷ decimal i ++ (32 ∷ xs)) (digit_decimal b t))
          (ap (λ R. byte_read R b) f ∙ rw t)
      go false t = no_way (ap (λ R. byte_read R b) f ∙ rw t)

  byte-numbers : (i v : ℕ) → i < 2 ^ 32 → v < 2 ^ 32 → line ≡ 102 ∷ 32 ∷ decimal i ++ (32 ∷ decimal v) → R ≡ reading 5 0 i v → Next
  unfolding byte_read
  byte-numbers i v h g e f = go (goes_on v b) refl
    where
      go : (t : Bool) → goes_on v b ≡ t → Next
      go true t =
          numbers i (longer v b) h (goes_bounds v b t).1
          (ap (λ l. l ++ (b ∷ [])) e ∙ append_assoc (102 ∷ 32 ∷ decimal i) (32 ∷ decimal v) (b ∷ []) ∙ ap (λ xs. 102 ∷ 32 ∷ decimal i ++ (32 ∷ xs)) (longer-decimal v b t))
          (ap (λ R. byte_read R b) f ∙ rw t)
      go false t = no_way (ap (λ R. byte_read R b) f ∙ rw t)

  further : Way line R → Next
  unfolding byte_read
  further (start e f) = byte-first e f
  further (letter c k l e f) = byte-letter c k l e f
  further (space c k l e f) = byte-space c k l e f
  further (number c k i l h e f) = byte-number c k i l h e f
  further (number-space i h e f) = byte-number-space i h e f
  further (numbers i v h g e f) = byte-numbers i v h g e f
  further (all-rules e f) = no_way (ap (λ R. byte_read R b) f)
  further (no_way f) = no_way (ap (λ R. byte_read R b) f)

way_on : (line bs : List ℕ) (R : Reading) → Way line R → Way (line ++ bs) (bytes_read R bs)
unfolding bytes_read
way_on line [] R w = rw (append-nil line) w
way_on line (b ∷ bs) R w = rw (append_snoc line b bs) at (way_on (line ++ (b ∷ [])) bs (byte_read R b) (further line R b w))

pub way : (line : List ℕ) → Way line (bytes_read nothing line)
way line = way_on [] line nothing (start refl refl)
