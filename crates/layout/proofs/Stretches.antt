-- A sheet whose trailer is good is its three sections and the trailer that belongs to them: the sixteen bytes are those of the numbers they hold.
use mathlib.Core.Path.{◌≡◌, refl, sym, ◌∙◌, ap}
use mathlib.Core.Bool.{true}
use mathlib.Core.List.{List, [], ◌∷◌, ◌++◌}
use Prim.Native.Nat.{ℕ, ◌+◌, ◌<◌, ◌≤◌}
use native.Mathlib.Nat.{add-zero}
use native.Mathlib.Omega.{arith}
use lib.ListN.{length, get_or, take, drop, length-drop}
use lib.Seq.{take_all}
use Rattle.base.specs.Arrays.{Bytes}
use Rattle.base.specs.Bytes.{two, four, two_at, four_at, le2, le4}
use Rattle.base.proofs.Bytes.{le4-four}
use Rattle.base.proofs.Windows.{from, window, in_four}
use Rattle.layout.specs.Trailer.{trailer_at, trailer_good, front_bytes, middle_bytes, label_bytes, trailer_bytes}
use Rattle.layout.proofs.Found.{rules, fills}

-- twelve bytes as three distances
sixteen : (x0 x1 x2 x3 x4 x5 x6 x7 x8 x9 x10 x11 letter : ℕ) → x0 < 256 → x1 < 256 → x2 < 256 → x3 < 256 → x4 < 256 → x5 < 256 → x6 < 256 → x7 < 256 → x8 < 256 → x9 < 256 → x10 < 256 → x11 < 256
    → le4 (four x0 x1 x2 x3) ++ le4 (four x4 x5 x6 x7) ++ le4 (four x8 x9 x10 x11) ++ le2 1 ++ (0x53 ∷ letter ∷ []) ≡ x0 ∷ x1 ∷ x2 ∷ x3 ∷ x4 ∷ x5 ∷ x6 ∷ x7 ∷ x8 ∷ x9 ∷ x10 ∷ x11 ∷ 1 ∷ 0 ∷ 0x53 ∷ letter ∷ []
sixteen x0 x1 x2 x3 x4 x5 x6 x7 x8 x9 x10 x11 letter h0 h1 h2 h3 h4 h5 h6 h7 h8 h9 h10 h11 =
    ap (λ l. l ++ le4 (four x4 x5 x6 x7) ++ le4 (four x8 x9 x10 x11) ++ le2 1 ++ (0x53 ∷ letter ∷ [])) (le4-four x0 x1 x2 x3 h0 h1 h2 h3)
    ∙ ap (λ l. (x0 ∷ x1 ∷ x2 ∷ x3 ∷ []) ++ l ++ le4 (four x8 x9 x10 x11) ++ le2 1 ++ (0x53 ∷ letter ∷ [])) (le4-four x4 x5 x6 x7 h4 h5 h6 h7)
    ∙ ap (λ l. (x0 ∷ x1 ∷ x2 ∷ x3 ∷ x4 ∷ x5 ∷ x6 ∷ x7 ∷ []) ++ l ++ le2 1 ++ (0x53 ∷ letter ∷ [])) (le4-four x8 x9 x10 x11 h8 h9 h10 h11)

-- Sections of F, M and L bytes, and a trailer behind them.
module _ (s : List ℕ) (b : Bytes s) (F M L : ℕ) (sum : F + M + L + 16 ≡ length s) where
  trailer-same : (letter t : ℕ) → t ≡ F + M + L → four_at s t ≡ L → four_at s (t + 4) ≡ M + L → four_at s (t + 8) ≡ F + (M + L) → two_at s (t + 12) ≡ 1 → get_or s (t + 14) 0 ≡ 0x53 → get_or s (t + 15) 0 ≡ letter → trailer_bytes F M L letter ≡ drop t s
  trailer-same letter t e p q r u v w =
      let x : ℕ → ℕ = λ j. get_or s (t + j) 0 in
      let y : (j : ℕ) → x j < 256 = λ j. b (t + j) in
      let e0 : t + 0 ≡ t = add-zero t in
      let e5 : t + 4 + 1 ≡ t + 5 = omega arith in
      let e6 : t + 4 + 2 ≡ t + 6 = omega arith in
      let e7 : t + 4 + 3 ≡ t + 7 = omega arith in
      let e9 : t + 8 + 1 ≡ t + 9 = omega arith in
      let e10 : t + 8 + 2 ≡ t + 10 = omega arith in
      let e11 : t + 8 + 3 ≡ t + 11 = omega arith in
      let e13 : t + 12 + 1 ≡ t + 13 = omega arith in
      let p' : four (x 0) (x 1) (x 2) (x 3) ≡ L = rw e0 p in
      let q' : four (x 4) (x 5) (x 6) (x 7) ≡ M + L = rw (e5, e6, e7) at q in
      let r' : four (x 8) (x 9) (x 10) (x 11) ≡ F + (M + L) = rw (e9, e10, e11) at r in
      let u' : two (x 12) (x 13) ≡ 1 = rw e13 at u in
      let x12 : x 12 ≡ 1 = omega (arith, y 12, y 13) in
      let x13 : x 13 ≡ 0 = omega (arith, y 12, y 13) in
      let all : drop t s ≡ from x 16 0 = sym (take_all 16 (drop t s) (rw (length-drop t s) (omega arith))) ∙ window s t 16 (omega arith) in
      ap (λ l. le4 l ++ le4 (M + L) ++ le4 (F + (M + L)) ++ le2 1 ++ (0x53 ∷ letter ∷ [])) (sym p')
      ∙ ap (λ l. le4 (four (x 0) (x 1) (x 2) (x 3)) ++ le4 l ++ le4 (F + (M + L)) ++ le2 1 ++ (0x53 ∷ letter ∷ [])) (sym q')
      ∙ ap (λ l. le4 (four (x 0) (x 1) (x 2) (x 3)) ++ le4 (four (x 4) (x 5) (x 6) (x 7)) ++ le4 l ++ le2 1 ++ (0x53 ∷ letter ∷ [])) (sym r')
      ∙ sixteen (x 0) (x 1) (x 2) (x 3) (x 4) (x 5) (x 6) (x 7) (x 8) (x 9) (x 10) (x 11) letter (y 0) (y 1) (y 2) (y 3) (y 4) (y 5) (y 6) (y 7) (y 8) (y 9) (y 10) (y 11)
      ∙ sym (all ∙ rw (x12, x13, v, w))

  stretches_on : (letter t : ℕ) → t ≡ F + M + L → four_at s t ≡ L → four_at s (t + 4) ≡ M + L → four_at s (t + 8) ≡ F + (M + L) → two_at s (t + 12) ≡ 1 → get_or s (t + 14) 0 ≡ 0x53 → get_or s (t + 15) 0 ≡ letter
      → take F s ++ take M (drop F s) ++ take L (drop (F + M) s) ++ trailer_bytes F M L letter ≡ s
  stretches_on letter t e p q r u v w =
      ap (λ l. take F s ++ take M (drop F s) ++ take L (drop (F + M) s) ++ l) (trailer-same letter t e p q r u v w ∙ ap (λ m. drop m s) e) ∙ in_four s F M L

module _ (letter : ℕ) (s : List ℕ) (long : 16 ≤ length s) (g : trailer_good letter s ≡ true) where
  -- the sections and the trailer fill the sheet
  pub stretches-fill : front_bytes s + middle_bytes s + label_bytes s + 16 ≡ length s
  stretches-fill =
      let f = fills letter s g in
      omega arith

  pub stretches : Bytes s
      → take (front_bytes s) s
      ++ take (middle_bytes s) (drop (front_bytes s) s)
      ++ take (label_bytes s) (drop (front_bytes s + middle_bytes s) s)
      ++ trailer_bytes (front_bytes s) (middle_bytes s) (label_bytes s) letter
      ≡ s
  stretches b =
      let r = rules letter s g in
      let f = fills letter s g in
      stretches_on s b (front_bytes s) (middle_bytes s) (label_bytes s) stretches-fill letter (trailer_at s) (omega arith) refl (omega (arith, r.rise)) (omega (arith, r.rise, r.rise_on)) r.edition r.first_letter r.second_letter
