-- A sheet that passes the checks 1 to 3 is the image of its netlist: section by section, each byte by the number it belongs to.
use mathlib.Core.Path.{◌≡◌, ◌∙◌, ap}
use mathlib.Core.Bool.{true, ◌&&◌}
use mathlib.Core.List.{List, [], ◌∷◌, ◌++◌}
use Prim.Native.Nat.{ℕ, ◌+◌, ◌*◌, ◌/◌, ◌%◌, ◌<◌, ◌≤◌}
use native.Mathlib.Nat.{add-zero}
use native.Mathlib.Omega.{arith}
use borrow.Author.Tests.{eqb-true}
use lib.Dec.{eqb}
use lib.ListN.{length, get_or, take, drop, replicate}
use lib.Seq.{drop-drop}
use Rattle.base.specs.Arrays.{Bytes}
use Rattle.base.specs.Bytes.{two, four, two_at, le2, le4}
use Rattle.base.proofs.Bytes.{le2-two, le4-four}
use Rattle.base.proofs.Fill.{fill_at}
use Rattle.base.proofs.Flat.{flat-front}
use Rattle.base.proofs.Tests.{and_left, and_right}
use Rattle.base.proofs.Windows.{window, fill-window}
use Rattle.layout.specs.Trailer.{trailer_good, front_bytes, middle_bytes, label_bytes, trailer_bytes}
use Rattle.layout.proofs.Stretches.{stretches, stretches-fill}
use Rattle.netlist.specs.Netlists.{record_of, output_of, labels_of}
use Rattle.netlist.proofs.Numbers.{Within}
use Rattle.net_sheet.specs.Image.{record_bytes, record_section, output_section, net_letter, net_image}
use Rattle.net_sheet.specs.Reading.{record_at, net_from, net_of, net_trailer_good}

-- twelve bytes, as a record and as they were
twelve : (x0 x1 x2 x3 x4 x5 x6 x7 x8 x9 x10 x11 : ℕ) → x0 < 256 → x1 < 256 → x2 < 256 → x3 < 256 → x4 < 256 → x5 < 256 → x6 < 256 → x7 < 256 → x8 < 256 → x9 < 256 → x10 < 256 → x11 < 256
    → record_bytes (record { code = x0; width = x1; a = two x2 x3; b = two x4 x5; c = two x6 x7; k = four x8 x9 x10 x11 }) ≡ x0 ∷ x1 ∷ x2 ∷ x3 ∷ x4 ∷ x5 ∷ x6 ∷ x7 ∷ x8 ∷ x9 ∷ x10 ∷ x11 ∷ []
twelve x0 x1 x2 x3 x4 x5 x6 x7 x8 x9 x10 x11 h0 h1 h2 h3 h4 h5 h6 h7 h8 h9 h10 h11 =
    ap (λ l. (x0 ∷ x1 ∷ []) ++ l ++ le2 (two x4 x5) ++ le2 (two x6 x7) ++ le4 (four x8 x9 x10 x11)) (le2-two x2 x3 h2 h3)
    ∙ ap (λ l. (x0 ∷ x1 ∷ x2 ∷ x3 ∷ []) ++ l ++ le2 (two x6 x7) ++ le4 (four x8 x9 x10 x11)) (le2-two x4 x5 h4 h5)
    ∙ ap (λ l. (x0 ∷ x1 ∷ x2 ∷ x3 ∷ x4 ∷ x5 ∷ []) ++ l ++ le4 (four x8 x9 x10 x11)) (le2-two x6 x7 h6 h7)
    ∙ ap (λ l. (x0 ∷ x1 ∷ x2 ∷ x3 ∷ x4 ∷ x5 ∷ x6 ∷ x7 ∷ []) ++ l) (le4-four x8 x9 x10 x11 h8 h9 h10 h11)

-- a record's bytes are the twelve that it was read from
pub record_bytes_lem : (s : List ℕ) (i : ℕ) → Bytes s → i * 12 + 12 ≤ length s → record_bytes (record_at s i) ≡ take 12 (drop (i * 12) s)
record_bytes_lem s i b h =
    let m : ℕ = i * 12 in
    let x : ℕ → ℕ = λ j. get_or s (m + j) 0 in
    let y : (j : ℕ) → x j < 256 = λ j. b (m + j) in
    let e0 : m + 0 ≡ m = add-zero m in
    let e3 : m + 2 + 1 ≡ m + 3 = omega arith in
    let e5 : m + 4 + 1 ≡ m + 5 = omega arith in
    let e7 : m + 6 + 1 ≡ m + 7 = omega arith in
    let e9 : m + 8 + 1 ≡ m + 9 = omega arith in
    let e10 : m + 8 + 2 ≡ m + 10 = omega arith in
    let e11 : m + 8 + 3 ≡ m + 11 = omega arith in
    rw (e3, e5, e7, e9, e10, e11, window s m 12 h, e0)
    (rw e0 at (twelve (x 0) (x 1) (x 2) (x 3) (x 4) (x 5) (x 6) (x 7) (x 8) (x 9) (x 10) (x 11) (y 0) (y 1) (y 2) (y 3) (y 4) (y 5) (y 6) (y 7) (y 8) (y 9) (y 10) (y 11)))

-- an output's bytes, which stand from byte f on
pub output-bytes : (s : List ℕ) (f j : ℕ) → Bytes s → f + j * 2 + 2 ≤ length s → le2 (two_at s (f + j * 2)) ≡ take 2 (drop (j * 2) (drop f s))
output-bytes s f j b h =
    rw (le2-two (get_or s (f + j * 2) 0) (get_or s (f + j * 2 + 1) 0) (b (f + j * 2)) (b (f + j * 2 + 1)), drop-drop (j * 2) f s, window s (f + j * 2) 2 h, add-zero (f + j * 2))

-- the two rules of the net sheet's own
pub even : (s : List ℕ) → net_trailer_good s ≡ true → middle_bytes s / 2 * 2 ≡ middle_bytes s
even s g =
    let e : middle_bytes s % 2 ≡ 0 = eqb-true (middle_bytes s % 2) 0 (and_right (trailer_good net_letter s) (eqb (middle_bytes s % 2) 0) (and_left (trailer_good net_letter s && eqb (middle_bytes s % 2) 0) (eqb (front_bytes s % 12) 0) g)) in
    omega arith

pub twelves : (s : List ℕ) → net_trailer_good s ≡ true → front_bytes s / 12 * 12 ≡ front_bytes s
twelves s g =
    let e : front_bytes s % 12 ≡ 0 = eqb-true (front_bytes s % 12) 0 (and_right (trailer_good net_letter s && eqb (middle_bytes s % 2) 0) (eqb (front_bytes s % 12) 0) g) in
    omega arith

pub shared : (s : List ℕ) → net_trailer_good s ≡ true → trailer_good net_letter s ≡ true
shared s g = and_left (trailer_good net_letter s) (eqb (middle_bytes s % 2) 0) (and_left (trailer_good net_letter s && eqb (middle_bytes s % 2) 0) (eqb (front_bytes s % 12) 0) g)

-- Sections of F, M and L bytes, and a trailer behind them.
module _ (s : List ℕ) (b : Bytes s) (F M L : ℕ) (h12 : F / 12 * 12 ≡ F) (h2 : M / 2 * 2 ≡ M) (sum : F + M + L + 16 ≡ length s) (few : F / 12 ≤ 1024) (few-outputs : M / 2 ≤ 64) (few-labels : L ≤ 4096) where
  record_same : (i : ℕ) → i < F / 12 → record_of (net_from s F M L) i ≡ record_at s i
  unfolding net_from
  record_same i h =
      let z : List ℕ = replicate 1024 0 in
      rw (
        fill_at (λ j. (record_at s j).code) (F / 12) i z h few,
        fill_at (λ j. (record_at s j).width) (F / 12) i z h few,
        fill_at (λ j. (record_at s j).a) (F / 12) i z h few,
        fill_at (λ j. (record_at s j).b) (F / 12) i z h few,
        fill_at (λ j. (record_at s j).c) (F / 12) i z h few,
        fill_at (λ j. (record_at s j).k) (F / 12) i z h few,
      )

  records-same : record_section (net_from s F M L) ≡ take F s
  unfolding net_from
  records-same =
      flat-front (λ i. record_bytes (record_of (net_from s F M L) i)) 12 s (F / 12) (λ i h. ap record_bytes (record_same i h) ∙ record_bytes_lem s i b (omega arith))
      ∙ ap (λ k. take k s) h12

  outputs-same : output_section (net_from s F M L) ≡ take M (drop F s)
  unfolding net_from
  outputs-same =
      flat-front (λ j. le2 (output_of (net_from s F M L) j)) 2 (drop F s) (M / 2)
      (λ j h. ap le2 (fill_at (λ m. two_at s (F + m * 2)) (M / 2) j (replicate 64 0) h few-outputs) ∙ output-bytes s F j b (omega arith))
      ∙ ap (λ k. take k (drop F s)) h2

  labels-same : labels_of (net_from s F M L) ≡ take L (drop (F + M) s)
  unfolding net_from
  labels-same = fill-window s (replicate 4096 0) (F + M) L (omega arith) few-labels

  -- the whole sheet
  pub image-same : take F s ++ take M (drop F s) ++ take L (drop (F + M) s) ++ trailer_bytes F M L net_letter ≡ s → net_image (net_from s F M L) ≡ s
  unfolding net_image net_from
  image-same all =
      ap (λ l. l ++ output_section (net_from s F M L) ++ labels_of (net_from s F M L) ++ trailer_bytes (F / 12 * 12) (M / 2 * 2) L net_letter) records-same
      ∙ ap (λ l. take F s ++ l ++ labels_of (net_from s F M L) ++ trailer_bytes (F / 12 * 12) (M / 2 * 2) L net_letter) outputs-same
      ∙ ap (λ l. take F s ++ take M (drop F s) ++ l ++ trailer_bytes (F / 12 * 12) (M / 2 * 2) L net_letter) labels-same
      ∙ ap (λ l. take F s ++ take M (drop F s) ++ take L (drop (F + M) s) ++ trailer_bytes l (M / 2 * 2) L net_letter) h12
      ∙ ap (λ l. take F s ++ take M (drop F s) ++ take L (drop (F + M) s) ++ trailer_bytes F l L net_letter) h2
      ∙ all

-- A sheet that passes the checks 1 to 3 is the image of its netlist.
pub image_of : (s : List ℕ) → Bytes s → 16 ≤ length s → net_trailer_good s ≡ true → Within (net_of s) → net_image (net_of s) ≡ s
unfolding net_from
image_of s b long g w =
    image-same s b (front_bytes s) (middle_bytes s) (label_bytes s) (twelves s g) (even s g) (stretches-fill net_letter s long (shared s g)) w.nodes w.outputs w.labels (stretches net_letter s long (shared s g) b)
