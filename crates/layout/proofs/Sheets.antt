-- Three sections and a trailer behind them: how long the sheet is, that its stretches put one behind the other are the sheet, and that it reads back. Each byte is found where the sections' lengths say.
use mathlib.Core.Path.{◌≡◌, ◌∙◌, ap}
use mathlib.Core.Bool.{true}
use mathlib.Core.List.{List, ◌++◌}
use Prim.Native.Nat.{ℕ, ◌+◌, ◌<◌, ◌≤◌}
use native.Mathlib.Omega.{arith}
use borrow.Author.Tests.{eq-eqb, le-leb}
use lib.ListN.{length, get_or, length-append, get_or-append}
use lib.Seq.{get_or-append-add}
use Rattle.base.specs.Bytes.{two_at, four_at}
use Rattle.base.specs.Lists.{patch}
use Rattle.base.proofs.Bytes.{four-le4}
use Rattle.base.proofs.Patch.{patch-next}
use Rattle.base.proofs.Tests.{and_true}
use Rattle.layout.specs.Trailer.{trailer_at, to_labels, to_middle, to_front, trailer_good, front_bytes, middle_bytes, label_bytes, trailer_bytes}
use Rattle.layout.specs.Write.{placed}
use Rattle.layout.proofs.Puts.{placed-next}

-- what the reader finds in a sheet of these sections: each byte of a section, a good trailer, and the sections' lengths
pub record ReadsBack (front middle labels : List ℕ) (F M L letter : ℕ) (s : List ℕ) : Type 0 where
  pub front_at : (k : ℕ) → k < F → get_or s k 0 ≡ get_or front k 0
  pub middle_at : (k : ℕ) → k < M → get_or s (F + k) 0 ≡ get_or middle k 0
  pub labels_at : (k : ℕ) → k < L → get_or s (F + M + k) 0 ≡ get_or labels k 0
  pub good : trailer_good letter s ≡ true
  pub front_is : front_bytes s ≡ F
  pub middle_is : middle_bytes s ≡ M
  pub labels_is : label_bytes s ≡ L

module _ (front middle labels : List ℕ) (F M L letter : ℕ) (hf : length front ≡ F) (hm : length middle ≡ M) (hl : length labels ≡ L) where
  abbrev tail : List ℕ
  tail = trailer_bytes F M L letter

  abbrev sheet : List ℕ
  sheet = front ++ middle ++ labels ++ tail

  -- what stands in front of the labels, of the trailer
  two-length : length (front ++ middle) ≡ F + M
  two-length = rw (length-append front middle, hf, hm)

  body_length : length (front ++ middle ++ labels) ≡ F + M + L
  body_length = rw (length-append (front ++ middle) labels, two-length, hl)

  pub sheet-length : length sheet ≡ F + M + L + 16
  sheet-length = length-append (front ++ middle ++ labels) tail ∙ rw body_length

  -- the four stretches, each put behind the one before
  pub put-sheet : (old one two three : List ℕ) → F + M + L + 16 ≤ length old
      → one ≡ patch old 0 front
      → two ≡ patch one F middle
      → three ≡ patch two (F + M) labels
      → placed three (F + M + L) tail ≡ patch old 0 sheet
  put-sheet old one two three room p q r =
      let a = two-length in
      let b = body_length in
      let e : two ≡ patch old 0 (front ++ middle) = q ∙ patch-next old one 0 F front middle p (omega arith) (omega arith) in
      let f : three ≡ patch old 0 (front ++ middle ++ labels) = r ∙ patch-next old two 0 (F + M) (front ++ middle) labels e (omega arith) (omega arith) in
      placed-next old three 0 (F + M + L) (front ++ middle ++ labels) tail f (omega arith) (omega arith)

  -- where each byte stands
  two_at_lem : (k : ℕ) → k < F + M → get_or sheet k 0 ≡ get_or (front ++ middle) k 0
  two_at_lem k h =
      let a = two-length in
      let b = body_length in
      get_or-append (front ++ middle ++ labels) tail 0 k (omega arith) ∙ get_or-append (front ++ middle) labels 0 k (omega arith)

  front_at : (k : ℕ) → k < F → get_or sheet k 0 ≡ get_or front k 0
  front_at k h = two_at_lem k (omega arith) ∙ get_or-append front middle 0 k (omega arith)

  middle_at : (k : ℕ) → k < M → get_or sheet (F + k) 0 ≡ get_or middle k 0
  middle_at k h = two_at_lem (F + k) (omega arith) ∙ (rw hf at (get_or-append-add front middle k 0))

  labels_at : (k : ℕ) → k < L → get_or sheet (F + M + k) 0 ≡ get_or labels k 0
  labels_at k h =
      let b = body_length in
      get_or-append (front ++ middle ++ labels) tail 0 (F + M + k) (omega arith) ∙ (rw two-length at (get_or-append-add (front ++ middle) labels k 0))

  -- where the trailer stands
  abbrev at : ℕ
  at = F + M + L

  tail_at : (k : ℕ) → get_or sheet (at + k) 0 ≡ get_or tail k 0
  tail_at k = rw body_length at (get_or-append-add (front ++ middle ++ labels) tail k 0)

  at_is : trailer_at sheet ≡ at
  at_is = rw sheet-length (omega arith)

  edition_is : two_at sheet (trailer_at sheet + 12) ≡ 1
  edition_is =
      let e13 : at + 12 + 1 ≡ at + 13 = omega arith in
      ap (λ k. two_at sheet (k + 12)) at_is ∙ rw (e13, tail_at 12, tail_at 13)

  -- four bytes hold the distances
  module _ (few : F + (M + L) < 4294967296) where
    to_labels_lem : to_labels sheet ≡ L
    to_labels_lem =
        let e0 : at ≡ at + 0 = omega arith in
        let x0 : get_or sheet at 0 ≡ get_or tail 0 0 = ap (λ k. get_or sheet k 0) e0 ∙ tail_at 0 in
        ap (λ k. four_at sheet k) at_is ∙ rw (x0, tail_at 1, tail_at 2, tail_at 3) (four-le4 L (omega arith))

    to_middle_lem : to_middle sheet ≡ M + L
    to_middle_lem =
        let e5 : at + 4 + 1 ≡ at + 5 = omega arith in
        let e6 : at + 4 + 2 ≡ at + 6 = omega arith in
        let e7 : at + 4 + 3 ≡ at + 7 = omega arith in
        ap (λ k. four_at sheet (k + 4)) at_is ∙ rw (e5, e6, e7, tail_at 4, tail_at 5, tail_at 6, tail_at 7) (four-le4 (M + L) (omega arith))

    to_front_lem : to_front sheet ≡ F + (M + L)
    to_front_lem =
        let e9 : at + 8 + 1 ≡ at + 9 = omega arith in
        let e10 : at + 8 + 2 ≡ at + 10 = omega arith in
        let e11 : at + 8 + 3 ≡ at + 11 = omega arith in
        ap (λ k. four_at sheet (k + 8)) at_is ∙ rw (e9, e10, e11, tail_at 8, tail_at 9, tail_at 10, tail_at 11) (four-le4 (F + (M + L)) few)

    -- the rules that both sheets share
    sheet-good : trailer_good letter sheet ≡ true
    sheet-good =
        and_true _ _
        (and_true _ _ (le-leb (to_labels sheet) (to_middle sheet) (omega (arith, to_labels_lem, to_middle_lem))) (le-leb (to_middle sheet) (to_front sheet) (omega (arith, to_middle_lem, to_front_lem))))
        (and_true _ _
        (and_true _ _
        (and_true _ _
        (eq-eqb (to_front sheet) (trailer_at sheet) (omega (arith, to_front_lem, at_is)))
        (eq-eqb (two_at sheet (trailer_at sheet + 12)) 1 edition_is))
        (eq-eqb (get_or sheet (trailer_at sheet + 14) 0) 0x53 (ap (λ k. get_or sheet (k + 14) 0) at_is ∙ tail_at 14)))
        (eq-eqb (get_or sheet (trailer_at sheet + 15) 0) letter (ap (λ k. get_or sheet (k + 15) 0) at_is ∙ tail_at 15)))

    pub reads_back : ReadsBack front middle labels F M L letter sheet
    reads_back =
        record {
          front_at = front_at;
          middle_at = middle_at;
          labels_at = labels_at;
          good = sheet-good;
          front_is = omega (arith, to_middle_lem, to_front_lem);
          middle_is = omega (arith, to_middle_lem, to_labels_lem);
          labels_is = to_labels_lem;
        }
