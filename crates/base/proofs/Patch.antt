-- Bytes written into a list: a further stretch behind the first is one stretch, and the length stays.
use mathlib.Core.Path.{◌≡◌, refl, sym, ◌∙◌}
use mathlib.Core.List.{List, [], ◌++◌, append_assoc, append-nil}
use Prim.Native.Nat.{ℕ, ◌+◌, ◌≤◌}
use native.Mathlib.Nat.{add-zero, add_assoc}
use native.Mathlib.Omega.{arith}
use lib.ListN.{length, take, drop, length-append, length-drop, take-append-drop}
use lib.Seq.{length-take-le, drop-append-add, drop-drop, take_at, paste, take-length}
use borrow.Rule.Slice.PartMut.{put_mid}
use Rattle.std.proofs.lemmas.Slice.{put_mid-paste}
use Rattle.base.specs.Lists.{patch}

pub patch-none : (xs : List ℕ) (i : ℕ) → patch xs i [] ≡ xs
unfolding patch
patch-none xs i = rw (add-zero i, append-nil (take i xs)) (take-append-drop i xs)

pub patch-length : (xs : List ℕ) (i : ℕ) (bs : List ℕ) → i + length bs ≤ length xs → length (patch xs i bs) ≡ length xs
unfolding patch
patch-length xs i bs h =
    rw (length-append (take i xs ++ bs) (drop (i + length bs) xs), length-append (take i xs) bs, length-take-le i xs (omega arith), length-drop (i + length bs) xs)
    (omega arith)

-- what stands in front of a second stretch is the first with what was in front of it
front : (xs : List ℕ) (i : ℕ) (bs : List ℕ) → i + length bs ≤ length xs → length (take i xs ++ bs) ≡ i + length bs
front xs i bs h = rw (length-append (take i xs) bs, length-take-le i xs (omega arith))

pub patch-patch : (xs : List ℕ) (i j : ℕ) (bs cs : List ℕ) → i + length bs ≤ length xs → j ≡ i + length bs → patch (patch xs i bs) j cs ≡ patch xs i (bs ++ cs)
unfolding patch
patch-patch xs i j bs cs h e =
    let l : length (take i xs ++ bs) ≡ j = front xs i bs h ∙ sym e in
    rw (take_at (take i xs ++ bs) (drop (i + length bs) xs) j l, ← l, drop-append-add (take i xs ++ bs) (drop (i + length bs) xs) (length cs), drop-drop (length cs) (i + length bs) xs, length-append bs cs)
    (rw (append_assoc (take i xs) bs cs, add_assoc i (length bs) (length cs)))

-- a copy, element by element, that has come to its end
pub paste-patch : (xs : List ℕ) (i : ℕ) (bs : List ℕ) (n : ℕ) → n ≡ length bs → paste xs i bs n ≡ patch xs i bs
unfolding patch
paste-patch xs i bs n e = rw (e, take-length bs)

-- a further stretch right behind the first, on a list that holds the first
pub patch-next : (xs l : List ℕ) (i j : ℕ) (bs cs : List ℕ) → l ≡ patch xs i bs → j ≡ i + length bs → i + length bs ≤ length xs → patch l j cs ≡ patch xs i (bs ++ cs)
patch-next xs l i j bs cs e h room = rw e (patch-patch xs i j bs cs room h)

-- a stretch from the start, and what was behind it
pub patch-front : (xs bs : List ℕ) → patch xs 0 bs ≡ bs ++ drop (length bs) xs
unfolding patch
patch-front xs bs =
    let e : 0 + length bs ≡ length bs = omega arith in
    rw e

-- a part of a list written over by other bytes, as a copy into it leaves the list
pub put_mid-patch : (i k : ℕ) (xs ys bs : List ℕ) → ys ≡ bs → k ≡ length bs → put_mid i k xs ys ≡ patch xs i bs
put_mid-patch i k xs ys bs e h = put_mid-paste i k xs ys bs k e refl h ∙ paste-patch xs i bs k h
