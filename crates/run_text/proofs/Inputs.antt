-- What a read into the rest of a buffer leaves at its front.
use Rattle.std.proofs.Common.{◌≡◌, ℕ, ◌+◌, ◌≤◌, List, ◌++◌, length, take, sym, ap, ◌∙◌, subst, length-take-le, arith}
use Rattle.std.proofs.Math.Seq.{take-append-add}
use Rattle.std.proofs.lemmas.List.{take-append-le}
use Rattle.std.proofs.KnownBytes.{Consumes-trans}
use Rattle.std.specs.Io.KnownBytes.{Consumes}
use Rattle.std.specs.declared.option.Option.{Option}
use borrow.Rule.Slice.PartMut.{put_mid, post_of}

-- the first n bytes as they were, and the first m of those that the rest holds now
pub front_more : (n m k : ℕ) (xs ys : List ℕ) → n ≤ length xs → m ≤ length ys → take (n + m) (put_mid n k xs ys) ≡ take n xs ++ take m ys
front_more n m k xs ys fits within =
    let here : length (take n xs) ≡ n = length-take-le n xs fits in
    ap (λ z. take (z + m) (put_mid n k xs ys)) (sym here) ∙ take-append-add (take n xs) (ys ++ post_of n k xs) m ∙ ap (λ l. take n xs ++ l) (take-append-le m ys (post_of n k xs) within)

-- what was consumed, where a read of m bytes follows
pub read_more : (a b c : Option (List ℕ)) (n m k : ℕ) (xs ys : List ℕ) → n ≤ length xs → m ≤ length ys → Consumes a b (take n xs) → Consumes b c (take m ys) → Consumes a c (take (n + m) (put_mid n k xs ys))
read_more a b c n m k xs ys fits within p q =
    subst (Consumes a c) (sym (front_more n m k xs ys fits within)) (Consumes-trans a b c _ _ p q)

-- the same, where the read gave nothing
pub read_none : (a b c : Option (List ℕ)) (n m k : ℕ) (xs ys : List ℕ) → n ≤ length xs → m ≤ length ys → m ≡ 0 → Consumes a b (take n xs) → Consumes b c (take m ys) → Consumes a c (take n (put_mid n k xs ys))
read_none a b c n m k xs ys fits within none p q =
    let e : n + m ≡ n = omega arith in
    subst (λ z. Consumes a c (take z (put_mid n k xs ys))) e (read_more a b c n m k xs ys fits within p q)
