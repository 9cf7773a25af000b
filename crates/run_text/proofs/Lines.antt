-- Reading a line: the bytes so far are the front of the input, and none of them ends a line; one byte more, and the ways to the end.
use Rattle.std.proofs.Common.{◌≡◌, ℕ, suc, ◌+◌, ◌≤◌, ◌<◌, List, [], ◌∷◌, ◌++◌, take, drop, length, get_or, min, arith, refl, sym, ap, ◌∙◌, take-append-drop, length-drop, length-take-le, drop_of_length-le, append-nil, drop-drop, ◌-◌}
use Rattle.std.proofs.lemmas.List.{get_or-take}
use Rattle.std.proofs.Common.{Some, None, IfSome}
use Rattle.std.proofs.Math.Seq.{take-add, get_or-append_seam}
use Rattle.std.proofs.KnownBytes.{Consumes-trans}
use Rattle.std.specs.Io.KnownBytes.{Consumes}
use Rattle.std.specs.declared.option.Option.{Option}
use borrow.Rule.Slice.PartMut.{put_mid}
use Rattle.run_text.specs.Texts.{first_in}
use Rattle.run_text.specs.Promises.{ReadsLine}
use Rattle.run_text.proofs.Laws.{first-hit, first-miss, first-le, first-drop}
use Rattle.run_text.proofs.Inputs.{front_more}

-- what was read so far of an input whose bytes are known
abbrev pub Front : ℕ → Option (List ℕ) → Option (List ℕ) → List ℕ → Type 0
Front n old now bytes = IfSome old (λ xs. (n ≤ first_in 10 xs) × (bytes ≡ take n xs) × (now ≡ Some (drop n xs)))

-- a read that fails
pub lost : (n : ℕ) (old now new : Option (List ℕ)) (bytes bs : List ℕ) → Front n old now bytes → Consumes now new bs → (x : List ℕ) × Consumes old new x
lost n None now new bytes bs f p = ([], tt)
lost n (Some xs) now new bytes bs f p = (take n xs ++ bs, Consumes-trans (Some xs) now new (take n xs) bs (rw f.2 (sym (take-append-drop n xs))) p)

-- a read that gives m bytes, of one at most
abbrev Gives : ℕ → Option (List ℕ) → Option (List ℕ) → List ℕ → Type 0
Gives m now new ys = Consumes now new (take m ys) × IfSome now (λ zs. m ≡ min 1 (length zs))

-- the part of the line that is lent has room for one byte
pub one_room : (n : ℕ) (line : List ℕ) → n < length line → length (take (n + 1 - n) (drop n line)) ≡ 1
one_room n line l =
    let d : length (drop n line) ≡ length line - n = length-drop n line in
    length-take-le (n + 1 - n) (drop n line) (omega (arith, d)) ∙ omega arith

-- the bytes so far are where they were
kept : (n k : ℕ) (line ys : List ℕ) → n ≤ length line → take n (put_mid n k line ys) ≡ take n line
kept n k line ys fits =
    let z : n + 0 ≡ n = omega arith in
    ap (λ i. take i (put_mid n k line ys)) (sym z) ∙ front_more n 0 k line ys fits (omega arith) ∙ append-nil (take n line)

-- the input has ended
pub ended : (n k room m : ℕ) (old now new : Option (List ℕ)) (line ys : List ℕ) → Front n old now (take n line) → n ≤ length line → n < room → m ≡ 0 → Gives m now new ys → ReadsLine room old new n (take n (put_mid n k line ys))
ended n k room m None now new line ys f fits l none g = tt
ended n k room m (Some xs) now new line ys f fits l none g = go new (rw (f.2, none) at g.0)
  where
    past : length xs ≤ n
    past =
        let q : m ≡ min 1 (length (drop n xs)) = rw f.2 at g.1 in
        omega (arith, q, length-drop n xs, none)

    at_end : first_in 10 xs ≡ n
    at_end = omega (arith, f.0, first-le 10 xs, past)

    go : (new : Option (List ℕ)) → Consumes (Some (drop n xs)) new (take 0 ys) → ReadsLine room (Some xs) new n (take n (put_mid n k line ys))
    go None p = absurd p
    go (Some ws) p = (omega (arith, at_end), kept n k line ys fits ∙ f.1, ap Some (sym p ∙ drop_of_length-le xs past ∙ sym (drop_of_length-le xs (omega (arith, at_end, past)))))

-- one byte y more is read, and ws is left
record Byte (n : ℕ) (xs line' : List ℕ) (new : Option (List ℕ)) : Type 0 where
  y : ℕ
  ws : List ℕ
  left : new ≡ Some ws
  rest : drop n xs ≡ y ∷ ws
  holds : get_or line' n 0 ≡ y
  front : take (n + 1) line' ≡ take (n + 1) xs
  behind : ws ≡ drop (n + 1) xs

one_byte : (n k m : ℕ) (xs line ys : List ℕ) (new : Option (List ℕ)) → take n line ≡ take n xs → n ≤ length line → ¬ (m ≡ 0) → m ≤ length ys → Gives m (Some (drop n xs)) new ys → Byte n xs (put_mid n k line ys) new
one_byte n k m xs line [] new f fits some room g = let y : ⊥ = omega (arith, some, room) in absurd y
one_byte n k m xs line (y ∷ ys) None f fits some room g = absurd g.0
one_byte n k m xs line (y ∷ ys) (Some ws) f fits some room g =
    record { y = y; ws = ws; left = refl; rest = rest; holds = holds; front = front; behind = behind }
  where
    one : m ≡ 1
    one = omega (arith, some, g.1)

    rest : drop n xs ≡ y ∷ ws
    rest = rw one at g.0

    more : take (n + 1) (put_mid n k line (y ∷ ys)) ≡ take n line ++ (y ∷ [])
    more = front_more n 1 k line (y ∷ ys) fits (omega arith)

    front : take (n + 1) (put_mid n k line (y ∷ ys)) ≡ take (n + 1) xs
    front = more ∙ ap (λ l. l ++ (y ∷ [])) f ∙ sym (take-add n 1 xs ∙ ap (λ l. take n xs ++ take 1 l) rest)

    holds : get_or (put_mid n k line (y ∷ ys)) n 0 ≡ y
    holds =
        let l : length (take n line) ≡ n = length-take-le n line fits in
        sym (get_or-take (n + 1) (put_mid n k line (y ∷ ys)) n 0 (omega arith)) ∙ ap (λ l. get_or l n 0) more ∙ ap (λ i. get_or (take n line ++ (y ∷ [])) i 0) (sym l) ∙ get_or-append_seam (take n line) y [] 0

    behind : ws ≡ drop (n + 1) xs
    behind = ap (drop 1) (sym rest) ∙ drop-drop 1 n xs

no_more : (n : ℕ) → n + 0 ≡ n
no_more n = omega arith

-- it ends the line
pub hit : (n k room m : ℕ) (old now new : Option (List ℕ)) (line ys : List ℕ) → Front n old now (take n line) → n ≤ length line → n < room → ¬ (m ≡ 0) → m ≤ length ys → Gives m now new ys → get_or (put_mid n k line ys) n 0 ≡ 10 → ReadsLine room old new n (take n (put_mid n k line ys))
hit n k room m None now new line ys f fits l some r g e = tt
hit n k room m (Some xs) now new line ys f fits l some r g e =
    let b = one_byte n k m xs line ys new f.1 fits some r (rw f.2 at g) in
    let h : first_in 10 xs ≡ n = first-drop 10 n xs f.0 ∙ ap (λ l. n + first_in 10 l) b.rest ∙ ap (λ z. n + z) (first-hit 10 b.y b.ws (sym b.holds ∙ e)) ∙ no_more n in
    let s : min room (suc (first_in 10 xs)) ≡ n + 1 = omega (arith, h) in
    (omega (arith, h), kept n k line ys fits ∙ f.1, b.left ∙ ap Some (b.behind ∙ ap (λ z. drop z xs) (sym s)))

-- it does not
pub miss : (n k m : ℕ) (old now new : Option (List ℕ)) (line ys : List ℕ) → Front n old now (take n line) → n ≤ length line → ¬ (m ≡ 0) → m ≤ length ys → Gives m now new ys → ¬ (get_or (put_mid n k line ys) n 0 ≡ 10) → Front (n + 1) old new (take (n + 1) (put_mid n k line ys))
miss n k m None now new line ys f fits some r g e = tt
miss n k m (Some xs) now new line ys f fits some r g e =
    let b = one_byte n k m xs line ys new f.1 fits some r (rw f.2 at g) in
    let h : first_in 10 xs ≡ n + (first_in 10 b.ws + 1) = first-drop 10 n xs f.0 ∙ ap (λ l. n + first_in 10 l) b.rest ∙ ap (λ z. n + z) (first-miss 10 b.y b.ws (λ i. e (b.holds ∙ i))) in
    (omega (arith, h), b.front, b.left ∙ ap Some b.behind)

-- the room has ended
pub full : (n : ℕ) (old now : Option (List ℕ)) (bytes : List ℕ) → Front n old now bytes → ReadsLine n old now n bytes
full n None now bytes f = tt
full n (Some xs) now bytes f =
    let s : min n (suc (first_in 10 xs)) ≡ n = omega (arith, f.0) in
    (omega (arith, f.0), f.1, f.2 ∙ ap (λ z. Some (drop z xs)) (sym s))
