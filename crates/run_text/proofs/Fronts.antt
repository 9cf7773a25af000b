-- What was written when a writer fails: a front of the text, where the front of one part of it is written, or one part and the front of the next.
use Rattle.std.proofs.Common.{◌≡◌, ℕ, suc, ◌+◌, ◌-◌, ◌<◌, ◌≤◌, List, [], ◌∷◌, ◌++◌, length, take, drop, get_or, sym, ap, ◌∙◌, subst, append_assoc, take-append-drop, length-drop, drop-cons, arith, Result, Ok, Err, OnErr, Bool, cond, codes, min}
use Rattle.std.proofs.Math.Seq.{take-append_seam, take-add}
use Rattle.std.proofs.lemmas.List.{take_rest, take_min, drop_min}
use Rattle.std.proofs.lemmas.List.Concat.{flat_map-cons}
use Rattle.std.proofs.lemmas.Grind.{flat_map-append}
use Rattle.std.proofs.lemmas.Result.{on_err_weaker}
use Rattle.std.proofs.KnownBytes.{Appends-trans, Appends-kept}
use Rattle.std.specs.List.{flat_map}
use Rattle.std.specs.Io.KnownBytes.{Appends, Keeps}
use Rattle.std.specs.declared.option.Option.{Option}
use Rattle.run_text.specs.Texts.{AppendsFront, hex_of, hex_text, spaced, alike, all_are, image_text}

front_of : (a b : Option (List ℕ)) (text front rest : List ℕ) → text ≡ front ++ rest → Appends a b front → AppendsFront a b text
front_of a b text front rest e p =
    (length front, subst (Appends a b) (sym (ap (take (length front)) e ∙ take-append_seam front rest)) p)

pub front_before : (a b : Option (List ℕ)) (xs ys : List ℕ) → AppendsFront a b xs → AppendsFront a b (xs ++ ys)
front_before a b xs ys (n, p) =
    front_of a b (xs ++ ys) (take n xs) (drop n xs ++ ys) (ap (λ l. l ++ ys) (sym (take-append-drop n xs)) ∙ append_assoc (take n xs) (drop n xs) ys) p

pub front_behind : (a b c : Option (List ℕ)) (xs ys : List ℕ) → Appends a b xs → AppendsFront b c ys → AppendsFront a c (xs ++ ys)
front_behind a b c xs ys p (n, q) =
    front_of a c (xs ++ ys) (xs ++ take n ys) (drop n ys) (ap (λ l. xs ++ l) (sym (take-append-drop n ys)) ∙ sym (append_assoc xs (take n ys) (drop n ys))) (Appends-trans a b c xs (take n ys) p q)

pub on_err : {T E Q : Type 0} (r : Result T E) → Q → OnErr r Q
on_err (Ok x) q = tt
on_err (Err e) q = q

-- a write took m bytes more, or failed, and nothing was written
pub written_more : (a b c : Option (List ℕ)) (bytes : List ℕ) (n m k : ℕ) → n ≤ length bytes → k ≡ n + m → m ≤ length (take (length bytes - n) (drop n bytes)) → Appends a b (take n bytes) → Appends b c (take m (take (length bytes - n) (drop n bytes))) → (k ≤ length bytes) × Appends a c (take k bytes)
written_more a b c bytes n m k fits is room p q =
    let rest : take (length bytes - n) (drop n bytes) ≡ drop n bytes = take_rest bytes n in
    let e : take k bytes ≡ take n bytes ++ take m (take (length bytes - n) (drop n bytes)) = ap (λ z. take z bytes) is ∙ take-add n m bytes ∙ ap (λ l. take n bytes ++ take m l) (sym rest) in
    (omega (arith, ap length rest, length-drop n bytes), subst (Appends a c) (sym e) (Appends-trans a b c _ _ p q))

pub written_none : (a b c : Option (List ℕ)) (bytes : List ℕ) (n k : ℕ) → n ≤ length bytes → k ≡ n → Appends a b (take n bytes) → Keeps b c → (k ≤ length bytes) × Appends a c (take k bytes)
written_none a b c bytes n k fits is p q =
    (omega arith, subst (λ z. Appends a c (take z bytes)) (sym is) (Appends-kept a b c _ p q))

-- 'x' and the bytes before place i are written, and a front of byte i
pub hex_front : (a b c d : Option (List ℕ)) (bytes : List ℕ) (i : ℕ) → i < length bytes → Appends a b (32 ∷ 120 ∷ []) → Appends b c (flat_map hex_of (take i bytes)) → AppendsFront c d (hex_of (get_or bytes i 0)) → AppendsFront a d (hex_text bytes)
hex_front a b c d bytes i h p q f =
    let rest = flat_map hex_of (drop (suc i) bytes) in
    let tail : hex_of (get_or bytes i 0) ++ rest ≡ flat_map hex_of (drop i bytes) = sym (flat_map-cons hex_of (get_or bytes i 0) (drop (suc i) bytes)) ∙ ap (flat_map hex_of) (sym (drop-cons bytes i 0 h)) in
    let whole : flat_map hex_of (take i bytes) ++ (hex_of (get_or bytes i 0) ++ rest) ≡ flat_map hex_of bytes = ap (λ l. flat_map hex_of (take i bytes) ++ l) tail ∙ sym (flat_map-append hex_of (take i bytes) (drop i bytes)) ∙ ap (flat_map hex_of) (take-append-drop i bytes) in
    subst (λ l. AppendsFront a d (32 ∷ 120 ∷ l)) whole (front_behind a b d (32 ∷ 120 ∷ []) _ p (front_behind b c d _ _ q (front_before c d _ rest f)))

-- what is printed of an image alone: whether it is the sheet, or else its bytes
abbrev image_or_same : List ℕ → List ℕ → List ℕ
image_or_same image sheet = cond (alike image sheet) (spaced (codes "same")) (hex_text image)

-- an image's text, where the buffer's front was taken up to its end
module _ (n end : ℕ) (buffer sheet : List ℕ) (is : end ≡ min n (length buffer)) where
  front_is : take end buffer ≡ take n buffer
  front_is = ap (λ z. take z buffer) is ∙ take_min n buffer

  pub image_before : (a b : Option (List ℕ)) (rest : List ℕ) → AppendsFront a b (image_or_same (take end buffer) sheet) → AppendsFront a b (image_text (take n buffer) rest sheet)
  image_before a b rest p =
      front_before a b (image_or_same (take n buffer) sheet) (spaced (cond (all_are 165 rest) (codes "kept") (codes "SPOILT"))) (subst (λ l. AppendsFront a b (image_or_same l sheet)) front_is p)

  pub image_behind : {E : Type 0} (a b c : Option (List ℕ)) (r : Result (Unit {0}) E) (flag : Bool) → flag ≡ all_are 165 (take (length buffer - end) (drop end buffer)) → Appends a b (image_or_same (take end buffer) sheet) → OnErr r (AppendsFront b c (spaced (cond flag (codes "kept") (codes "SPOILT")))) → OnErr r (AppendsFront a c (image_text (take n buffer) (drop n buffer) sheet))
  image_behind a b c r flag told p q =
      let rest : take (length buffer - end) (drop end buffer) ≡ drop n buffer = take_rest buffer end ∙ ap (λ z. drop z buffer) is ∙ drop_min n buffer in
      let flag' : flag ≡ all_are 165 (drop n buffer) = told ∙ ap (all_are 165) rest in
      on_err_weaker r (front_behind a b c _ _ (subst (λ l. Appends a b (image_or_same l sheet)) front_is p)) (subst (λ z. OnErr r (AppendsFront b c (spaced (cond z (codes "kept") (codes "SPOILT"))))) flag' q)
