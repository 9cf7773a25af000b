-- Each promise determines its result, and what it leaves in a lent buffer; of a call that prints or reads, where it went well, what it leaves in a
-- writer or a reader whose bytes are known.
use Rattle.std.proofs.Common.{◌≡◌, ℕ, List, refl, sym, ap, ◌∙◌, Ok, Err, Some, None, ◌≤◌, min, length, ◌++◌, length-take-le, IfOk, IfSome, IsOk, OnOk, IsSome, cond, take, drop, Result}
use Rattle.std.specs.declared.option.Option.{Option}
use Rattle.std.specs.declared.io.traits.Read as Read
use Rattle.std.specs.declared.io.traits.Write as Write
use Rattle.std.proofs.Math.Seq.{take-append_seam, drop-append_seam}
use Rattle.std.specs.Io.{ReadsAtMost}
use Rattle.std.specs.Fmt.{decimal}
use Rattle.std.specs.Io.KnownBytes.{Appends, Consumes}
use borrow.Fn.Kinds.{Dens, ended_of, res_t}
use contract.Lifetimes.{Lfts}
use denote.Param.Laws.{Laws}
use denote.RattleType.{RattleType}
use denote.Triple.Clauses.{AtExit}
use mir.Syntax.{Dict}
use Rattle.std.proofs.lemmas.Bool.{false≢true}
use Rattle.run_text.proofs.put_word.Kinds as put_word-kinds
use Rattle.run_text.proofs.put_word.Reads as put_word
use Rattle.run_text.proofs.read_full.Kinds as read_full-kinds
use Rattle.run_text.proofs.read_full.Reads as read_full
use Rattle.run_text.proofs.read_line.Kinds as read_line-kinds
use Rattle.run_text.proofs.read_line.Reads as read_line
use Rattle.run_text.proofs.put_number.Kinds as put_number-kinds
use Rattle.run_text.proofs.put_number.Reads as put_number
use Rattle.run_text.proofs.put_hex.Kinds as put_hex-kinds
use Rattle.run_text.proofs.put_hex.Reads as put_hex
use Rattle.run_text.proofs.put_either.Kinds as put_either-kinds
use Rattle.run_text.proofs.put_either.Reads as put_either
use Rattle.run_text.proofs.put_image.Kinds as put_image-kinds
use Rattle.run_text.proofs.put_image.Reads as put_image
use Rattle.base.specs.Promises.{OneResult, OneOutcome}
use Rattle.base.specs.Lists.{fill}
use Rattle.run_text.specs.Promises.{OneIfOk, SameRead, ReadsLine}
use Rattle.run_text.specs.Texts.{byte_of, spaced, hex_text, image_text}
use Rattle.run_text.proofs.find.Kinds as find-kinds
use Rattle.run_text.proofs.find.Reads as find
use Rattle.run_text.proofs.past.Kinds as past-kinds
use Rattle.run_text.proofs.past.Reads as past
use Rattle.run_text.proofs.number32.Kinds as number32-kinds
use Rattle.run_text.proofs.number32.Reads as number32
use Rattle.run_text.proofs.unhex.Kinds as unhex-kinds
use Rattle.run_text.proofs.unhex.Reads as unhex
use Rattle.run_text.proofs.number.Kinds as number-kinds
use Rattle.run_text.proofs.number.Reads as number
use Rattle.run_text.proofs.sum_with.Kinds as sum-with-kinds
use Rattle.run_text.proofs.sum_with.Reads as sum-with

pub find_one : OneResult 1 find-kinds.ps find-kinds.r find.Post
find_one κs a r r' x x' p q = p.0 ∙ sym q.0

pub past_one : OneResult 1 past-kinds.ps past-kinds.r past.Post
past_one κs a r r' x x' p q = p.0 ∙ sym q.0

pub unhex_one : OneOutcome 2 unhex-kinds.ps unhex-kinds.r unhex.Post (λ κs x. x.1.0.now)
unhex_one κs a r r' x x' p q =
    let e = p.0 ∙ sym q.0 in
    (e, p.1 ∙ ap (λ n. fill (byte_of a.0.now) n a.1.0.now) e ∙ sym q.1)

pub number-one : OneResult 1 number-kinds.ps number-kinds.r number.Post
number-one κs a r r' x x' p q = p ∙ sym q

pub number32-one : OneResult 1 number32-kinds.ps number32-kinds.r number32.Post
number32-one κs a r r' x x' p q = p ∙ sym q

pub sum_with_one : OneResult 0 sum-with-kinds.ps sum-with-kinds.r sum-with.Post
sum_with_one κs a r r' x x' p q = p ∙ sym q

same_text : (a b b' : Option (List ℕ)) (bs : List ℕ) → IsSome a → Appends a b bs → Appends a b' bs → b ≡ b'
same_text None b b' bs h p q = absurd (false≢true h)
same_text (Some x) None b' bs h p q = absurd p
same_text (Some x) (Some y) None bs h p q = absurd q
same_text (Some x) (Some y) (Some z) bs h p q = ap Some (p ∙ sym q)

same_call : {E : Type 0} (r r' : Result (Unit {0}) E) (a b b' : Option (List ℕ)) (bs : List ℕ) → OnOk r (Appends a b bs) → OnOk r' (Appends a b' bs) → IsOk r → IsOk r' → (r ≡ r') × (IsSome a → b ≡ b')
same_call (Ok x) (Ok y) a b b' bs p q ok ok' = (refl, λ h. same_text a b b' bs h p q)
same_call (Ok x) (Err y) a b b' bs p q ok ok' = absurd (false≢true ok')
same_call (Err x) r' a b b' bs p q ok ok' = absurd (false≢true ok)

pub put-word-one : (W : RattleType) (L : Laws W) (G : Write.Ghosts W.Denot) (D : Dict) → OneIfOk 3 (put_word-kinds.ps W L) (put_word-kinds.r W L) (λ κs r. IsOk r) (λ κs a. G.contents a.0.now) (λ κs x. G.contents x.0.now) (put_word.Post W L G D)
put-word-one W L G D κs a r r' x x' p q ok ok' = same_call r r' (G.contents a.0.now) (G.contents x.0.now) (G.contents x'.0.now) (spaced a.1.0.now) (put_word.post-apart W L G D κs a r x p).printed (put_word.post-apart W L G D κs a r' x' q).printed ok ok'

pub put-number-one : (W : RattleType) (L : Laws W) (G : Write.Ghosts W.Denot) (D : Dict) → OneIfOk 2 (put_number-kinds.ps W L) (put_number-kinds.r W L) (λ κs r. IsOk r) (λ κs a. G.contents a.0.now) (λ κs x. G.contents x.0.now) (put_number.Post W L G D)
put-number-one W L G D κs a r r' x x' p q ok ok' = same_call r r' (G.contents a.0.now) (G.contents x.0.now) (G.contents x'.0.now) (spaced (decimal a.1.0)) (put_number.post-apart W L G D κs a r x p).printed (put_number.post-apart W L G D κs a r' x' q).printed ok ok'

pub put_hex_one : (W : RattleType) (L : Laws W) (G : Write.Ghosts W.Denot) (D : Dict) → OneIfOk 3 (put_hex-kinds.ps W L) (put_hex-kinds.r W L) (λ κs r. IsOk r) (λ κs a. G.contents a.0.now) (λ κs x. G.contents x.0.now) (put_hex.Post W L G D)
put_hex_one W L G D κs a r r' x x' p q ok ok' = same_call r r' (G.contents a.0.now) (G.contents x.0.now) (G.contents x'.0.now) (hex_text a.1.0.now) (put_hex.post-apart W L G D κs a r x p).printed (put_hex.post-apart W L G D κs a r' x' q).printed ok ok'

pub put_either_one : (W : RattleType) (L : Laws W) (G : Write.Ghosts W.Denot) (D : Dict) → OneIfOk 4 (put_either-kinds.ps W L) (put_either-kinds.r W L) (λ κs r. IsOk r) (λ κs a. G.contents a.0.now) (λ κs x. G.contents x.0.now) (put_either.Post W L G D)
put_either_one W L G D κs a r r' x x' p q ok ok' = same_call r r' (G.contents a.0.now) (G.contents x.0.now) (G.contents x'.0.now) (spaced (cond a.1.0 a.1.1.0.now a.1.1.1.0.now)) (put_either.post-apart W L G D κs a r x p).printed (put_either.post-apart W L G D κs a r' x' q).printed ok ok'

pub put-image-one : (W : RattleType) (L : Laws W) (G : Write.Ghosts W.Denot) (D : Dict) → OneIfOk 4 (put_image-kinds.ps W L) (put_image-kinds.r W L) (λ κs r. IsOk r) (λ κs a. G.contents a.0.now) (λ κs x. G.contents x.0.now) (put_image.Post W L G D)
put-image-one W L G D κs a r r' x x' p q ok ok' = same_call r r' (G.contents a.0.now) (G.contents x.0.now) (G.contents x'.0.now) (image_text (take a.1.1.0 a.1.0.now) (drop a.1.1.0 a.1.0.now) a.1.1.1.0.now) (put_image.post-apart W L G D κs a r x p).printed (put_image.post-apart W L G D κs a r' x' q).printed ok ok'

-- what a read gave is the front of the bytes that there were, and what it left is the rest
piece : (n : ℕ) (bs xs ys : List ℕ) → n ≤ length bs → xs ≡ take n bs ++ ys → (take n xs ≡ take n bs) × (drop n xs ≡ ys)
piece n bs xs ys fits e =
    let here : length (take n bs) ≡ n = length-take-le n bs fits in
    (ap (λ z. take z xs) (sym here) ∙ ap (take (length (take n bs))) e ∙ take-append_seam (take n bs) ys, ap (λ z. drop z xs) (sym here) ∙ ap (drop (length (take n bs))) e ∙ drop-append_seam (take n bs) ys)

same_read : {E : Type 0} (m : ℕ) (a b b' : Option (List ℕ)) (r r' : Result ℕ E) (bs bs' : List ℕ) → IsSome a → IsOk r → IsOk r' → ReadsAtMost r bs → ReadsAtMost r' bs' → IfOk r (λ n. Consumes a b (take n bs)) → IfOk r' (λ n. Consumes a b' (take n bs')) → IfOk r (λ n. IfSome a (λ xs. n ≡ min m (length xs))) → IfOk r' (λ n. IfSome a (λ xs. n ≡ min m (length xs))) → SameRead r r' b b' bs bs'
same_read m None b b' r r' bs bs' h ok ok' u u' p q c c' = absurd (false≢true h)
same_read m (Some xs) b b' (Err e) r' bs bs' h ok ok' u u' p q c c' = absurd (false≢true ok)
same_read m (Some xs) b b' (Ok n) (Err e) bs bs' h ok ok' u u' p q c c' = absurd (false≢true ok')
same_read m (Some xs) None b' (Ok n) (Ok n') bs bs' h ok ok' u u' p q c c' = absurd p
same_read m (Some xs) (Some ys) None (Ok n) (Ok n') bs bs' h ok ok' u u' p q c c' = absurd q
same_read m (Some xs) (Some ys) (Some ys') (Ok n) (Ok n') bs bs' h ok ok' u u' p q c c' =
    let e : n ≡ n' = c ∙ sym c' in
    let f = piece n bs xs ys u.0 p in
    let f' = piece n' bs' xs ys' u'.0 q in
    (ap Ok e, ap Some (sym f.1 ∙ ap (λ z. drop z xs) e ∙ f'.1), sym f.0 ∙ ap (λ z. take z xs) e ∙ f'.0 ∙ ap (λ z. take z bs') (sym e))

pub read_full_one : (R : RattleType) (L : Laws R) (G : Read.Ghosts R.Denot) (D : Dict) (κs : Lfts 3) (a : Dens κs (read_full-kinds.ps R L)) (r r' : (res_t (read_full-kinds.r R L) κs).Denot) (x x' : AtExit (ended_of 3 (read_full-kinds.ps R L) (read_full-kinds.r R L)) κs)
    → read_full.Post R L G D κs a r x
    → read_full.Post R L G D κs a r' x'
    → IsSome (G.remaining a.0.now)
    → IsOk r
    → IsOk r'
    → SameRead r r' (G.remaining x.0.now) (G.remaining x'.0.now) x.1.0.now x'.1.0.now
read_full_one R L G D κs a r r' x x' p q h ok ok' =
    let s = read_full.post-apart R L G D κs a r x p in
    let t = read_full.post-apart R L G D κs a r' x' q in
    same_read (length a.1.0.now) (G.remaining a.0.now) (G.remaining x.0.now) (G.remaining x'.0.now) r r' x.1.0.now x'.1.0.now h ok ok' s.bound t.bound s.read t.read s.count t.count

same_line : {E : Type 0} (m : ℕ) (a b b' : Option (List ℕ)) (r r' : Result ℕ E) (bs bs' : List ℕ) → IsSome a → IsOk r → IsOk r' → IfOk r (λ n. ReadsLine m a b n (take n bs)) → IfOk r' (λ n. ReadsLine m a b' n (take n bs')) → SameRead r r' b b' bs bs'
same_line m None b b' r r' bs bs' h ok ok' p q = absurd (false≢true h)
same_line m (Some xs) b b' (Err e) r' bs bs' h ok ok' p q = absurd (false≢true ok)
same_line m (Some xs) b b' (Ok n) (Err e) bs bs' h ok ok' p q = absurd (false≢true ok')
same_line m (Some xs) b b' (Ok n) (Ok n') bs bs' h ok ok' p q =
    let e : n ≡ n' = p.0 ∙ sym q.0 in
    (ap Ok e, p.2 ∙ sym q.2, p.1 ∙ ap (λ z. take z xs) e ∙ sym q.1 ∙ ap (λ z. take z bs') (sym e))

pub read_line_one : (R : RattleType) (L : Laws R) (G : Read.Ghosts R.Denot) (D : Dict) (κs : Lfts 3) (a : Dens κs (read_line-kinds.ps R L)) (r r' : (res_t (read_line-kinds.r R L) κs).Denot) (x x' : AtExit (ended_of 3 (read_line-kinds.ps R L) (read_line-kinds.r R L)) κs)
    → read_line.Post R L G D κs a r x
    → read_line.Post R L G D κs a r' x'
    → IsSome (G.remaining a.0.now)
    → IsOk r
    → IsOk r'
    → SameRead r r' (G.remaining x.0.now) (G.remaining x'.0.now) x.1.0.now x'.1.0.now
read_line_one R L G D κs a r r' x x' p q h ok ok' =
    let s = read_line.post-apart R L G D κs a r x p in
    let t = read_line.post-apart R L G D κs a r' x' q in
    same_line (length a.1.0.now) (G.remaining a.0.now) (G.remaining x.0.now) (G.remaining x'.0.now) r r' x.1.0.now x'.1.0.now h ok ok' s.read t.read
