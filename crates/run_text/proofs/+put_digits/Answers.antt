-- `run_text::put_digits` meets its contract: the digits of a number's tenth are there, or none, and its last digit comes next.
use mathlib.Core.List.{append-nil}
use Rattle.std.proofs.Common.{◌≡◌, ℕ, ◌+◌, ◌/◌, ◌%◌, ◌^◌, ◌<◌, ◌≤◌, List, [], ◌∷◌, ◌++◌, length, take, sym, ap, ◌∙◌, append_assoc, length-append, arith}
use lib.ListN.{set}
use native.Mathlib.Nat.{mod-eq_of_lt}
use Rattle.std.proofs.lemmas.List.{take_more_set}
use Rattle.std.proofs.lemmas.Fmt.{decimal_digit, decimal_step, length-decimal-le}
use Rattle.std.specs.Fmt.{decimal}
use Rattle.run_text.proofs.+put_digits.Goals as goal
use Rattle.run_text.proofs.+put_digits.Goals.{then-x-gt9, else-x-gt9}

-- a last digit behind the digits f, where those end
abbrev Digits : ℕ → ℕ → List ℕ → List ℕ → Type 0
Digits x end old text = (end < 21) × (end + 1 ≡ 1 + length (decimal x)) × (take (end + 1) (set text end (48 + x % 10)) ≡ take 1 old ++ decimal x)

behind : (x end : ℕ) (old text f : List ℕ) → decimal x ≡ f ++ ((48 + x % 10) ∷ []) → length f ≤ 19 → end ≡ 1 + length f → take end text ≡ take 1 old ++ f → length text ≡ 21 → Digits x end old text
behind x end old text f e l n t s =
    let d : length (decimal x) ≡ length f + 1 = ap length e ∙ length-append f ((48 + x % 10) ∷ []) in (
      omega arith,
      omega arith,
      take_more_set text end (48 + x % 10) (omega arith) ∙ ap (λ z. z ++ ((48 + x % 10) ∷ [])) t ∙ append_assoc (take 1 old) f ((48 + x % 10) ∷ []) ∙ ap (λ z. take 1 old ++ z) (sym e),
    )

more : (x end : ℕ) (old text : List ℕ) → 9 < x → x < 2 ^ 64 → (end ≡ 1 + length (decimal (x / 10))) × (take end text ≡ take 1 old ++ decimal (x / 10)) → length text ≡ 21 → Digits x end old text
more x end old text h k p s =
    behind x end old text (decimal (x / 10)) (decimal_step x (omega arith) k) (length-decimal-le 19 (x / 10) (omega arith) (omega arith) (omega arith)) p.0 p.1 s

one : (x end : ℕ) (old text : List ℕ) → x ≤ 9 → end ≡ 1 → text ≡ old → length text ≡ 21 → Digits x end old text
one x end old text h n t s =
    let m : x % 10 ≡ x = mod-eq_of_lt (omega arith) in
    behind x end old text [] (decimal_digit x (omega arith) ∙ ap (λ d. (48 + d) ∷ []) (sym m)) (omega arith) n (rw (n, t) (sym (append-nil (take 1 old)))) s

pub bounds-text-end : goal.bounds-text-end
bounds-text-end t c =
    elim c.if-x-gt9.branch [ then-x-gt9 w ↦ (more c.args.x c.if-x-gt9.end c.args.text.now c.if-x-gt9.text w.if-x-gt9.true c.ranges.x.fits (rw (w.end-is, w.text-is) w.put_digits-end.ensures) c.if-x-gt9.array_long).0 | else-x-gt9 w ↦ (one c.args.x c.if-x-gt9.end c.args.text.now c.if-x-gt9.text w.if-x-gt9.false w.end-is w.text-is c.if-x-gt9.array_long).0 ]

pub returns : goal.returns
returns t c =
    elim c.if-x-gt9.branch [ then-x-gt9 w ↦ (let d = more c.args.x c.if-x-gt9.end c.args.text.now c.if-x-gt9.text w.if-x-gt9.true c.ranges.x.fits (rw (w.end-is, w.text-is) w.put_digits-end.ensures) c.if-x-gt9.array_long in (d.1, d.2)) | else-x-gt9 w ↦ (let d = one c.args.x c.if-x-gt9.end c.args.text.now c.if-x-gt9.text w.if-x-gt9.false w.end-is w.text-is c.if-x-gt9.array_long in (d.1, d.2)) ]
