-- Decimals are spelled from the last digit on, each before those that are there: laws for a turn of the loop, and for the first digit.
use mathlib.Core.Path.{◌≡◌, sym, ap, ◌∙◌}
use mathlib.Core.List.{List, [], ◌∷◌, ◌++◌, append_assoc}
use Prim.Native.Nat.{ℕ, ◌+◌, ◌/◌, ◌%◌, ◌^◌, ◌<◌, ◌≤◌}
use native.Mathlib.Nat.{mod-eq_of_lt}
use native.Mathlib.Omega.{arith}
use lib.ListN.{length, length-append}
use Rattle.std.specs.Fmt.{decimal}
use Rattle.std.proofs.lemmas.Fmt.{decimal_digit, decimal_step}

-- a turn of the loop: the last digit goes before the bytes that are there, and the digits that are left are one fewer
pub spell_turn : (n : ℕ) (before after whole : List ℕ) → 9 < n → n < 2 ^ 64 → after ≡ (48 + n % 10) ∷ before → decimal n ++ before ≡ whole → (length (decimal n) ≡ length (decimal (n / 10)) + 1) × (decimal (n / 10) ++ after ≡ whole)
spell_turn n before after whole h k e f =
    let s : decimal n ≡ decimal (n / 10) ++ ((48 + n % 10) ∷ []) = decimal_step n (omega arith) k in
    (ap length s ∙ length-append (decimal (n / 10)) ((48 + n % 10) ∷ []), rw e (sym (append_assoc (decimal (n / 10)) ((48 + n % 10) ∷ []) before)) ∙ ap (λ t. t ++ before) (sym s) ∙ f)

-- its end: the first digit
pub spell_end : (n : ℕ) (before after whole : List ℕ) → n ≤ 9 → after ≡ (48 + n % 10) ∷ before → decimal n ++ before ≡ whole → (length (decimal n) ≡ 1) × (after ≡ whole)
spell_end n before after whole h e f =
    let s : decimal n ≡ (48 + n) ∷ [] = decimal_digit n (omega arith) in
    let m : n % 10 ≡ n = mod-eq_of_lt (omega arith) in
    (ap length s, e ∙ ap (λ d. (48 + d) ∷ before) m ∙ ap (λ t. t ++ before) (sym s) ∙ f)
