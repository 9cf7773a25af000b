-- `all` over a list of items: a test of every place.
use Rattle.std.proofs.Common.{◌≡◌, ℕ, ◌<◌, Bool, true, false, List, length, get_or, sym, ◌∙◌, arith}
use Rattle.std.specs.Bool.{MatchBool}
use Rattle.std.specs.List.{AllWithin, HoldsAt}
use Rattle.base.specs.Checks.{every}
use Rattle.base.proofs.Tests.{every_true, every-false}

pub all_is : {B : Type 0} (t : B → Bool) (d : B) (good : ℕ → Bool) (xs : List B) → ((k : ℕ) → k < length xs → t (get_or xs k d) ≡ good k) → (r : Bool)
    → MatchBool r (AllWithin (λ x. t x ≡ true) xs 0 (length xs)) ((k : ℕ) × (k < length xs) × HoldsAt (λ x. t x ≡ false) xs k)
    → r ≡ every good (length xs)
all_is t d good xs same true h = sym (every_true good (length xs) (λ k l. sym (same k l) ∙ h k d (omega arith) l))
all_is t d good xs same false (k, l, n) = sym (every-false good (length xs) k l (sym (same k l) ∙ n d))
