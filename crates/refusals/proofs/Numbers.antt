-- A number tells its refusal, and an answer its call: each is read back from its number, by cases.
use mathlib.Core.Path.{◌≡◌, refl, sym, ◌∙◌, ap, ap₂}
use mathlib.Core.Bool.{cond, false}
use Prim.Native.Nat.{ℕ}
use lib.Dec.{eqb}
use Rattle.std.specs.Prelude.{Result, Ok, Err}
use Rattle.refusals.specs.declared.Refusal.{Refusal}
use Rattle.refusals.specs.declared.Refusal.TheVariants.{NoSuch, TooLarge, NotNow, NoRoom}
use Rattle.refusals.specs.Numbers.{number, answer, answered, valued}

-- the refusal of a number
abbrev refusal : ℕ → Refusal
refusal n = cond (eqb n 12) NoSuch (cond (eqb n 13) TooLarge (cond (eqb n 14) NotNow NoRoom))

back : (e : Refusal) → refusal (number e) ≡ e
back NoSuch = refl
back TooLarge = refl
back NotNow = refl
back NoRoom = refl

-- no refusal has the number of what is done
pub number_some : (e : Refusal) → eqb (number e) 0 ≡ false
number_some NoSuch = refl
number_some TooLarge = refl
number_some NotNow = refl
number_some NoRoom = refl

pub number-one : (e f : Refusal) → number e ≡ number f → e ≡ f
number-one e f h = sym (back e) ∙ ap refusal h ∙ back f

-- the call of an answer
abbrev called : ℕ → Result Unit Refusal
called n = cond (eqb n 0) (Ok tt) (Err (refusal n))

again : (r : Result Unit Refusal) → called (answer r) ≡ r
again (Ok r) = refl
again (Err NoSuch) = refl
again (Err TooLarge) = refl
again (Err NotNow) = refl
again (Err NoRoom) = refl

-- two calls with one answer are equal
pub answer-one : (r s : Result Unit Refusal) → answer r ≡ answer s → r ≡ s
answer-one r s h = sym (again r) ∙ ap called h ∙ again s

-- and two that give a number, with one answer and one number
abbrev gave : ℕ → ℕ → Result ℕ Refusal
gave n x = cond (eqb n 0) (Ok x) (Err (refusal n))

given : (r : Result ℕ Refusal) → gave (answered r) (valued r) ≡ r
given (Ok x) = refl
given (Err NoSuch) = refl
given (Err TooLarge) = refl
given (Err NotNow) = refl
given (Err NoRoom) = refl

pub given-one : (r s : Result ℕ Refusal) → answered r ≡ answered s → valued r ≡ valued s → r ≡ s
given-one r s h k = sym (given r) ∙ ap₂ gave h k ∙ given s
