-- The numbers of the outline's table for what refuses a call of the stepper or on a network (outline, "The answers").
use Rattle.std.specs.Prelude.{ℕ, Result, Ok, Err}
use Rattle.refusals.specs.declared.Refusal.{Refusal}
use Rattle.refusals.specs.declared.Refusal.TheVariants.{NoSuch, TooLarge, NotNow, NoRoom}

abbrev pub number : Refusal → ℕ
number NoSuch = 12
number TooLarge = 13
number NotNow = 14
number NoRoom = 16

-- a call's answer by its number: 0 where it is done
abbrev pub answer : Result Unit Refusal → ℕ
answer (Ok r) = 0
answer (Err e) = number e

-- the same of a call that gives a number, and that number: 0 where it is refused
abbrev pub answered : Result ℕ Refusal → ℕ
answered (Ok x) = 0
answered (Err e) = number e

abbrev pub valued : Result ℕ Refusal → ℕ
valued (Ok x) = x
valued (Err e) = 0
