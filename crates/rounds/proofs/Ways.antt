-- One rule fired alone: the code's tests are those of the definition, one law for each way out.
use mathlib.Core.Path.{◌≡◌, refl, ◌∙◌, ap}
use mathlib.Core.Bool.{true, false}
use Prim.Native.Nat.{ℕ, ◌+◌, ◌-◌, ◌<◌, ◌≤◌, min}
use native.Mathlib.Omega.{arith}
use borrow.Author.Tests.{lt-ltb, le-ltb}
use Rattle.plans.specs.declared.Plan.{Plan}
use Rattle.lanes.specs.declared.Network.{Network}
use Rattle.spots.specs.Rounds.{finishes_on}
use Rattle.rounds.specs.Fires.{queue_of, part_of, is_put, is_finish, put_alone, no_puts, put_left, finish_left, firing, fire_answer, fire_left, Fired}

module _ (P : Plan) (L : Network) (r q n : ℕ) (hq : q ≡ queue_of P r) (hn : n ≡ min P.queues 512) where
  is_put_lem : q < n → is_put P r ≡ true
  is_put_lem l = lt-ltb (queue_of P r) (min P.queues 512) (omega (arith, hq, hn, l))

  no_put : n ≤ q → is_put P r ≡ false
  no_put l = le-ltb (queue_of P r) (min P.queues 512) (omega (arith, hq, hn, l))

  part_is : q - n ≡ part_of P r
  part_is = omega (arith, hq, hn)

  pub fire-put : (fired answer : ℕ) (M : Network) → q < n → fired ≡ (put_alone P L q).fired → M ≡ put_left P L q → answer ≡ firing fired → Fired P L r answer M
  unfolding fire_answer fire_left
  fire-put fired answer M l f m e = rw (is_put_lem l) (e ∙ ap firing (f ∙ ap (λ x. (put_alone P L x).fired) hq), m ∙ ap (put_left P L) hq)

  module _ (h : n ≤ q) (m : ℕ) (hm : m ≡ min P.parts 32) where
    pub fire-finish : (fired answer : ℕ) (M : Network) → q - n < m → fired ≡ finishes_on P L (no_puts P L) (q - n) (q - n + 1) → M ≡ finish_left P L (q - n) → answer ≡ firing fired → Fired P L r answer M
    unfolding fire_answer fire_left
    fire-finish fired answer M l f g e =
        let t : is_finish P r ≡ true = lt-ltb (part_of P r) (min P.parts 32) (omega (arith, part_is, hm, l)) in
        rw (no_put h, t) (e ∙ ap firing (f ∙ ap (λ x. finishes_on P L (no_puts P L) x (x + 1)) part_is), g ∙ ap (finish_left P L) part_is)

    pub fire-none : m ≤ q - n → Fired P L r 12 L
    unfolding fire_answer fire_left
    fire-none l =
        let t : is_finish P r ≡ false = le-ltb (part_of P r) (min P.parts 32) (omega (arith, part_is, hm, l)) in
        rw (no_put h, t) (refl, refl)
