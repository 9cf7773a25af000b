-- A rule asked whether it is ready: the answer is what firing it would give, one law for each way out.
use mathlib.Core.Path.{◌≡◌, refl, sym, ◌∙◌, ap}
use mathlib.Core.Bool.{Bool, cond}
use Prim.Native.Nat.{ℕ, zero, suc, ◌+◌, ◌-◌, ◌<◌, ◌≤◌, min}
use native.Mathlib.Omega.{arith}
use borrow.Author.Tests.{lt-ltb, ne_eqb}
use lib.Dec.{ltb}
use Rattle.finishes.specs.Finishes.{finished, finishing_on}
use Rattle.plans.specs.declared.Plan.{Plan}
use Rattle.lanes.specs.declared.Network.{Network}
use Rattle.rounds.specs.Fires.{queue_of, put_alone, put_would, put_left, finish_left, firing, fire_answer}
use Rattle.rounds.proofs.Ways.{fire-put, fire-finish, fire-none}
use Rattle.rounds.proofs.Turns.{alone-fired, no_puts_lem, firing_would}

some-fired : (fired : ℕ) → cond (ltb 0 fired) 0 14 ≡ firing fired
some-fired zero = refl
some-fired (suc n) = rw (lt-ltb 0 (suc n) (omega arith), ne_eqb (suc n) 0 (λ z. omega arith)) refl

module _ (P : Plan) (L : Network) (r q n : ℕ) (hq : q ≡ queue_of P r) (hn : n ≡ min P.queues 512) where
  pub ask_put : (b : Bool) → q < n → b ≡ put_would P L q → cond b 0 14 ≡ fire_answer P L r
  ask_put b l e =
      let f : (put_alone P L q).fired ≡ cond b 1 0 = alone-fired P L q (omega (arith, hn)) ∙ ap (λ x. cond x 1 0) (sym e) in
      (fire-put P L r q n hq hn (put_alone P L q).fired (cond b 0 14) (put_left P L q) l refl refl (sym (ap firing f ∙ firing_would b))).0

  module _ (h : n ≤ q) (m : ℕ) (hm : m ≡ min P.parts 32) where
    pub ask_finish : (fired : ℕ) (b : Bool) → q - n < m
        → fired ≡ finished (finishing_on P L (q - n) (q - n + 1)) (min (q - n + 1) 32)
        → b ≡ ltb 0 fired
        → cond b 0 14 ≡ fire_answer P L r
    ask_finish fired b l f e =
        (fire-finish P L r q n hq hn h m hm fired (cond b 0 14) (finish_left P L (q - n)) l (f ∙ no_puts_lem P L (q - n) (q - n + 1)) refl (ap (λ x. cond x 0 14) e ∙ some-fired fired)).0

    pub ask_none : m ≤ q - n → 12 ≡ fire_answer P L r
    ask_none l = (fire-none P L r q n hq hn h m hm l).0
