-- An order is a play of the actions that it asks for, and its counts are what was done. By induction on its entries, of which each asks for one action or none.
use mathlib.Core.Path.{◌≡◌, refl, sym, ap, ◌∙◌}
use mathlib.Core.Bool.{Bool, true, false, cond}
use mathlib.Core.List.{List, [], ◌∷◌}
use Prim.Native.Nat.{ℕ, zero, suc, ◌+◌, ◌-◌, ◌≤◌}
use native.Mathlib.Omega.{arith}
use lib.Dec.{eqb, ltb}
use lib.ListN.{length, get_or, length-append}
use Rattle.queues.specs.Lists.{listed}
use Rattle.nets.specs.Lists.{bit}
use Rattle.nets.specs.Net.{Net}
use Rattle.nets.specs.State.{State}
use Rattle.nets.specs.Actions.{Action, feed, drain, put, finish, ready, done, step, play}
use Rattle.nets.specs.Rounds.{rule_count, rule}
use Rattle.nets.specs.Orders.{Entry, output_queue, asked, Played, counted, tried, order, drains_asked}
use Rattle.nets.proofs.Facts.{split-on}
use Rattle.nets.proofs.Rounds.{play_append}

-- a drain, as an action
abbrev drain_bit : Action → ℕ
drain_bit (feed q x) = 0
drain_bit (drain q) = 1
drain_bit (put q) = 0
drain_bit (finish p) = 0

abbrev drain_bits : List Action → ℕ
drain_bits [] = 0
drain_bits (a ∷ xs) = drain_bit a + drain_bits xs

module _ (N : Net) where
  counted-state : (t : Played) (a : Action) → (counted N t a).state ≡ done N t.state a
  unfolding counted
  counted-state t (feed q x) = refl
  counted-state t (drain q) = refl
  counted-state t (put q) = refl
  counted-state t (finish p) = refl

  tried-state : (t : Played) (xs : List Action) → (tried N t xs).state ≡ play N t.state xs
  unfolding tried play step
  tried-state t [] = refl
  tried-state t (a ∷ xs) =
      tried-state (cond (ready N t.state a) (counted N t a) t) xs
      ∙ split-on (λ b. play N (cond b (counted N t a) t).state xs ≡ play N (cond b (done N t.state a) t.state) xs) (ready N t.state a)
      (λ _. ap (λ s. play N s xs) (counted-state t a)) (λ _. refl)

  pub order_plays : (s : State) (e : ℕ → Entry) (n : ℕ) → (order N s e n).state ≡ play N s (listed n (λ k. asked N (e k)))
  unfolding order listed play
  order_plays s e zero = refl
  order_plays s e (suc n) =
      tried-state (order N s e n) (asked N (e n)) ∙ ap (λ x. play N x (asked N (e n))) (order_plays s e n) ∙ sym (play_append N s (listed n (λ k. asked N (e k))) (asked N (e n)))

  -- as many values as drains
  one-drained : (t : Played) → length t.drained ≡ t.drains → (a : Action) → length (counted N t a).drained ≡ (counted N t a).drains
  unfolding counted
  one-drained t h (feed q x) = h
  one-drained t h (drain q) = length-append t.drained (get_or (t.state.queue q) 0 0 ∷ []) ∙ omega arith
  one-drained t h (put q) = h
  one-drained t h (finish p) = h

  tried-drained : (t : Played) (xs : List Action) → length t.drained ≡ t.drains → length (tried N t xs).drained ≡ (tried N t xs).drains
  unfolding tried
  tried-drained t [] h = h
  tried-drained t (a ∷ xs) h =
      tried-drained (cond (ready N t.state a) (counted N t a) t) xs
      (split-on (λ b. length (cond b (counted N t a) t).drained ≡ (cond b (counted N t a) t).drains) (ready N t.state a) (λ _. one-drained t h a) (λ _. h))

  pub order-drained : (s : State) (e : ℕ → Entry) (n : ℕ) → length (order N s e n).drained ≡ (order N s e n).drains
  unfolding order
  order-drained s e zero = refl
  order-drained s e (suc n) = tried-drained (order N s e n) (asked N (e n)) (order-drained s e n)

  -- and no more than were asked for
  drains-one : (t : Played) (a : Action) → (counted N t a).drains ≡ t.drains + drain_bit a
  unfolding counted
  drains-one t (feed q x) = omega arith
  drains-one t (drain q) = omega arith
  drains-one t (put q) = omega arith
  drains-one t (finish p) = omega arith

  tried-drains : (t : Played) (xs : List Action) → (tried N t xs).drains ≤ t.drains + drain_bits xs
  unfolding tried
  tried-drains t [] = omega arith
  tried-drains t (a ∷ xs) =
      let h = tried-drains (cond (ready N t.state a) (counted N t a) t) xs in
      let k : (cond (ready N t.state a) (counted N t a) t).drains ≤ t.drains + drain_bit a =
      split-on (λ b. (cond b (counted N t a) t).drains ≤ t.drains + drain_bit a) (ready N t.state a) (λ _. let e = drains-one t a in omega arith) (λ _. omega arith) in
      omega arith

  rule-drains : (r : ℕ) → drain_bit (rule N r) ≡ 0
  unfolding rule
  rule-drains r = split-on (λ b. drain_bit (cond b (put (N.ins + r)) (finish (N.ins + r - N.queues))) ≡ 0) (ltb (N.ins + r) N.queues) (λ _. refl) (λ _. refl)

  asked_on : (x y z a b c : Bool) (f d g : Action) → drain_bit f ≡ 0 → drain_bit d ≡ 1 → drain_bit g ≡ 0
      → drain_bits (cond x (cond a (f ∷ []) []) (cond y (cond b (d ∷ []) []) (cond z (cond c (g ∷ []) []) []))) ≤ bit y
  asked_on true y z true b c f d g p q r = omega arith
  asked_on true y z false b c f d g p q r = omega arith
  asked_on false true z a true c f d g p q r = omega arith
  asked_on false true z a false c f d g p q r = omega arith
  asked_on false false true a b true f d g p q r = omega arith
  asked_on false false true a b false f d g p q r = omega arith
  asked_on false false false a b c f d g p q r = omega arith

  asked-drains : (e : Entry) → drain_bits (asked N e) ≤ bit (eqb e.kind 1)
  unfolding asked
  asked-drains e =
      asked_on (eqb e.kind 0) (eqb e.kind 1) (eqb e.kind 2) (ltb e.index N.ins) (ltb e.index N.outs) (ltb e.index (rule_count N))
      (feed e.index e.value) (drain (output_queue N e.index)) (rule N e.index) refl refl (rule-drains e.index)

  pub order-drains : (s : State) (e : ℕ → Entry) (n : ℕ) → (order N s e n).drains ≤ drains_asked e n
  unfolding order drains_asked
  order-drains s e zero = omega arith
  order-drains s e (suc n) = omega (arith, tried-drains (order N s e n) (asked N (e n)), asked-drains (e n), order-drains s e n)
