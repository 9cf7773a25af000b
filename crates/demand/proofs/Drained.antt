-- What drains give: an order's values are those of its actions, and an output's history has them in order. By induction on the actions; no Finish takes from a
-- queue that goes outside.
use mathlib.Core.Path.{◌≡◌, refl, sym, ◌∙◌, ap}
use mathlib.Core.Bool.{Bool, true, false, cond, ◌&&◌, and-false}
use mathlib.Core.List.{List, [], ◌∷◌, ◌++◌, append-nil, append_assoc}
use mathlib.Core.Logic.{by_cases}
use Prim.Native.Nat.{ℕ, zero, suc, ◌≤◌, ◌<◌}
use native.Mathlib.Decide.{ℕ_discrete}
use native.Mathlib.Omega.{arith}
use borrow.Author.Tests.{eq-eqb, ne_eqb}
use lib.Dec.{eqb}
use lib.ListN.{get_or}
use Rattle.queues.specs.Lists.{listed}
use Rattle.nets.specs.Net.{Net}
use Rattle.nets.specs.State.{State, fresh}
use Rattle.nets.specs.Actions.{Action, feed, drain, put, finish, ready, done, step, play}
use Rattle.nets.specs.Orders.{Entry, asked, Played, counted, tried, order}
use Rattle.nets.proofs.Facts.{split-on}
use Rattle.nets.proofs.Ready.{finishes}
use Rattle.nets.proofs.Orders.{order_plays}
use Rattle.demand.specs.History.{Past, nothing, noted, note, story}
use Rattle.demand.specs.Calls.{drained, drained_by, drained_at, drained_from, order_actions, OrderDrains, OutputsDrained}

-- ---- orders

drained_append : (N : Net) (s : State) (xs ys : List Action) → drained_by N s (xs ++ ys) ≡ drained_by N s xs ++ drained_by N (play N s xs) ys
unfolding drained_by play
drained_append N s [] ys = refl
drained_append N s (a ∷ xs) ys = ap (λ l. drained N s a ++ l) (drained_append N (step N s a) xs ys) ∙ sym (append_assoc (drained N s a) (drained_by N (step N s a) xs) (drained_by N (play N (step N s a) xs) ys))

counted-drained : (N : Net) (t : Played) (a : Action) → ready N t.state a ≡ true → ((counted N t a).drained ≡ t.drained ++ drained N t.state a) × ((counted N t a).state ≡ done N t.state a)
unfolding counted
counted-drained N t (feed q x) e = (sym (append-nil t.drained), refl)
counted-drained N t (drain q) e = (ap (λ b. t.drained ++ cond b (get_or (t.state.queue q) 0 0 ∷ []) []) (sym e), refl)
counted-drained N t (put q) e = (sym (append-nil t.drained), refl)
counted-drained N t (finish p) e = (sym (append-nil t.drained), refl)

waiting_drained : (N : Net) (s : State) (a : Action) → ready N s a ≡ false → drained N s a ≡ []
waiting_drained N s (feed q x) e = refl
waiting_drained N s (drain q) e = ap (λ b. cond b (get_or (s.queue q) 0 0 ∷ []) []) e
waiting_drained N s (put q) e = refl
waiting_drained N s (finish p) e = refl

tried-drains : (N : Net) (t : Played) (xs : List Action) → (tried N t xs).drained ≡ t.drained ++ drained_by N t.state xs
unfolding tried drained_by step
tried-drains N t [] = sym (append-nil t.drained)
tried-drains N t (a ∷ xs) =
    let s : State = t.state in
    split-on (λ b. ready N s a ≡ b → (tried N (cond b (counted N t a) t) xs).drained ≡ t.drained ++ (drained N s a ++ drained_by N (cond b (done N s a) s) xs)) (ready N s a)
    (λ _ e. let h = counted-drained N t a e in
    tried-drains N (counted N t a) xs ∙ ap (λ l. l ++ drained_by N (counted N t a).state xs) h.0 ∙ append_assoc t.drained (drained N s a) (drained_by N (counted N t a).state xs)
    ∙ ap (λ u. t.drained ++ (drained N s a ++ drained_by N u xs)) h.1)
    (λ _ e. tried-drains N t xs ∙ ap (λ l. t.drained ++ (l ++ drained_by N s xs)) (sym (waiting_drained N s a e))) refl

pub order-drains : OrderDrains
unfolding order listed drained_by
order-drains N s e zero = refl
order-drains N s e (suc n) =
    tried-drains N (order N s e n) (asked N (e n)) ∙ ap (λ l. l ++ drained_by N (order N s e n).state (asked N (e n))) (order-drains N s e n)
    ∙ ap (λ u. drained_by N s (order_actions N e n) ++ drained_by N u (asked N (e n))) (order_plays N s e n)
    ∙ sym (drained_append N s (order_actions N e n) (asked N (e n)))

-- ---- the history

module _ (N : Net) (q : ℕ) (out : N.parts ≤ N.into q) where
  noted-went : (s : State) (h : Past) (a : Action) → ready N s a ≡ true → (noted N s a h).went q ≡ h.went q ++ drained_at N s q a
  unfolding noted
  noted-went s h (feed p x) e = sym (append-nil (h.went q))
  noted-went s h (drain p) e =
      by_cases (ℕ_discrete q p)
      (λ d. ap (λ b. cond b (h.went p ++ (get_or (s.queue p) 0 0 ∷ [])) (h.went q)) (eq-eqb q p d) ∙ ap (λ i. h.went i ++ (get_or (s.queue p) 0 0 ∷ [])) (sym d)
      ∙ ap (λ b. h.went q ++ cond b (get_or (s.queue p) 0 0 ∷ []) []) (sym (ap (λ b. b && eqb p q) e ∙ eq-eqb p q (sym d))))
      (λ ne. ap (λ b. cond b (h.went p ++ (get_or (s.queue p) 0 0 ∷ [])) (h.went q)) (ne_eqb q p ne) ∙ sym (append-nil (h.went q))
      ∙ ap (λ b. h.went q ++ cond b (get_or (s.queue p) 0 0 ∷ []) []) (sym (ap (λ b. ready N s (drain p) && b) (ne_eqb p q (λ z. ne (sym z))) ∙ and-false (ready N s (drain p)))))
  noted-went s h (put p) e = sym (append-nil (h.went q))
  noted-went s h (finish p) e =
      let l : p < N.parts = (finishes N s p e).inside in
      ap (λ b. cond b (h.went q ++ (get_or (s.queue q) 0 0 ∷ [])) (h.went q)) (ne_eqb (N.into q) p (λ z. omega arith)) ∙ sym (append-nil (h.went q))

  waiting_at : (s : State) (a : Action) → ready N s a ≡ false → drained_at N s q a ≡ []
  waiting_at s (feed p x) e = refl
  waiting_at s (drain p) e = ap (λ b. cond (b && eqb p q) (get_or (s.queue p) 0 0 ∷ []) []) e
  waiting_at s (put p) e = refl
  waiting_at s (finish p) e = refl

  note-went : (s : State) (h : Past) (a : Action) → (note N s a h).went q ≡ h.went q ++ drained_at N s q a
  unfolding note
  note-went s h a =
      split-on (λ b. ready N s a ≡ b → (cond b (noted N s a h) h).went q ≡ h.went q ++ drained_at N s q a) (ready N s a)
      (λ _ e. noted-went s h a e) (λ _ e. sym (ap (λ l. h.went q ++ l) (waiting_at s a e) ∙ append-nil (h.went q))) refl

  story-went : (s : State) (h : Past) (xs : List Action) → (story N s xs h).went q ≡ h.went q ++ drained_from N s q xs
  unfolding story drained_from
  story-went s h [] = sym (append-nil (h.went q))
  story-went s h (a ∷ xs) =
      story-went (step N s a) (note N s a h) xs ∙ ap (λ l. l ++ drained_from N (step N s a) q xs) (note-went s h a)
      ∙ append_assoc (h.went q) (drained_at N s q a) (drained_from N (step N s a) q xs)

pub outputs-drained : OutputsDrained
unfolding nothing
outputs-drained N xs q out = story-went N q out (fresh N) nothing xs
