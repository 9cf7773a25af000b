-- A call is done exactly where its answer is 0: its checks are its action's tests, those that an input or an output passes by its place left out.
use mathlib.Core.Path.{◌≡◌, refl, sym, ap, ◌∙◌}
use mathlib.Core.Logic.{by_cases}
use mathlib.Core.Bool.{Bool, true, false, ◌&&◌, cond}
use mathlib.Core.List.{[], ◌∷◌}
use Prim.Native.Nat.{ℕ, ◌<◌, ◌≤◌}
use native.Mathlib.Omega.{arith}
use native.Mathlib.Decide.{dec_lt}
use borrow.Author.Tests.{ltb-true, lt-ltb, le-ltb}
use lib.Dec.{eqb, ltb}
use Rattle.base.specs.Checks.{whole, verdict}
use Rattle.nets.specs.Net.{Net, Good}
use Rattle.nets.specs.State.{State, some_token}
use Rattle.nets.specs.Actions.{feed, drain, room, tests, ready}
use Rattle.nets.specs.Rounds.{rule_count, rule}
use Rattle.nets.specs.Orders.{Entry, output_queue, asked}
use Rattle.nets.specs.Calls.{feed_checks, drain_checks, fire_checks, answer_to, some_ready, AnswersRight}
use Rattle.nets.proofs.Facts.{and_end, split-on}

module _ (N : Net) (G : Good N) where
  -- an input goes from outside into a part, an output from a part to outside
  pub input-ends : (q : ℕ) → q < N.ins → (N.parts ≤ N.from q) × (N.into q < N.parts)
  input-ends q l = (
    by_cases (dec_lt (N.from q) N.parts) (λ f. let k = G.put_after q f in let z : ⊥ = omega arith in absurd z) (λ f. omega arith),
    G.before_take q (omega (arith, G.ends_fit)),
  )

  pub output-ends : (j : ℕ) → j < N.outs → (N.from (output_queue N j) < N.parts) × (N.parts ≤ N.into (output_queue N j))
  output-ends j l = (
    G.after_put (output_queue N j) (omega (arith, G.ends_fit)) (omega (arith, G.ends_fit)),
    by_cases (dec_lt (N.into (output_queue N j)) N.parts) (λ f. let k = G.take_before (output_queue N j) f in let z : ⊥ = omega (arith, G.ends_fit) in absurd z) (λ f. omega arith),
  )

  pub feed_ready_is : (s : State) (j x : ℕ) → j < N.ins → ready N s (feed j x) ≡ (room N s j && N.allow (N.node j) x)
  unfolding ready tests
  feed_ready_is s j x l =
      let e = input-ends j l in
      rw (lt-ltb (N.into j) N.parts e.1, le-ltb (N.from j) N.parts e.0) (ap (λ b. room N s j && b) (and_end (N.allow (N.node j) x)))

  pub drain_ready_is : (s : State) (j : ℕ) → j < N.outs → ready N s (drain (output_queue N j)) ≡ some_token (s.queue (output_queue N j))
  unfolding ready tests
  drain_ready_is s j l =
      let e = output-ends j l in
      rw (lt-ltb (N.from (output_queue N j)) N.parts e.0, le-ltb (N.into (output_queue N j)) N.parts e.1) (and_end (some_token (s.queue (output_queue N j))))

  -- the answer of each kind
  two_on : (a b : Bool) → eqb (verdict ((12, whole a) ∷ (14, whole b) ∷ [])).answer 0 ≡ cond a b false
  unfolding verdict
  two_on true true = refl
  two_on true false = refl
  two_on false b = refl

  three_on : (a b c : Bool) → eqb (verdict ((12, whole a) ∷ (13, whole b) ∷ (14, whole c) ∷ [])).answer 0 ≡ cond a (c && b) false
  unfolding verdict
  three_on true true true = refl
  three_on true true false = refl
  three_on true false true = refl
  three_on true false false = refl
  three_on false b c = refl

  feed-answer : (s : State) (j x : ℕ) → eqb (verdict (feed_checks N s j x)).answer 0 ≡ some_ready N s (cond (ltb j N.ins) (feed j x ∷ []) [])
  feed-answer s j x =
      three_on (ltb j N.ins) (N.allow (N.node j) x) (room N s j)
      ∙ split-on (λ b. ltb j N.ins ≡ b → cond b (room N s j && N.allow (N.node j) x) false ≡ some_ready N s (cond b (feed j x ∷ []) [])) (ltb j N.ins)
      (λ _ e. sym (feed_ready_is s j x (ltb-true j N.ins e))) (λ _ e. refl) refl

  drain-answer : (s : State) (j : ℕ) → eqb (verdict (drain_checks N s j)).answer 0 ≡ some_ready N s (cond (ltb j N.outs) (drain (output_queue N j) ∷ []) [])
  drain-answer s j =
      two_on (ltb j N.outs) (some_token (s.queue (output_queue N j)))
      ∙ split-on (λ b. ltb j N.outs ≡ b → cond b (some_token (s.queue (output_queue N j))) false ≡ some_ready N s (cond b (drain (output_queue N j) ∷ []) [])) (ltb j N.outs)
      (λ _ e. sym (drain_ready_is s j (ltb-true j N.outs e))) (λ _ e. refl) refl

  fire-answer : (s : State) (r : ℕ) → eqb (verdict (fire_checks N s r)).answer 0 ≡ some_ready N s (cond (ltb r (rule_count N)) (rule N r ∷ []) [])
  fire-answer s r =
      two_on (ltb r (rule_count N)) (ready N s (rule N r))
      ∙ split-on (λ b. cond b (ready N s (rule N r)) false ≡ some_ready N s (cond b (rule N r ∷ []) [])) (ltb r (rule_count N)) (λ _. refl) (λ _. refl)

  by_kind : (s : State) (e : Entry) (x y z : Bool)
      → eqb (verdict (cond x (feed_checks N s e.index e.value) (cond y (drain_checks N s e.index) (cond z (fire_checks N s e.index) ((12, whole false) ∷ []))))).answer 0
      ≡ some_ready N s (cond x (cond (ltb e.index N.ins) (feed e.index e.value ∷ []) [])
      (cond y (cond (ltb e.index N.outs) (drain (output_queue N e.index) ∷ []) []) (cond z (cond (ltb e.index (rule_count N)) (rule N e.index ∷ []) []) [])))
  unfolding verdict
  by_kind s e true y z = feed-answer s e.index e.value
  by_kind s e false true z = drain-answer s e.index
  by_kind s e false false true = fire-answer s e.index
  by_kind s e false false false = refl

  pub answers_right : AnswersRight N
  unfolding answer_to asked
  answers_right s e = by_kind s e (eqb e.kind 0) (eqb e.kind 1) (eqb e.kind 2)
