-- An answer is the first check that fails: by cases on what the checks say, which are the tests of the numbers.
use mathlib.Core.Path.{◌≡◌, refl, sym, ◌∙◌, ap}
use mathlib.Core.Bool.{Bool, true, false, cond}
use mathlib.Core.List.{List, [], ◌∷◌}
use mathlib.Core.Logic.{◌↔◌}
use Prim.Native.Nat.{ℕ, ◌^◌, ◌≤◌, ◌<◌}
use native.Mathlib.Omega.{arith}
use borrow.Author.Tests.{lt-ltb, le-ltb, ltb-true, ltb-false, ne_eqb}
use lib.Dec.{eqb, ltb}
use lib.ListN.{length}
use Rattle.base.specs.Checks.{verdict}
use Rattle.cycles.specs.Netlists.{width_of}
use Rattle.nets.specs.Lists.{bit}
use Rattle.nets.specs.Net.{Net, Good}
use Rattle.nets.specs.State.{State, some_token}
use Rattle.nets.specs.Actions.{Action, feed, drain, room, ready, done, step, play}
use Rattle.nets.specs.Rounds.{rule_count, rule}
use Rattle.nets.specs.Orders.{Entry, output_queue, asked}
use Rattle.nets.specs.Calls.{answer_to, some_ready}
use Rattle.nets.proofs.Goods.{good}
use Rattle.nets.proofs.Calls.{answers_right}
use Rattle.nets.proofs.Ready.{puts, put-ready, finishes, finish-ready}
use Rattle.nets.proofs.Needs.{needs_are}
use Rattle.plans.specs.declared.Plan.{Plan}
use Rattle.lanes.specs.declared.Network.{Network}
use Rattle.spots.specs.Stores.{Given, net_of}
use Rattle.moves.specs.Moves.{feed_checked, drain_checked}
use Rattle.moves.specs.Meaning.{feed_entry, drain_entry, fire_entry}
use Rattle.demand.specs.Refusals.{ReadyExact, FeedExact, DrainExact, FireExact, RefusedStays}

-- ---- two checks, as a drain and a fire have them, and the three of a feed

off : {A : Type 0} → true ≡ false → A
off e = let z : ◌≡◌ {A = ℕ} 1 0 = ap bit e in let y : ⊥ = omega arith in absurd y

two_12 : (a b : Bool) → (drain_checked a b ≡ 12) ↔ (a ≡ false)
unfolding drain_checked verdict
two_12 true true = (λ e. let y : ⊥ = omega (arith, e) in absurd y, λ h. off h)
two_12 true false = (λ e. let y : ⊥ = omega (arith, e) in absurd y, λ h. off h)
two_12 false b = (λ e. refl, λ h. refl)

two_14 : (a b : Bool) → (drain_checked a b ≡ 14) ↔ ((a ≡ true) × (b ≡ false))
unfolding drain_checked verdict
two_14 true true = (λ e. let y : ⊥ = omega (arith, e) in absurd y, λ h. off h.1)
two_14 true false = (λ e. (refl, refl), λ h. refl)
two_14 false b = (λ e. let y : ⊥ = omega (arith, e) in absurd y, λ h. off (sym h.0))

two_0 : (a b : Bool) → (drain_checked a b ≡ 0) ↔ ((a ≡ true) × (b ≡ true))
unfolding drain_checked verdict
two_0 true true = (λ e. (refl, refl), λ h. refl)
two_0 true false = (λ e. let y : ⊥ = omega (arith, e) in absurd y, λ h. off (sym h.1))
two_0 false b = (λ e. let y : ⊥ = omega (arith, e) in absurd y, λ h. off (sym h.0))

three_12 : (a b d : Bool) → (feed_checked a b d ≡ 12) ↔ (a ≡ false)
unfolding feed_checked verdict
three_12 true true true = (λ e. let y : ⊥ = omega (arith, e) in absurd y, λ h. off h)
three_12 true true false = (λ e. let y : ⊥ = omega (arith, e) in absurd y, λ h. off h)
three_12 true false d = (λ e. let y : ⊥ = omega (arith, e) in absurd y, λ h. off h)
three_12 false b d = (λ e. refl, λ h. refl)

three_13 : (a b d : Bool) → (feed_checked a b d ≡ 13) ↔ ((a ≡ true) × (b ≡ false))
unfolding feed_checked verdict
three_13 true true true = (λ e. let y : ⊥ = omega (arith, e) in absurd y, λ h. off h.1)
three_13 true true false = (λ e. let y : ⊥ = omega (arith, e) in absurd y, λ h. off h.1)
three_13 true false d = (λ e. (refl, refl), λ h. refl)
three_13 false b d = (λ e. let y : ⊥ = omega (arith, e) in absurd y, λ h. off (sym h.0))

three_14 : (a b d : Bool) → (feed_checked a b d ≡ 14) ↔ ((a ≡ true) × (b ≡ true) × (d ≡ false))
unfolding feed_checked verdict
three_14 true true true = (λ e. let y : ⊥ = omega (arith, e) in absurd y, λ h. off h.2)
three_14 true true false = (λ e. (refl, refl, refl), λ h. refl)
three_14 true false d = (λ e. let y : ⊥ = omega (arith, e) in absurd y, λ h. off (sym h.1))
three_14 false b d = (λ e. let y : ⊥ = omega (arith, e) in absurd y, λ h. off (sym h.0))

three_0 : (a b d : Bool) → (feed_checked a b d ≡ 0) ↔ ((a ≡ true) × (b ≡ true) × (d ≡ true))
unfolding feed_checked verdict
three_0 true true true = (λ e. (refl, refl, refl), λ h. refl)
three_0 true true false = (λ e. let y : ⊥ = omega (arith, e) in absurd y, λ h. off (sym h.2))
three_0 true false d = (λ e. let y : ⊥ = omega (arith, e) in absurd y, λ h. off (sym h.1))
three_0 false b d = (λ e. let y : ⊥ = omega (arith, e) in absurd y, λ h. off (sym h.0))

-- ---- the answers

feed_is : (N : Net) (s : State) (j x : ℕ) → answer_to N s (feed_entry j x) ≡ feed_checked (ltb j N.ins) (N.allow (N.node j) x) (ltb (length (s.queue j)) (N.depth j))
unfolding answer_to feed_checked room
feed_is N s j x = refl

drain_is : (N : Net) (s : State) (j : ℕ) → answer_to N s (drain_entry j) ≡ drain_checked (ltb j N.outs) (some_token (s.queue (output_queue N j)))
unfolding answer_to drain_checked
drain_is N s j = refl

fire_is : (N : Net) (s : State) (r : ℕ) → answer_to N s (fire_entry r) ≡ drain_checked (ltb r (rule_count N)) (ready N s (rule N r))
unfolding answer_to drain_checked
fire_is N s r = refl

some-none : (xs : List ℕ) → (some_token xs ≡ false) ↔ (xs ≡ [])
some-none [] = (λ e. refl, λ h. refl)
some-none (x ∷ xs) = (λ e. off e, λ h. ap some_token h)

some_one : (xs : List ℕ) → (some_token xs ≡ true) ↔ (0 < length xs)
some_one [] = (λ e. off (sym e), λ h. let y : ⊥ = omega arith in absurd y)
some_one (x ∷ xs) = (λ e. omega arith, λ h. refl)

pub feed-exact : FeedExact
feed-exact P L G j x =
    let N : Net = net_of G in
    let w : ℕ = 2 ^ width_of G.n (N.node j) in
    let i : ℕ = length (G.s.queue j) in
    let a : Bool = ltb j N.ins in
    let b : Bool = ltb x w in
    let d : Bool = ltb i (N.depth j) in
    let e = feed_is N G.s j x in
    record {
      none = (λ f. ltb-false j N.ins ((three_12 a b d).0 (sym e ∙ f)), λ l. e ∙ (three_12 a b d).1 (le-ltb j N.ins l));
      large =
          (λ f. let h = (three_13 a b d).0 (sym e ∙ f) in (ltb-true j N.ins h.0, ltb-false x w h.1), λ l. e ∙ (three_13 a b d).1 (lt-ltb j N.ins l.0, le-ltb x w l.1));
      full = (
        λ f. let h = (three_14 a b d).0 (sym e ∙ f) in (ltb-true j N.ins h.0, ltb-true x w h.1, ltb-false i (N.depth j) h.2),
        λ l. e ∙ (three_14 a b d).1 (lt-ltb j N.ins l.0, lt-ltb x w l.1, le-ltb i (N.depth j) l.2),
      );
      done = (
        λ f. let h = (three_0 a b d).0 (sym e ∙ f) in (ltb-true j N.ins h.0, ltb-true x w h.1, ltb-true i (N.depth j) h.2),
        λ l. e ∙ (three_0 a b d).1 (lt-ltb j N.ins l.0, lt-ltb x w l.1, lt-ltb i (N.depth j) l.2),
      );
    }

pub drain-exact : DrainExact
drain-exact P L G j =
    let N : Net = net_of G in
    let xs : List ℕ = G.s.queue (output_queue N j) in
    let a : Bool = ltb j N.outs in
    let b : Bool = some_token xs in
    let e = drain_is N G.s j in
    record {
      none = (λ f. ltb-false j N.outs ((two_12 a b).0 (sym e ∙ f)), λ l. e ∙ (two_12 a b).1 (le-ltb j N.outs l));
      empty =
          (λ f. let h = (two_14 a b).0 (sym e ∙ f) in (ltb-true j N.outs h.0, (some-none xs).0 h.1), λ l. e ∙ (two_14 a b).1 (lt-ltb j N.outs l.0, (some-none xs).1 l.1));
      done = (λ f. let h = (two_0 a b).0 (sym e ∙ f) in (ltb-true j N.outs h.0, (some_one xs).0 h.1), λ l. e ∙ (two_0 a b).1 (lt-ltb j N.outs l.0, (some_one xs).1 l.1));
    }

pub fire-exact : FireExact
fire-exact P L G r =
    let N : Net = net_of G in
    let a : Bool = ltb r (rule_count N) in
    let b : Bool = ready N G.s (rule N r) in
    let e = fire_is N G.s r in
    record {
      none = (λ f. ltb-false r (rule_count N) ((two_12 a b).0 (sym e ∙ f)), λ l. e ∙ (two_12 a b).1 (le-ltb r (rule_count N) l));
      waits = (λ f. let h = (two_14 a b).0 (sym e ∙ f) in (ltb-true r (rule_count N) h.0, h.1), λ l. e ∙ (two_14 a b).1 (lt-ltb r (rule_count N) l.0, l.1));
      done = (λ f. let h = (two_0 a b).0 (sym e ∙ f) in (ltb-true r (rule_count N) h.0, h.1), λ l. e ∙ (two_0 a b).1 (lt-ltb r (rule_count N) l.0, l.1));
    }

-- ---- rules

pub ready-exact : ReadyExact
ready-exact P L G =
    let N : Net = net_of G in
    let s : State = G.s in
    let H : Good N = good G.n G.c G.net_good G.cut_good G.limit in
    record {
      puts = λ q low high.
          let f = H.after_put q low high in
          let w = needs_are N H s (N.from q) (N.node q) (H.put_node q f) in (
            λ e. let r = puts N s q e in record { off = r.off; space = r.space; needs = w.0 r.needs; below = r.limited },
            λ r. put-ready N s q (record { inside = f; limited = r.below; off = r.off; space = r.space; needs = w.1 r.needs }),
          );
      finishes = λ p l. (
        λ e. let r = finishes N s p e in record { on = r.on; full = r.full; below = r.limited },
        λ r. finish-ready N s p (record { inside = l; limited = r.below; on = r.on; full = r.full }),
      );
    }

-- ---- a refused entry asks for nothing, or for one action that is not ready

module _ (N : Net) (s : State) where
  abbrev Stays : List Action → Type 0
  Stays xs = some_ready N s xs ≡ false → play N s xs ≡ s

  stays-one : (b : Bool) (a : Action) → Stays (cond b (a ∷ []) [])
  unfolding play step
  stays-one true a e = ap (λ t. cond t (done N s a) s) e
  stays-one false a e = refl

  by_choice : (b : Bool) (xs ys : List Action) → Stays xs → Stays ys → Stays (cond b xs ys)
  by_choice true xs ys f g = f
  by_choice false xs ys f g = g

  stays-none : Stays []
  unfolding play
  stays-none e = refl

  stays : (e : Entry) → Stays (asked N e)
  unfolding asked
  stays e =
      by_choice (eqb e.kind 0) _ _ (stays-one (ltb e.index N.ins) (feed e.index e.value))
      (by_choice (eqb e.kind 1) _ _ (stays-one (ltb e.index N.outs) (drain (output_queue N e.index)))
      (by_choice (eqb e.kind 2) _ _ (stays-one (ltb e.index (rule_count N)) (rule N e.index)) stays-none))

pub refused-stays : RefusedStays
refused-stays P L G e h =
    let N : Net = net_of G in
    stays N G.s e (sym (answers_right N (good G.n G.c G.net_good G.cut_good G.limit) G.s e) ∙ ne_eqb (answer_to N G.s e) 0 h)
