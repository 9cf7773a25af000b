-- Live: while inputs are fed, outputs have room and a part is behind, some rule is ready. Of the parts with the least count take the put rule with its flag off
-- whose node has the least rank: what it needs is there, and so is room. If there is none, a Finish is ready.
use mathlib.Core.Path.{◌≡◌, refl, sym, ap, ◌∙◌}
use mathlib.Core.Logic.{◌⊎◌, inl, inr, by_cases}
use mathlib.Core.Bool.{Bool, true, false, not, ◌&&◌, false≢true, true≢false}
use Prim.Native.Nat.{ℕ, suc, ◌≤◌, ◌<◌}
use native.Mathlib.Omega.{arith}
use native.Mathlib.Nat.{not-le_of_lt, le_refl}
use native.Mathlib.Decide.{dec_lt}
use lib.ListN.{length}
use lib.Dec.{eqb, ltb}
use borrow.Author.Tests.{eqb-true, eq-eqb, ltb-true, lt-ltb}
use Rattle.base.proofs.Tests.{and_left, and_right}
use Rattle.nets.specs.Lists.{bit}
use Rattle.nets.specs.Net.{Net, Good}
use Rattle.nets.specs.State.{State, some_token, needs_met}
use Rattle.nets.specs.Actions.{Action, put, finish, ready}
use Rattle.nets.proofs.Facts.{and_in, not_in, not_out, split-on, length-token}
use Rattle.nets.proofs.Sight.{met-from}
use Rattle.nets.proofs.Ready.{put-ready, finish-ready}
use Rattle.demand.specs.History.{Past}
use Rattle.demand.proofs.Keep.{Lanes, lengths}
use Rattle.demand.proofs.Least.{Least, search_least}

-- a rule of the network
abbrev pub Rule : Net → Action → Type 0
Rule N a = ((q : ℕ) × (a ≡ put q) × (N.from q < N.parts)) ⊎ ((p : ℕ) × (a ≡ finish p) × (p < N.parts))

-- a put rule of a part at m whose flag is off
abbrev owed : Net → State → ℕ → ℕ → Bool
owed N s m q = ltb (N.from q) N.parts && (eqb (s.count (N.from q)) m && not (s.flag q))

module _ (N : Net) (G : Good N) (s : State) (h : Past) (L : Lanes N s h) (n : ℕ) (within : n ≤ N.limit)
    (fed : (q : ℕ) → N.parts ≤ N.from q → N.into q < N.parts → n ≤ length (h.came q))
    (space : (q : ℕ) → N.from q < N.parts → N.parts ≤ N.into q → length (s.queue q) < N.depth q) where
  module _ (m : ℕ) (below : m < n) (least : (p : ℕ) → p < N.parts → m ≤ s.count p) where
    -- an incoming queue of a part at m has a token, if its putting part is ahead or has put
    tokens_at : (q : ℕ) → N.into q < N.parts → s.count (N.into q) ≡ m
        → (N.from q < N.parts → s.count (N.from q) ≡ m → s.flag q ≡ true) → some_token (s.queue q) ≡ true
    tokens_at q i c f =
        length-token (s.queue q)
        (let more : m < length (h.came q) =
        by_cases (dec_lt (N.from q) N.parts)
        (λ l. let e = (L q).sent l in let o = least (N.from q) l in
        by_cases (dec_lt m (s.count (N.from q))) (λ u. omega arith)
        (λ u. let b : bit (s.flag q) ≡ 1 = ap bit (f l (omega arith)) in omega arith))
        (λ l. let e = fed q (omega arith) i in omega arith)
        in omega (arith, lengths N s h L q, (L q).took i))

    owed_in : (q : ℕ) → N.from q < N.parts → s.count (N.from q) ≡ m → s.flag q ≡ false → owed N s m q ≡ true
    owed_in q l c f = and_in (lt-ltb (N.from q) N.parts l) (and_in (eq-eqb (s.count (N.from q)) m c) (not_in f))

    flag_on : (q : ℕ) → N.from q < N.parts → s.count (N.from q) ≡ m → (owed N s m q ≡ true → ⊥) → s.flag q ≡ true
    flag_on q l c h = split-on (λ b. s.flag q ≡ b → b ≡ true) (s.flag q) (λ _ _. refl) (λ _ e. absurd (h (owed_in q l c e))) refl

    put_case : Least N.queues (owed N s m) (λ q. N.draw.rank (N.node q)) → (a : Action) × Rule N a × (ready N s a ≡ true)
    unfolding needs_met
    put_case k =
        let q : ℕ = k.it in
        let a = ltb (N.from q) N.parts in
        let b = eqb (s.count (N.from q)) m in
        let c = not (s.flag q) in
        let l : N.from q < N.parts = ltb-true (N.from q) N.parts (and_left a (b && c) k.holds) in
        let r : (b && c) ≡ true = and_right a (b && c) k.holds in
        let at_m : s.count (N.from q) ≡ m = eqb-true (s.count (N.from q)) m (and_left b c r) in
        let off : s.flag q ≡ false = not_out (s.flag q) (and_right b c r) in (
          put q,
          inl (q, refl, l),
          put-ready N s q (record {
            inside = l;
            limited = omega arith;
            off = off;
            space = by_cases (dec_lt (N.into q) N.parts)
                (λ i. let z : bit (s.flag q) ≡ 0 = ap bit off in
                omega (arith, lengths N s h L q, (L q).took i, (L q).sent l, least (N.into q) i, G.deep q k.below))
                (λ i. space q l (omega arith));
            needs = met-from N G (N.from q) s (N.draw.rank (N.node q))
                (λ j e f. tokens_at j (rw e l) (ap s.count e ∙ at_m)
                (λ u d. flag_on j u d (λ o. not-le_of_lt (f u) (k.least j (G.put_queue j u) o))))
                (suc (N.draw.rank (N.node q))) (N.node q) (record { is_node = G.put_node q l; where_is = inl (G.put_part q l) })
                (le_refl (suc (N.draw.rank (N.node q)))) (λ ne. absurd (ne (G.put_part q l))) (le_refl (N.draw.rank (N.node q)));
          }),
        )

    finish_case : (p : ℕ) → p < N.parts → s.count p ≡ m → ((q : ℕ) → q < N.queues → owed N s m q ≡ false) → (a : Action) × Rule N a × (ready N s a ≡ true)
    finish_case p i c none =
        let on : (q : ℕ) → N.from q < N.parts → s.count (N.from q) ≡ m → s.flag q ≡ true =
        λ q l d. flag_on q l d (λ o. false≢true (sym (none q (G.put_queue q l)) ∙ o)) in (
          finish p,
          inr (p, refl, i),
          finish-ready N s p (record {
            inside = i;
            limited = omega arith;
            on = λ q _ e. on q (rw e i) (ap s.count e ∙ c);
            full = λ q _ e. tokens_at q (rw e i) (ap s.count e ∙ c) (on q);
          }),
        )

  pub live : (p : ℕ) → p < N.parts → s.count p < n → (a : Action) × Rule N a × (ready N s a ≡ true)
  live p i b = go (search_least N.parts (λ _. true) s.count)
    where
      go : Least N.parts (λ _. true) s.count ⊎ ((j : ℕ) → j < N.parts → true ≡ false) → (a : Action) × Rule N a × (ready N s a ≡ true)
      go (inr f) = absurd (true≢false (f p i))
      go (inl k) =
          let m : ℕ = s.count k.it in
          let low : (j : ℕ) → j < N.parts → m ≤ s.count j = λ j l. k.least j l refl in
          let below : m < n = omega (arith, low p i) in
          then (search_least N.queues (owed N s m) (λ q. N.draw.rank (N.node q))) below low
        where
          then : Least N.queues (owed N s (s.count k.it)) (λ q. N.draw.rank (N.node q)) ⊎ ((j : ℕ) → j < N.queues → owed N s (s.count k.it) j ≡ false)
              → s.count k.it < n → ((j : ℕ) → j < N.parts → s.count k.it ≤ s.count j) → (a : Action) × Rule N a × (ready N s a ≡ true)
          then (inl o) u low = put_case (s.count k.it) u low o
          then (inr none) u low = finish_case (s.count k.it) u low k.it k.below refl none
