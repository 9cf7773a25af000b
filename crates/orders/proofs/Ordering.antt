-- An order on the arrays is the network's: one entry by what feeds, drains and fires mean, and the others by induction, each from a state that is reached.
use mathlib.Core.Path.{◌≡◌, refl, sym, ◌∙◌, ap, ap₂}
use mathlib.Core.Bool.{Bool, true, false, cond, ◌&&◌}
use mathlib.Core.List.{List, [], ◌∷◌, ◌++◌}
use Prim.Native.Nat.{ℕ, zero, suc, ◌+◌, ◌-◌, ◌<◌}
use native.Mathlib.Omega.{arith}
use borrow.Author.Tests.{ne_eqb}
use lib.Dec.{eqb, ltb}
use lib.ListN.{length, get_or, set, drop, length-append}
use lib.Seq.{drop-cons, set_at, append_snoc}
use Rattle.base.specs.Checks.{whole, verdict}
use Rattle.base.proofs.Tests.{and_left, and_right}
use Rattle.nets.specs.Lists.{bit}
use Rattle.nets.specs.Net.{Net}
use Rattle.nets.specs.State.{State}
use Rattle.nets.specs.Actions.{Action, feed, drain, put, finish, ready, done, step, play}
use Rattle.nets.specs.Rounds.{rule_count, rule}
use Rattle.nets.specs.Orders.{Entry, output_queue, asked, Played, counted, tried, order, drains_asked}
use Rattle.nets.specs.Calls.{checks_of, answer_to, some_ready}
use Rattle.nets.proofs.Calls.{answers_right}
use Rattle.nets.proofs.Goods.{good}
use Rattle.nets.proofs.Kept.{reaching}
use Rattle.nets.proofs.Orders.{order-drained, order-drains}
use Rattle.plans.specs.declared.Plan.{Plan}
use Rattle.lanes.specs.declared.Network.{Network}
use Rattle.spots.specs.Stores.{store_of, Given, net_of}
use Rattle.moves.specs.Meaning.{drain_entry, fire_entry, answer_of, state_after}
use Rattle.moves.proofs.Feeding.{feed_means}
use Rattle.moves.proofs.Draining.{drain_means}
use Rattle.rounds.proofs.Firing.{fire_means}
use Rattle.orders.specs.Orders.{entry_of, ActOn, act_on, PlayedOn, order_on}
use Rattle.orders.specs.Meaning.{OrderedAs, OrderMeans, OrderKeeps}

-- ---- one entry of the network's order, by whether it is ready

same-played : {s t : State} {a b d e f g : ℕ} {x y : List ℕ} → s ≡ t → a ≡ b → d ≡ e → f ≡ g → x ≡ y
    → ◌≡◌ {A = Played} (record { state = s; feeds = a; drains = d; firings = f; drained = x }) (record { state = t; feeds = b; drains = e; firings = g; drained = y })
same-played u v w x y = λ i. record { state = u i; feeds = v i; drains = w i; firings = x i; drained = y i }

module _ (N : Net) (t : Played) where
  -- the oldest token of output j
  abbrev oldest : ℕ → ℕ
  oldest j = get_or (t.state.queue (output_queue N j)) 0 0

  -- an entry of kind k, done where b holds
  abbrev turned : ℕ → ℕ → Bool → State → Played
  turned k j b s =
      record {
        state = s;
        feeds = t.feeds + bit (b && eqb k 0);
        drains = t.drains + bit (b && eqb k 1);
        firings = t.firings + bit (b && eqb k 2);
        drained = cond (b && eqb k 1) (t.drained ++ (oldest j ∷ [])) t.drained;
      }

  abbrev Turns : ℕ → ℕ → Action → Type 0
  Turns k j a = (b : Bool) → cond b (counted N t a) t ≡ turned k j b (cond b (done N t.state a) t.state)

  stays : (k j : ℕ) → t ≡ turned k j false t.state
  stays k j = same-played refl (omega arith) (omega arith) (omega arith) refl

  feed_turns : (j x : ℕ) → Turns 0 j (feed j x)
  unfolding counted
  feed_turns j x true = same-played refl (omega arith) (omega arith) (omega arith) refl
  feed_turns j x false = stays 0 j

  drain_turns : (j : ℕ) → Turns 1 j (drain (output_queue N j))
  unfolding counted
  drain_turns j true = same-played refl (omega arith) (omega arith) (omega arith) refl
  drain_turns j false = stays 1 j

  put_turns : (j q : ℕ) → Turns 2 j (put q)
  unfolding counted
  put_turns j q true = same-played refl (omega arith) (omega arith) (omega arith) refl
  put_turns j q false = stays 2 j

  finish_turns : (j p : ℕ) → Turns 2 j (finish p)
  unfolding counted
  finish_turns j p true = same-played refl (omega arith) (omega arith) (omega arith) refl
  finish_turns j p false = stays 2 j

  rule_turns : (r : ℕ) → Turns 2 r (rule N r)
  unfolding rule
  rule_turns r = go (ltb (N.ins + r) N.queues)
    where
      go : (b : Bool) → Turns 2 r (cond b (put (N.ins + r)) (finish (N.ins + r - N.queues)))
      go true = put_turns r (N.ins + r)
      go false = finish_turns r (N.ins + r - N.queues)

  -- an action, where there is such an input, output or rule
  one-tried : (k j : ℕ) (a : Action) (there : Bool) → Turns k j a
      → tried N t (cond there (a ∷ []) []) ≡ turned k j (some_ready N t.state (cond there (a ∷ []) [])) (play N t.state (cond there (a ∷ []) []))
  unfolding tried play step
  one-tried k j a true f = f (ready N t.state a)
  one-tried k j a false f = stays k j

  none_tried : (k j : ℕ) (xs : List Action) → xs ≡ [] → tried N t xs ≡ turned k j (some_ready N t.state xs) (play N t.state xs)
  unfolding tried play
  none_tried k j xs e = rw e (stays k j)

  tried_is : (k j x : ℕ) → tried N t (asked N (entry_of k j x)) ≡ turned k j (some_ready N t.state (asked N (entry_of k j x))) (play N t.state (asked N (entry_of k j x)))
  unfolding asked
  tried_is zero j x = one-tried 0 j (feed j x) (ltb j N.ins) (feed_turns j x)
  tried_is (suc zero) j x = one-tried 1 j (drain (output_queue N j)) (ltb j N.outs) (drain_turns j)
  tried_is (suc (suc zero)) j x = one-tried 2 j (rule N j) (ltb j (rule_count N)) (rule_turns j)
  tried_is (suc (suc (suc k))) j x =
      none_tried (suc (suc (suc k))) j (asked N (entry_of (suc (suc (suc k))) j x))
      (rw (ne_eqb (suc (suc (suc k))) 0 (λ z. omega arith), ne_eqb (suc (suc (suc k))) 1 (λ z. omega arith), ne_eqb (suc (suc (suc k))) 2 (λ z. omega arith)))

-- ---- one entry on the arrays

record ActedAs {P : Plan} {L : Network} (G : Given P L) (e : Entry) : Type 0 where
  answer_is : (act_on P L e).answer ≡ answer_of G e
  value-is : (act_on P L e).value ≡ cond (eqb e.kind 1) (cond (eqb (answer_of G e) 0) (get_or (G.s.queue (output_queue (net_of G) e.index)) 0 0) 0) 0
  left_is : (act_on P L e).network ≡ store_of (state_after G e)

-- only a feed's value counts
same-drain : (N : Net) (s : State) (j x : ℕ) → (answer_to N s (drain_entry j) ≡ answer_to N s (entry_of 1 j x)) × (asked N (drain_entry j) ≡ asked N (entry_of 1 j x))
unfolding answer_to asked
same-drain N s j x = (refl, refl)

same-fire : (N : Net) (s : State) (j x : ℕ) → (answer_to N s (fire_entry j) ≡ answer_to N s (entry_of 2 j x)) × (asked N (fire_entry j) ≡ asked N (entry_of 2 j x))
unfolding answer_to asked
same-fire N s j x = (refl, refl)

-- another kind
refused_12 : 12 ≡ (verdict ((12, whole false) ∷ [])).answer
unfolding verdict
refused_12 = refl

module _ (k : ℕ) (a : eqb k 0 ≡ false) (b : eqb k 1 ≡ false) (d : eqb k 2 ≡ false) where
  no_checks : (N : Net) (s : State) (j x : ℕ) → (12, whole false) ∷ [] ≡ checks_of N s (entry_of k j x)
  no_checks N s j x = rw (a, b, d)

  no_answer : (N : Net) (s : State) (j x : ℕ) → 12 ≡ answer_to N s (entry_of k j x)
  unfolding answer_to
  no_answer N s j x = refused_12 ∙ ap (λ xs. (verdict xs).answer) (no_checks N s j x)

  no_action : (N : Net) (s : State) (j x : ℕ) → s ≡ play N s (asked N (entry_of k j x))
  unfolding asked play
  no_action N s j x = rw (a, b, d)

  other_is : {P : Plan} {L : Network} (G : Given P L) (j x : ℕ) → ActedAs G (entry_of k j x)
  unfolding act_on
  other_is G j x =
      record {
        answer_is = rw (a, b, d) (no_answer (net_of G) G.s j x);
        value-is = rw (a, b, d);
        left_is = rw (a, b, d) (G.holds ∙ ap store_of (no_action (net_of G) G.s j x));
      }

-- ---- a value behind those before it

store-next : (xs lent : List ℕ) (m x : ℕ) → length xs ≡ m → m < length lent
    → set (xs ++ drop (length xs) lent) m x ≡ (xs ++ (x ∷ [])) ++ drop (length (xs ++ (x ∷ []))) lent
store-next xs lent m x e l =
    let f : length (xs ++ (x ∷ [])) ≡ suc (length xs) = length-append xs (x ∷ []) ∙ omega arith in
    ap (λ ys. set (xs ++ ys) m x) (drop-cons lent (length xs) 0 (omega arith))
    ∙ set_at xs (get_or lent (length xs) 0) (drop (suc (length xs)) lent) x m e
    ∙ sym (append_snoc xs x (drop (suc (length xs)) lent))
    ∙ ap (λ n. (xs ++ (x ∷ [])) ++ drop n lent) (sym f)

-- by whether the entry is a drain that is done
lent-next : (b : Bool) (xs lent lent' : List ℕ) (m d v x : ℕ) → lent' ≡ xs ++ drop (length xs) lent → length xs ≡ m → d ≡ m → (b ≡ true → (v ≡ x) × (m < length lent))
    → cond b (set lent' d v) lent' ≡ cond b (xs ++ (x ∷ [])) xs ++ drop (length (cond b (xs ++ (x ∷ [])) xs)) lent
lent-next true xs lent lent' m d v x e l h f = rw (e, h, (f refl).0) (store-next xs lent m x l (f refl).1)
lent-next false xs lent lent' m d v x e l h f = e

act_is : {P : Plan} {L : Network} (G : Given P L) (k j x : ℕ) → ActedAs G (entry_of k j x)
unfolding act_on
act_is {P} {L} G zero j x = record { answer_is = (feed_means P L G j x).0; value-is = refl; left_is = (feed_means P L G j x).1 }
act_is {P} {L} G (suc zero) j x =
    let m = drain_means P L G j in
    let w = same-drain (net_of G) G.s j x in
    record {
      answer_is = m.answer_is ∙ w.0;
      value-is = m.value-is ∙ ap (λ a. cond (eqb a 0) (get_or (G.s.queue (output_queue (net_of G) j)) 0 0) 0) w.0;
      left_is = m.left_is ∙ ap (λ xs. store_of (play (net_of G) G.s xs)) w.1;
    }
act_is {P} {L} G (suc (suc zero)) j x =
    let m = fire_means P L G j in
    let w = same-fire (net_of G) G.s j x in
    record { answer_is = m.0 ∙ w.0; value-is = refl; left_is = m.1 ∙ ap (λ xs. store_of (play (net_of G) G.s xs)) w.1 }
act_is G (suc (suc (suc k))) j x =
    other_is (suc (suc (suc k))) (ne_eqb (suc (suc (suc k))) 0 (λ z. omega arith)) (ne_eqb (suc (suc (suc k))) 1 (λ z. omega arith))
    (ne_eqb (suc (suc (suc k))) 2 (λ z. omega arith)) G j x

-- what later calls ask for, its fields written out
abbrev pub ordered : {P : Plan} {L : Network} (G : Given P L) (e : ℕ → Entry) (lent : List ℕ) (n : ℕ) → OrderedAs G e lent n → Given P (order_on P L e lent n).network
ordered G e lent n h =
    record {
      n = G.n;
      c = G.c;
      limit = G.limit;
      s = (order (net_of G) G.s e n).state;
      net_good = G.net_good;
      cut_good = G.cut_good;
      small = G.small;
      reached = (reaching (net_of G)).orders G.s G.reached e n;
      plan = G.plan;
      holds = h.left_is;
    }

order-next : {P : Plan} {L : Network} (G : Given P L) (e : ℕ → Entry) (lent : List ℕ) (n : ℕ) → OrderedAs G e lent n → OrderedAs G e lent (suc n)
unfolding order_on order drains_asked
order-next {P} {L} G e lent n h =
    let N : Net = net_of G in
    let T : PlayedOn = order_on P L e lent n in
    let t : Played = order N G.s e n in
    let k : ℕ = (e n).kind in
    let a : ActOn = act_on P T.network (e n) in
    let r : Bool = some_ready N t.state (asked N (e n)) in
    let A = act_is (ordered G e lent n h) k (e n).index (e n).value in
    let R : eqb (answer_to N t.state (e n)) 0 ≡ r = answers_right N (good G.n G.c G.net_good G.cut_good G.limit) t.state (e n) in
    let d : eqb a.answer 0 ≡ r = ap (λ x. eqb x 0) A.answer_is ∙ R in
    let X = tried_is N t k (e n).index (e n).value in
    record {
      left_is = A.left_is ∙ ap (λ p. store_of p.state) (sym X);
      feeds_are = ap₂ (λ f b. f + bit (b && eqb k 0)) h.feeds_are d ∙ ap (λ p. p.feeds) (sym X);
      drains_are = ap₂ (λ f b. f + bit (b && eqb k 1)) h.drains_are d ∙ ap (λ p. p.drains) (sym X);
      firings_are = ap₂ (λ f b. f + bit (b && eqb k 2)) h.firings_are d ∙ ap (λ p. p.firings) (sym X);
      lent_is =
          λ l. ap (λ b. cond (b && eqb k 1) (set T.lent T.drains a.value) T.lent) d
          ∙ lent-next (r && eqb k 1) t.drained lent T.lent t.drains T.drains a.value (oldest N t (e n).index) (h.lent_is (omega arith)) (order-drained N G.s e n) h.drains_are
          (λ y. let z : eqb k 1 ≡ true = and_right r (eqb k 1) y in
          let w : bit (eqb k 1) ≡ 1 = ap bit z in
          (A.value-is ∙ ap₂ (λ u v. cond u (cond v (oldest N t (e n).index) 0) 0) z (R ∙ and_left r (eqb k 1) y), omega (arith, l, w, order-drains N G.s e n)))
          ∙ ap (λ p. p.drained ++ drop (length p.drained) lent) (sym X);
    }

pub order_means : OrderMeans
unfolding order_on order
order_means P L G e lent zero = record { left_is = G.holds; feeds_are = refl; drains_are = refl; firings_are = refl; lent_is = λ l. refl }
order_means P L G e lent (suc n) = order-next G e lent n (order_means P L G e lent n)

pub order_keeps : OrderKeeps
order_keeps P L G e lent n = record { given = ordered G e lent n (order_means P L G e lent n); net_is = refl; cut_is = refl; limit_is = refl; state_is = refl }
