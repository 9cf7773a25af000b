-- The firing sum: each firing adds one to it, a put by its flag and a Finish by a cycle that counts for its own put rules and itself.
use mathlib.Core.Path.{◌≡◌, refl, sym, ap, ap₂, ◌∙◌}
use mathlib.Core.Logic.{◌≢◌}
use mathlib.Core.Bool.{Bool, true, false, cond}
use mathlib.Core.List.{List, [], ◌∷◌}
use Prim.Native.Nat.{ℕ, zero, suc, ◌+◌, ◌-◌, ◌*◌, ◌<◌}
use native.Mathlib.Omega.{arith}
use native.Mathlib.Nat.{not-suc-le-zero, le_refl}
use lib.Dec.{eqb, ltb}
use borrow.Author.Tests.{eqb-true, eqb-false, eq-eqb, ne_eqb}
use Rattle.nets.specs.Lists.{bit, tab}
use Rattle.nets.specs.Net.{Net, Good}
use Rattle.nets.specs.State.{State, fresh}
use Rattle.nets.specs.Actions.{Action, feed, drain, put, finish, ready, done, step, play}
use Rattle.nets.specs.Rounds.{rule_count, rule, in_order, fired_by, round_fires, after_round}
use Rattle.nets.proofs.Facts.{split-on}
use Rattle.nets.proofs.Ready.{Puts, Finishes, puts, finishes}
use Rattle.nets.specs.Rounds.{Ran, one_more, run}
use Rattle.nets.specs.Orders.{Entry, asked, Played, counted, tried, order}
use Rattle.nets.proofs.Rounds.{play-next, fired-next}
use Rattle.demand.specs.History.{Past, nothing, noted, note, story, state_after, past_after}
use Rattle.demand.specs.Totals.{sum_of, put_rules, total}
use Rattle.demand.specs.Demands.{Counts}

pub sum_same : (n : ℕ) (f g : ℕ → ℕ) → ((j : ℕ) → j < n → f j ≡ g j) → sum_of n f ≡ sum_of n g
unfolding sum_of
sum_same zero f g h = refl
sum_same (suc n) f g h = ap₂ ◌+◌ (sum_same n f g (λ j l. h j (omega arith))) (h n (le_refl (suc n)))

pub sum-add : (n : ℕ) (f g : ℕ → ℕ) → sum_of n (λ j. f j + g j) ≡ sum_of n f + sum_of n g
unfolding sum_of
sum-add zero f g = refl
sum-add (suc n) f g = let e = sum-add n f g in omega arith

pub sum-zero : (n : ℕ) → sum_of n (λ _. 0) ≡ 0
unfolding sum_of
sum-zero zero = refl
sum-zero (suc n) = let e = sum-zero n in omega arith

-- one place changes by d
pub sum_bump : (n k d : ℕ) (f g : ℕ → ℕ) → k < n → g k ≡ f k + d → ((j : ℕ) → j ≢ k → g j ≡ f j) → sum_of n g ≡ sum_of n f + d
unfolding sum_of
sum_bump zero k d f g l e h = absurd (not-suc-le-zero l)
sum_bump (suc n) k d f g l e h =
    let ih : k < n → sum_of n g ≡ sum_of n f + d = λ u. sum_bump n k d f g u e h in
    split-on (λ _. sum_of n g + g n ≡ sum_of n f + f n + d) (eqb n k)
    (λ t. let q : n ≡ k = eqb-true n k t in
    let a : sum_of n g ≡ sum_of n f = sum_same n g f (λ j u. h j (λ w. let z : j < k = rw (← q) u in let y : j ≡ k = w in omega arith)) in
    let b : g n ≡ f n + d = rw q e in
    omega arith)
    (λ t. let q : n ≢ k = eqb-false n k t in
    let a : sum_of n g ≡ sum_of n f + d = ih (omega arith) in
    let b : g n ≡ f n = h n q in
    omega arith)

-- 1 for a rule, 0 for a feed and a drain
abbrev rule_bit : Action → ℕ
rule_bit (feed q x) = 0
rule_bit (drain q) = 0
rule_bit (put q) = 1
rule_bit (finish p) = 1

module _ (N : Net) (G : Good N) (s : State) where
  sum-put : (q : ℕ) → Puts N s q → total N (done N s (put q)) ≡ total N s + 1
  unfolding total done
  sum-put q P =
      let b : sum_of N.queues (λ j. bit (cond (eqb j q) true (s.flag j))) ≡ sum_of N.queues (λ j. bit (s.flag j)) + 1 =
      sum_bump N.queues q 1 (λ j. bit (s.flag j)) (λ j. bit (cond (eqb j q) true (s.flag j))) (G.put_queue q P.inside)
      (rw (eq-eqb q q refl, P.off))
      (λ j ne. rw (ne_eqb j q ne)) in
      omega arith

  sum-finish : (p : ℕ) → Finishes N s p → total N (done N s (finish p)) ≡ total N s + 1
  unfolding total done put_rules
  sum-finish p F =
      let flags : sum_of N.queues (λ q. bit (s.flag q)) ≡ sum_of N.queues (λ q. bit (cond (eqb (N.from q) p) false (s.flag q))) + put_rules N p =
      sum_same N.queues (λ q. bit (s.flag q)) (λ q. bit (cond (eqb (N.from q) p) false (s.flag q)) + bit (eqb (N.from q) p))
      (λ q l. split-on (λ b. eqb (N.from q) p ≡ b → bit (s.flag q) ≡ bit (cond b false (s.flag q)) + bit b) (eqb (N.from q) p)
      (λ _ e. ap bit (F.on q l (eqb-true (N.from q) p e))) (λ _ e. omega arith) refl)
      ∙ sum-add N.queues (λ q. bit (cond (eqb (N.from q) p) false (s.flag q))) (λ q. bit (eqb (N.from q) p)) in
      let counts : sum_of N.parts (λ k. cond (eqb k p) (suc (s.count p)) (s.count k) * (put_rules N k + 1))
      ≡ sum_of N.parts (λ k. s.count k * (put_rules N k + 1)) + (put_rules N p + 1) =
      sum_bump N.parts p (put_rules N p + 1) (λ k. s.count k * (put_rules N k + 1)) (λ k. cond (eqb k p) (suc (s.count p)) (s.count k) * (put_rules N k + 1))
      F.inside (rw (eq-eqb p p refl) (omega arith)) (λ j ne. rw (ne_eqb j p ne)) in
      omega arith

  sum_done : (a : Action) → ready N s a ≡ true → total N (done N s a) ≡ total N s + rule_bit a
  unfolding total done
  sum_done (feed q x) e = omega arith
  sum_done (drain q) e = omega arith
  sum_done (put q) e = sum-put q (puts N s q e)
  sum_done (finish p) e = sum-finish p (finishes N s p e)

  sum_step : (a : Action) → total N (step N s a) ≡ total N s + cond (ready N s a) (rule_bit a) 0
  unfolding step
  sum_step a = split-on (λ b. total N (cond b (done N s a) s) ≡ total N s + cond b (rule_bit a) 0) (ready N s a) (sum_done a) (λ _. omega arith)

-- ---- the history counts the same

module _ (N : Net) (s : State) (h : Past) where
  noted-fired : (a : Action) → (noted N s a h).fired ≡ h.fired + rule_bit a
  unfolding noted
  noted-fired (feed q x) = omega arith
  noted-fired (drain q) = omega arith
  noted-fired (put q) = omega arith
  noted-fired (finish p) = omega arith

  note-fired : (a : Action) → (note N s a h).fired ≡ h.fired + cond (ready N s a) (rule_bit a) 0
  unfolding note
  note-fired a = split-on (λ b. (cond b (noted N s a h) h).fired ≡ h.fired + cond b (rule_bit a) 0) (ready N s a) (λ _. noted-fired a) (λ _. omega arith)

sum-fresh : (N : Net) → nothing.fired ≡ total N (fresh N)
unfolding total fresh nothing
sum-fresh N = sym (ap₂ ◌+◌ (sum_same N.parts (λ p. 0 * (put_rules N p + 1)) (λ _. 0) (λ j l. omega arith) ∙ sum-zero N.parts) (sum-zero N.queues))

sum-play : (N : Net) → Good N → (s : State) (h : Past) → h.fired ≡ total N s → (xs : List Action) → (story N s xs h).fired ≡ total N (play N s xs)
unfolding play story
sum-play N G s h T [] = T
sum-play N G s h T (a ∷ xs) = sum-play N G (step N s a) (note N s a h) (let e = sum_step N G s a in let f = note-fired N s h a in omega arith) xs

pub firings : (N : Net) → Good N → (xs : List Action) → (past_after N xs).fired ≡ total N (state_after N xs)
firings N G xs = sum-play N G (fresh N) nothing (sum-fresh N) xs

-- ---- and so do rounds, runs and orders

module _ (N : Net) (G : Good N) where
  rule-bit : (r : ℕ) → rule_bit (rule N r) ≡ 1
  unfolding rule
  rule-bit r = split-on (λ b. rule_bit (cond b (put (N.ins + r)) (finish (N.ins + r - N.queues))) ≡ 1) (ltb (N.ins + r) N.queues) (λ _. refl) (λ _. refl)

  bit_of_lem : (b : Bool) (k : ℕ) → k ≡ 1 → cond b k 0 ≡ bit b
  bit_of_lem true k e = e
  bit_of_lem false k e = refl

  nothing_of : (b : Bool) → ◌≡◌ {A = ℕ} (cond b 0 0) 0
  nothing_of true = refl
  nothing_of false = refl

  sum-feed : (s : State) (q x : ℕ) → total N s ≡ total N (step N s (feed q x))
  sum-feed s q x = let e = sum_step N G s (feed q x) in let z = nothing_of (ready N s (feed q x)) in omega arith

  sum-drain : (s : State) (q : ℕ) → total N s ≡ total N (step N s (drain q))
  sum-drain s q = let e = sum_step N G s (drain q) in let z = nothing_of (ready N s (drain q)) in omega arith

  sum-fire : (s : State) (r : ℕ) → total N s + bit (ready N s (rule N r)) ≡ total N (step N s (rule N r))
  sum-fire s r = let e = sum_step N G s (rule N r) in let z = bit_of_lem (ready N s (rule N r)) (rule_bit (rule N r)) (rule-bit r) in omega arith

  sum-tab : (s : State) (r : ℕ) → total N s + fired_by N s (tab r (rule N)) ≡ total N (play N s (tab r (rule N)))
  unfolding tab fired_by play
  sum-tab s zero = omega arith
  sum-tab s (suc r) =
      let e = sum-tab s r in
      let f = fired-next N s r (rule N) in
      let t : State = play N s (tab r (rule N)) in
      let g : total N (play N s (tab (suc r) (rule N))) ≡ total N t + bit (ready N t (rule N r)) =
      ap (total N) (play-next N s r (rule N)) ∙ sum_step N G t (rule N r) ∙ ap (λ k. total N t + k) (bit_of_lem (ready N t (rule N r)) (rule_bit (rule N r)) (rule-bit r)) in
      omega arith

  sum-round : (s : State) → total N s + round_fires N s ≡ total N (after_round N s)
  unfolding in_order
  sum-round s = sum-tab s (rule_count N)

  sum-run : (s : State) (k : ℕ) → total N s + (run N s k).firings ≡ total N (run N s k).state
  unfolding run
  sum-run s zero = omega arith
  sum-run s (suc k) =
      split-on (λ b. total N s + (cond b stop go).firings ≡ total N (cond b stop go).state) (eqb (round_fires N s) 0)
      (λ e. let z : round_fires N s ≡ 0 = eqb-true (round_fires N s) 0 e in let r = sum-round s in omega arith)
      (λ _. let r = sum-round s in let m = sum-run (after_round N s) k in omega arith)
    where
      stop : Ran
      stop = record { state = after_round N s; rounds = 1; firings = 0 }

      go : Ran
      go = one_more (round_fires N s) (run N (after_round N s) k)

  counted-sum : (t : Played) (a : Action) → ready N t.state a ≡ true → total N (counted N t a).state + t.firings ≡ total N t.state + (counted N t a).firings
  unfolding counted
  counted-sum t (feed q x) e = let d = sum_done N G t.state (feed q x) e in omega arith
  counted-sum t (drain q) e = let d = sum_done N G t.state (drain q) e in omega arith
  counted-sum t (put q) e = let d = sum_done N G t.state (put q) e in omega arith
  counted-sum t (finish p) e = let d = sum_done N G t.state (finish p) e in omega arith

  tried-sum : (c : ℕ) (t : Played) (xs : List Action) → c + t.firings ≡ total N t.state → c + (tried N t xs).firings ≡ total N (tried N t xs).state
  unfolding tried
  tried-sum c t [] h = h
  tried-sum c t (a ∷ xs) h =
      tried-sum c (cond (ready N t.state a) (counted N t a) t) xs
      (split-on (λ b. c + (cond b (counted N t a) t).firings ≡ total N (cond b (counted N t a) t).state) (ready N t.state a)
      (λ e. let k = counted-sum t a e in omega arith) (λ _. h))

  sum-order : (s : State) (e : ℕ → Entry) (k : ℕ) → total N s + (order N s e k).firings ≡ total N (order N s e k).state
  unfolding order
  sum-order s e zero = omega arith
  sum-order s e (suc k) = tried-sum (total N s) (order N s e k) (asked N (e k)) (sum-order s e k)

  pub counts : (s : State) → Counts N s
  counts s = record { feeds = sum-feed s; drains = sum-drain s; fire = sum-fire s; round = sum-round s; runs = sum-run s; orders = sum-order s }
