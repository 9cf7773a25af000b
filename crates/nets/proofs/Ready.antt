-- What readiness of each action says, as a record of facts and back. The tests of an action are a list, and its kth entry is the kth fact.
use mathlib.Core.Path.{◌≡◌, refl, ap}
use mathlib.Core.Bool.{Bool, true, false, not, ◌&&◌}
use mathlib.Core.List.{List, [], ◌∷◌}
use Prim.Native.Nat.{ℕ, zero, suc, ◌≤◌, ◌<◌}
use lib.ListN.{length, get_or}
use lib.Dec.{eqb, ltb}
use borrow.Author.Tests.{eqb-true, eq-eqb, ltb-true, ltb-false, lt-ltb, le-ltb}
use Rattle.base.specs.Checks.{every}
use Rattle.base.proofs.Tests.{and_left, and_right, every_true, every_at}
use Rattle.nets.specs.Lists.{all_hold, implies}
use Rattle.nets.specs.Net.{Net}
use Rattle.nets.specs.State.{State, some_token, needs_met}
use Rattle.nets.specs.Actions.{feed, drain, put, finish, tests, ready, room, done_at}
use Rattle.nets.proofs.Facts.{and_in, and_end, not_in, not_out, implies_out, implies_in}

pub record Feeds (N : Net) (s : State) (q x : ℕ) : Type 0 where
  pub inside : N.into q < N.parts
  pub outside : N.parts ≤ N.from q
  pub space : length (s.queue q) < N.depth q
  pub allowed : N.allow (N.node q) x ≡ true

pub record Drains (N : Net) (s : State) (q : ℕ) : Type 0 where
  pub inside : N.from q < N.parts
  pub outside : N.parts ≤ N.into q
  pub full : some_token (s.queue q) ≡ true

pub record Puts (N : Net) (s : State) (q : ℕ) : Type 0 where
  pub inside : N.from q < N.parts
  pub limited : s.count (N.from q) < N.limit
  pub off : s.flag q ≡ false
  pub space : length (s.queue q) < N.depth q
  pub needs : needs_met N s (N.from q) (N.node q) ≡ true

pub record Finishes (N : Net) (s : State) (p : ℕ) : Type 0 where
  pub inside : p < N.parts
  pub limited : s.count p < N.limit
  pub on : (q : ℕ) → q < N.queues → N.from q ≡ p → s.flag q ≡ true
  pub full : (q : ℕ) → q < N.queues → N.into q ≡ p → some_token (s.queue q) ≡ true

hold_at : (bs : List Bool) → all_hold bs ≡ true → (k : ℕ) → get_or bs k true ≡ true
hold_at [] e k = refl
hold_at (b ∷ bs) e zero = and_left b (all_hold bs) e
hold_at (b ∷ bs) e (suc k) = hold_at bs (and_right b (all_hold bs) e) k

module _ (N : Net) (s : State) where
  pub feeds : (q x : ℕ) → ready N s (feed q x) ≡ true → Feeds N s q x
  unfolding ready tests room
  feeds q x e =
      let t = hold_at (tests N s (feed q x)) e in
      record {
        inside = ltb-true (N.into q) N.parts (t 0);
        outside = ltb-false (N.from q) N.parts (not_out (ltb (N.from q) N.parts) (t 1));
        space = ltb-true (length (s.queue q)) (N.depth q) (t 2);
        allowed = t 3;
      }

  pub feed-ready : (q x : ℕ) → Feeds N s q x → ready N s (feed q x) ≡ true
  unfolding ready tests room
  feed-ready q x F =
      and_in (lt-ltb (N.into q) N.parts F.inside)
      (and_in (not_in (le-ltb (N.from q) N.parts F.outside))
      (and_in (lt-ltb (length (s.queue q)) (N.depth q) F.space) (and_in F.allowed refl)))

  pub drains : (q : ℕ) → ready N s (drain q) ≡ true → Drains N s q
  unfolding ready tests
  drains q e =
      let t = hold_at (tests N s (drain q)) e in
      record {
        inside = ltb-true (N.from q) N.parts (t 0);
        outside = ltb-false (N.into q) N.parts (not_out (ltb (N.into q) N.parts) (t 1));
        full = t 2;
      }

  pub drain-ready : (q : ℕ) → Drains N s q → ready N s (drain q) ≡ true
  unfolding ready tests
  drain-ready q D =
      and_in (lt-ltb (N.from q) N.parts D.inside) (and_in (not_in (le-ltb (N.into q) N.parts D.outside)) (and_in D.full refl))

  pub puts : (q : ℕ) → ready N s (put q) ≡ true → Puts N s q
  unfolding ready tests room
  puts q e =
      let t = hold_at (tests N s (put q)) e in
      record {
        inside = ltb-true (N.from q) N.parts (t 0);
        limited = ltb-true (s.count (N.from q)) N.limit (t 1);
        off = not_out (s.flag q) (t 2);
        space = ltb-true (length (s.queue q)) (N.depth q) (t 3);
        needs = t 4;
      }

  pub put-ready : (q : ℕ) → Puts N s q → ready N s (put q) ≡ true
  unfolding ready tests room
  put-ready q P =
      and_in (lt-ltb (N.from q) N.parts P.inside)
      (and_in (lt-ltb (s.count (N.from q)) N.limit P.limited)
      (and_in (not_in P.off) (and_in (lt-ltb (length (s.queue q)) (N.depth q) P.space) (and_in P.needs refl))))

  -- of one queue, in the test of Finish
  done_on : (p q : ℕ) → done_at N s p q ≡ true → (N.from q ≡ p → s.flag q ≡ true) × (N.into q ≡ p → some_token (s.queue q) ≡ true)
  done_on p q e =
      let a = implies (eqb (N.from q) p) (s.flag q) in
      let b = implies (eqb (N.into q) p) (some_token (s.queue q)) in (
        λ h. implies_out (eqb (N.from q) p) (s.flag q) (and_left a b e) (eq-eqb (N.from q) p h),
        λ h. implies_out (eqb (N.into q) p) (some_token (s.queue q)) (and_right a b e) (eq-eqb (N.into q) p h),
      )

  pub finishes : (p : ℕ) → ready N s (finish p) ≡ true → Finishes N s p
  unfolding ready tests
  finishes p e =
      let t = hold_at (tests N s (finish p)) e in
      let d : (q : ℕ) → q < N.queues → (N.from q ≡ p → s.flag q ≡ true) × (N.into q ≡ p → some_token (s.queue q) ≡ true) =
      λ q l. done_on p q (every_at (done_at N s p) N.queues (t 2) q l) in
      record {
        inside = ltb-true p N.parts (t 0);
        limited = ltb-true (s.count p) N.limit (t 1);
        on = λ q l. (d q l).0;
        full = λ q l. (d q l).1;
      }

  pub finish-ready : (p : ℕ) → Finishes N s p → ready N s (finish p) ≡ true
  unfolding ready tests
  finish-ready p F =
      and_in (lt-ltb p N.parts F.inside)
      (and_in (lt-ltb (s.count p) N.limit F.limited)
      (and_in (every_true (done_at N s p) N.queues
      (λ q l. and_in (implies_in (eqb (N.from q) p) (s.flag q) (λ h. F.on q l (eqb-true (N.from q) p h)))
      (implies_in (eqb (N.into q) p) (some_token (s.queue q)) (λ h. F.full q l (eqb-true (N.into q) p h))))) refl))

  -- ---- and as one test, where the part is there

  pub put_ready_is : (q : ℕ) → N.from q < N.parts
      → ready N s (put q) ≡ (ltb (s.count (N.from q)) N.limit && (not (s.flag q) && (room N s q && needs_met N s (N.from q) (N.node q))))
  unfolding ready tests
  put_ready_is q l =
      rw (lt-ltb (N.from q) N.parts l)
      (ap (λ b. ltb (s.count (N.from q)) N.limit && (not (s.flag q) && (room N s q && b))) (and_end (needs_met N s (N.from q) (N.node q))))

  pub finish_ready_is : (p : ℕ) → p < N.parts → ready N s (finish p) ≡ (ltb (s.count p) N.limit && every (done_at N s p) N.queues)
  unfolding ready tests
  finish_ready_is p l = rw (lt-ltb p N.parts l) (ap (λ b. ltb (s.count p) N.limit && b) (and_end (every (done_at N s p) N.queues)))
