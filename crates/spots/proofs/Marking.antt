-- The parts that are marked for Finish are those of the asked ones whose Finish is ready: below the limit, and held back by no queue. Queue by queue, so a
-- part's mark is its first one and every queue's word.
use mathlib.Core.Path.{◌≡◌, refl, sym, ◌∙◌, ap, ap₂}
use mathlib.Core.Bool.{Bool, true, false, not, ◌&&◌, and-false}
use mathlib.Core.List.{List, [], ◌∷◌}
use mathlib.Core.Logic.{by_cases, ◌≢◌}
use Prim.Native.Nat.{ℕ, zero, suc, ◌+◌, ◌-◌, ◌%◌, ◌<◌, ◌≤◌, min}
use native.Mathlib.Decide.{dec_lt, ℕ_discrete}
use native.Mathlib.Omega.{arith}
use borrow.Author.Tests.{eq-eqb, ne_eqb, lt-ltb, le-ltb, ltb-true}
use lib.Dec.{eqb, ltb}
use lib.ListN.{length, get_or, length-set, replicate, length-replicate}
use lib.Seq.{get_or-set_same, get_or-set_other}
use Rattle.base.specs.Checks.{AllGood, every}
use Rattle.base.proofs.Tests.{and_right}
use Rattle.netlist.specs.declared.Netlist.{Netlist}
use Rattle.netlist.specs.Checks.{net_checks}
use Rattle.queues.specs.Found.{found}
use Rattle.queues.proofs.Arrays.{from_at, into_at}
use Rattle.cut.specs.declared.Cut.{Cut}
use Rattle.cut.specs.Checks.{cut_checks}
use Rattle.nets.specs.Lists.{implies}
use Rattle.nets.specs.Net.{Net}
use Rattle.nets.specs.State.{State, some_token}
use Rattle.nets.specs.Actions.{finish, done_at, ready}
use Rattle.nets.specs.Stored.{used_of, flags_of, counts_of}
use Rattle.nets.specs.Networks.{network_of}
use Rattle.nets.proofs.Goods.{few, few-queues, ends-few}
use Rattle.nets.proofs.Ready.{finish_ready_is}
use Rattle.nets.proofs.Stores.{used_at, flag_at, count_at}
use Rattle.finishes.specs.Finishes.{part_in, below, held_by, cleared, finishing}
use Rattle.plans.specs.declared.Plan.{Plan}
use Rattle.plans.specs.Plans.{plan_of}

-- ---- the lists

pub and_on : (b : Bool) → (b && true) ≡ b
and_on true = refl
and_on false = refl

module _ (count : List ℕ) (limit lo : ℕ) (l : List Bool) where
  below-long : (d : ℕ) → length (below count limit lo d l) ≡ length l
  unfolding below
  below-long zero = refl
  below-long (suc d) = length-set (below count limit lo d l) (lo + d) (ltb (get_or count (lo + d) 0) limit) ∙ below-long d

  below_out : (d p : ℕ) → ((k : ℕ) → k < d → p ≢ lo + k) → get_or (below count limit lo d l) p false ≡ get_or l p false
  unfolding below
  below_out zero p h = refl
  below_out (suc d) p h =
      get_or-set_other (below count limit lo d l) (lo + d) p (ltb (get_or count (lo + d) 0) limit) false (h d (omega arith)) ∙ below_out d p (λ k u. h k (omega arith))

  below_in : (d p : ℕ) → lo + d ≤ length l → lo ≤ p → p < lo + d → get_or (below count limit lo d l) p false ≡ ltb (get_or count p 0) limit
  unfolding below
  below_in zero p h a b = let z : ⊥ = omega arith in absurd z
  below_in (suc d) p h a b =
      by_cases (ℕ_discrete p (lo + d))
      (λ e. rw e (get_or-set_same (below count limit lo d l) (lo + d) (ltb (get_or count (lo + d) 0) limit) false (rw (below-long d) (omega arith))))
      (λ ne. get_or-set_other (below count limit lo d l) (lo + d) p (ltb (get_or count (lo + d) 0) limit) false ne ∙ below_in d p (omega arith) a (let y : p ≢ lo + d = ne in omega arith))

held_word : (l : List Bool) (r p : ℕ) (b : Bool) → r < length l → get_or (held_by l r b) p false ≡ (get_or l p false && implies (eqb r p) b)
held_word l r p b h =
    by_cases (ℕ_discrete p r)
    (λ e. rw (e, eq-eqb r r refl) (get_or-set_same l r (get_or l r false && b) false h))
    (λ ne. rw (ne_eqb r p (λ z. ne (sym z))) (get_or-set_other l r p (get_or l r false && b) false ne ∙ sym (and_on (get_or l p false))))

turned : (x e a b : Bool) → (((x && e) && a) && b) ≡ (x && ((a && b) && e))
turned false e a b = refl
turned true true true b = sym (and_on b)
turned true true false b = refl
turned true false a b = sym (and-false (a && b))

module _ (from into : List ℕ) (flag : List Bool) (used : List ℕ) (l : List Bool) (long : length l ≡ 64) where
  cleared-long : (k : ℕ) → length (cleared from into flag used k l) ≡ 64
  unfolding cleared
  cleared-long zero = long
  cleared-long (suc k) =
      let m : List Bool = cleared from into flag used k l in
      let x : List Bool = held_by m (part_in from k) (get_or flag k false) in
      length-set x (part_in into k) (get_or x (part_in into k) false && ltb 0 (get_or used k 0)) ∙ length-set m (part_in from k) (get_or m (part_in from k) false && get_or flag k false) ∙ cleared-long k

  -- what queue q says of part p
  abbrev word : ℕ → ℕ → Bool
  word p q = implies (eqb (part_in from q) p) (get_or flag q false) && implies (eqb (part_in into q) p) (ltb 0 (get_or used q 0))

  cleared_at : (k p : ℕ) → get_or (cleared from into flag used k l) p false ≡ (get_or l p false && every (word p) k)
  unfolding cleared
  cleared_at zero p = sym (and_on (get_or l p false))
  cleared_at (suc k) p =
      let m : List Bool = cleared from into flag used k l in
      let x : List Bool = held_by m (part_in from k) (get_or flag k false) in
      let a : part_in from k < length m = rw (cleared-long k) (omega arith) in
      let b : part_in into k < length x = rw (length-set m (part_in from k) (get_or m (part_in from k) false && get_or flag k false), cleared-long k) (omega arith) in
      held_word x (part_in into k) p (ltb 0 (get_or used k 0)) b
      ∙ ap (λ v. v && implies (eqb (part_in into k) p) (ltb 0 (get_or used k 0))) (held_word m (part_in from k) p (get_or flag k false) a)
      ∙ ap (λ v. (v && implies (eqb (part_in from k) p) (get_or flag k false)) && implies (eqb (part_in into k) p) (ltb 0 (get_or used k 0))) (cleared_at k p)
      ∙ turned (get_or l p false) (every (word p) k) (implies (eqb (part_in from k) p) (get_or flag k false)) (implies (eqb (part_in into k) p) (ltb 0 (get_or used k 0)))

every-below : (f g : ℕ → Bool) (n : ℕ) → ((k : ℕ) → k < n → f k ≡ g k) → every f n ≡ every g n
every-below f g zero h = refl
every-below f g (suc n) h = ap₂ ◌&&◌ (h n (omega arith)) (every-below f g n (λ k u. h k (omega arith)))

pub some_is : (xs : List ℕ) → ltb 0 (length xs) ≡ some_token xs
some_is [] = refl
some_is (x ∷ xs) = lt-ltb 0 (suc (length xs)) (omega arith)

-- ---- in the network

module _ (n : Netlist) (c : Cut) (g : AllGood (net_checks n)) (h : AllGood (cut_checks n c)) (limit : ℕ) (s : State) where
  abbrev net : Net
  net = network_of n c limit

  abbrev P : Plan
  P = plan_of n c (found n c.part) limit

  word_is : (p q : ℕ) → q < net.queues
      → (implies (eqb (part_in P.from q) p) (get_or (flags_of s) q false) && implies (eqb (part_in P.into q) p) (ltb 0 (get_or (used_of s) q 0))) ≡ done_at net s p q
  unfolding plan_of
  word_is p q l =
      let m = few-queues n c g h in
      let e : get_or (found n c.part).from q 0 ≡ net.from q = from_at n c.part q l m in
      let d : get_or (found n c.part).into q 0 ≡ net.into q = into_at n c.part q l m in
      let w = ends-few n c g h q in
      let a = w.0 in
      let b = w.1 in
      let y : net.from q % 64 ≡ net.from q = omega arith in
      let z : net.into q % 64 ≡ net.into q = omega arith in
      rw (e, d, y, z, flag_at s q (omega arith), used_at s q (omega arith), some_is (s.queue q))

  -- asked: the parts from lo up to hi
  abbrev pub asked : ℕ → ℕ → ℕ → Bool
  asked lo hi p = not (ltb p lo) && ltb p hi

  module _ (lo hi : ℕ) (top : hi ≤ net.parts) where
    abbrev first : List Bool
    first = below (counts_of s) limit lo (min hi 32 - lo) (replicate 64 false)

    none_at : (p : ℕ) → get_or (replicate 64 false) p false ≡ false
    none_at p = nothing_at 64 p
      where
        nothing_at : (m p : ℕ) → get_or (replicate m false) p false ≡ false
        nothing_at zero p = refl
        nothing_at (suc m) zero = refl
        nothing_at (suc m) (suc p) = nothing_at m p

    first_is : (p : ℕ) → p < 64 → get_or first p false ≡ (asked lo hi p && ltb (s.count p) limit)
    first_is p u =
        let f = few n c g h in
        let e : min hi 32 ≡ hi = omega arith in
        rw e
        (by_cases (dec_lt p lo)
        (λ a. rw (lt-ltb p lo a) (below_out (counts_of s) limit lo (replicate 64 false) (hi - lo) p (λ k _ z. omega arith) ∙ none_at p))
        (λ a. by_cases (dec_lt p hi)
        (λ b. rw (le-ltb p lo (omega arith), lt-ltb p hi b)
        (below_in (counts_of s) limit lo (replicate 64 false) (hi - lo) p (rw (length-replicate {A = Bool} 64 false) (omega arith)) (omega arith) (omega arith) ∙ ap (λ x. ltb x limit) (count_at s p (omega arith))))
        (λ b. rw (le-ltb p lo (omega arith), le-ltb p hi (omega arith)) (below_out (counts_of s) limit lo (replicate 64 false) (hi - lo) p (λ k v z. omega arith) ∙ none_at p))))

    ready_on : (p : ℕ) (b : Bool) → asked lo hi p ≡ b → ((b && ltb (s.count p) limit) && every (done_at net s p) net.queues) ≡ (b && ready net s (finish p))
    ready_on p false e = refl
    ready_on p true e = sym (finish_ready_is net s p (inside p e))
      where
        inside : (p : ℕ) → asked lo hi p ≡ true → p < net.parts
        inside p e = let a = ltb-true p hi (and_right (not (ltb p lo)) (ltb p hi) e) in omega arith

    pub marked : (p : ℕ) → p < 64 → get_or (finishing P.from P.into (flags_of s) (used_of s) (counts_of s) limit net.queues lo hi) p false ≡ (asked lo hi p && ready net s (finish p))
    unfolding finishing
    marked p u =
        let m : min net.queues 512 ≡ net.queues = omega (arith, few-queues n c g h) in
        let y : length first ≡ 64 = below-long (counts_of s) limit lo (replicate 64 false) (min hi 32 - lo) ∙ length-replicate {A = Bool} 64 false in
        rw m
        (cleared_at P.from P.into (flags_of s) (used_of s) first y net.queues p
        ∙ ap₂ ◌&&◌ (first_is p u) (every-below _ (done_at net s p) net.queues (word_is p))
        ∙ ready_on p (asked lo hi p) refl)
