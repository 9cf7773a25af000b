-- What marked Finishes leave in the arrays is what they leave in the state: from each queue into a marked part one token is taken, and each flag of a marked
-- part goes off. Loops over the queues, so each list is the table of a function that is changed below some queue.
use mathlib.Core.Path.{◌≡◌, refl, sym, ◌∙◌, ap}
use mathlib.Core.Bool.{Bool, true, false, cond, not, ◌&&◌, and-false, false≢true}
use mathlib.Core.List.{List, [], ◌∷◌, tail}
use mathlib.Core.Logic.{by_cases}
use Prim.Native.Nat.{ℕ, zero, suc, ◌+◌, ◌-◌, ◌*◌, ◌%◌, ◌<◌, ◌≤◌, min}
use native.Mathlib.Decide.{ℕ_discrete}
use native.Mathlib.Omega.{arith}
use borrow.Author.Tests.{eq-eqb, ne_eqb, lt-ltb, le-ltb}
use lib.Dec.{ltb}
use lib.ListN.{length, get_or, set}
use Rattle.base.specs.Checks.{AllGood}
use Rattle.netlist.specs.declared.Netlist.{Netlist}
use Rattle.netlist.specs.Checks.{net_checks}
use Rattle.queues.specs.Found.{found}
use Rattle.queues.proofs.Arrays.{from_at, into_at}
use Rattle.cut.specs.declared.Cut.{Cut}
use Rattle.cut.specs.Checks.{cut_checks}
use Rattle.lanes.specs.Lanes.{shifted as movedUp}
use Rattle.nets.specs.Lists.{at, tab}
use Rattle.nets.specs.Net.{Net}
use Rattle.nets.specs.State.{State, some_token}
use Rattle.nets.specs.Stored.{cell, cells_of, used_of, flags_of, changed, taken}
use Rattle.nets.specs.Networks.{network_of}
use Rattle.nets.specs.Kept.{Kept}
use Rattle.nets.proofs.Facts.{split-on}
use Rattle.nets.proofs.Goods.{good, few-queues, depths, ends-few}
use Rattle.nets.proofs.Ready.{Finishes}
use Rattle.nets.proofs.Tables.{get_d_tab, tab-same, set-tab, shifted}
use Rattle.nets.proofs.Changes.{all_at, changed-none, changed-yes, changed_no, changed-all, cells_same, lengths-same, taken_here, cells-none, cells-yes, cells_no, used-none, used-yes, used_no}
use Rattle.finishes.specs.Finishes.{part_in, used_after, cells_after, flags_after}
use Rattle.plans.specs.declared.Plan.{Plan}
use Rattle.plans.specs.Plans.{plan_of}
use Rattle.spots.proofs.Marking.{and_on}
use Rattle.spots.proofs.Finishing.{at_once}

some-long : (xs : List ℕ) → some_token xs ≡ true → 0 < length xs
some-long [] e = absurd (false≢true e)
some-long (x ∷ xs) e = omega arith

-- the queue store's own words for moving up
pub moved_same : (xs : List ℕ) (q k : ℕ) → movedUp xs q k ≡ shifted xs q k
unfolding movedUp shifted
moved_same xs q zero = refl
moved_same xs q (suc k) =
    let a : q * 16 + k ≡ 16 * q + k = omega arith in
    let b : q * 16 + suc k ≡ 16 * q + k + 1 = omega arith in
    rw (moved_same xs q k, a, b)

own-set : {A : Type 0} (m k : ℕ) (f : ℕ → A) → set (tab m f) k (f k) ≡ tab m f
own-set m k f =
    set-tab m f k (f k)
    ∙ tab-same m (at k (f k) f) f
    (λ j _. by_cases (ℕ_discrete j k) (λ d. ap (λ b. cond b (f k) (f j)) (eq-eqb j k d) ∙ ap f (sym d)) (λ ne. ap (λ b. cond b (f k) (f j)) (ne_eqb j k ne)))

module _ (n : Netlist) (c : Cut) (g : AllGood (net_checks n)) (h : AllGood (cut_checks n c)) (limit : ℕ) where
  abbrev net : Net
  net = network_of n c limit

  abbrev P : Plan
  P = plan_of n c (found n c.part) limit

  module _ (s : State) (K : Kept n net s) (fin : List Bool) (F : ℕ → Bool) (is : (p : ℕ) → p < 64 → get_or fin p false ≡ F p) (all : (p : ℕ) → F p ≡ true → Finishes net s p) where
    into-marked : (q : ℕ) → q < net.queues → get_or fin (part_in P.into q) false ≡ F (net.into q)
    unfolding plan_of
    into-marked q l =
        let e : get_or (found n c.part).into q 0 ≡ net.into q = into_at n c.part q l (few-queues n c g h) in
        let w = (ends-few n c g h q).1 in
        let z : net.into q % 64 ≡ net.into q = omega arith in
        rw (e, z) (is (net.into q) (omega arith))

    from-marked : (q : ℕ) → q < net.queues → get_or fin (part_in P.from q) false ≡ F (net.from q)
    unfolding plan_of
    from-marked q l =
        let e : get_or (found n c.part).from q 0 ≡ net.from q = from_at n c.part q l (few-queues n c g h) in
        let w = (ends-few n c g h q).0 in
        let z : net.from q % 64 ≡ net.from q = omega arith in
        rw (e, z) (is (net.from q) (omega arith))

    abbrev takes : ℕ → Bool
    takes q = F (net.into q)

    abbrev clears : ℕ → Bool
    clears q = F (net.from q)

    few_q : (q : ℕ) → q < net.queues → q < 512
    few_q q l = omega (arith, few-queues n c g h)

    has_token : (q : ℕ) → q < net.queues → takes q ≡ true → 0 < length (s.queue q)
    has_token q l e = some-long (s.queue q) ((all (net.into q) e).full q l refl)

    abbrev used_to : ℕ → List ℕ
    used_to k = tab 512 (λ q. length (taken takes s.queue k q))

    used_turns : (k : ℕ) → k ≤ net.queues → used_after P.into fin k (used_of s) ≡ used_to k
    unfolding used_after used_of
    used_turns zero l = used-none takes s.queue 512
    used_turns (suc k) l =
        let e : used_after P.into fin k (used_of s) ≡ used_to k = used_turns k (omega arith) in
        let u : get_or (used_to k) k 0 ≡ length (s.queue k) = get_d_tab 512 (λ q. length (taken takes s.queue k q)) k 0 (few_q k l) ∙ ap length (taken_here takes s.queue k) in
        rw (e, into-marked k l, u)
        (split-on (λ b. takes k ≡ b → cond (b && ltb 0 (length (s.queue k))) (set (used_to k) k (length (s.queue k) - 1)) (used_to k) ≡ used_to (suc k)) (takes k)
        (λ _ t. rw (lt-ltb 0 (length (s.queue k)) (has_token k l t)) (used-yes takes s.queue 512 k t (has_token k l t)))
        (λ _ t. used_no takes s.queue 512 k t) refl)

    abbrev cells_to : ℕ → List ℕ
    cells_to k = tab 8192 (cell (taken takes s.queue k))

    short : (q : ℕ) → q < net.queues → length (s.queue q) ≤ 16
    short q l = let a = K.fits q in let b = (depths n c g h q l).1 in omega arith

    cells_turns : (k : ℕ) → k ≤ net.queues → cells_after P.into fin k (used_of s) (cells_of s) ≡ cells_to k
    unfolding cells_after cells_of
    cells_turns zero l = cells-none takes s.queue 8192
    cells_turns (suc k) l =
        let e : cells_after P.into fin k (used_of s) (cells_of s) ≡ cells_to k = cells_turns k (omega arith) in
        let v : used_after P.into fin k (used_of s) ≡ used_to k = used_turns k (omega arith) in
        let u : get_or (used_to k) k 0 ≡ length (s.queue k) = get_d_tab 512 (λ q. length (taken takes s.queue k q)) k 0 (few_q k l) ∙ ap length (taken_here takes s.queue k) in
        let a : k * 16 + 15 ≡ 16 * k + 15 = omega arith in
        rw (e, v, into-marked k l, u, moved_same (cells_to k) k 15, a)
        (split-on (λ b. takes k ≡ b → cond (b && ltb 0 (length (s.queue k))) (set (shifted (cells_to k) k 15) (16 * k + 15) 0) (cells_to k) ≡ cells_to (suc k)) (takes k)
        (λ _ t. rw (lt-ltb 0 (length (s.queue k)) (has_token k l t)) (cells-yes takes s.queue 8192 k t (let z = few_q k l in omega arith) (short k l)))
        (λ _ t. cells_no takes s.queue 8192 k t) refl)

    abbrev flags_to : ℕ → List Bool
    flags_to k = tab 512 (changed clears (λ q. false) s.flag k)

    flag-here : (k : ℕ) → changed clears (λ q. false) s.flag k k ≡ s.flag k
    unfolding changed
    flag-here k = ap (λ b. cond (b && clears k) false (s.flag k)) (le-ltb k k (omega arith))

    flags_turns : (k : ℕ) → k ≤ net.queues → flags_after P.from fin k (flags_of s) ≡ flags_to k
    unfolding flags_after flags_of
    flags_turns zero l = changed-none clears (λ q. false) s.flag 512
    flags_turns (suc k) l =
        let e : flags_after P.from fin k (flags_of s) ≡ flags_to k = flags_turns k (omega arith) in
        let u : get_or (flags_to k) k false ≡ changed clears (λ q. false) s.flag k k = get_d_tab 512 (changed clears (λ q. false) s.flag k) k false (few_q k l) in
        rw (e, from-marked k l, u)
        (split-on (λ b. clears k ≡ b → set (flags_to k) k (changed clears (λ q. false) s.flag k k && not b) ≡ flags_to (suc k)) (clears k)
        (λ _ t. rw (and-false (changed clears (λ q. false) s.flag k k)) (changed-yes clears (λ q. false) s.flag 512 k t))
        (λ _ t. rw (and_on (changed clears (λ q. false) s.flag k k)) (own-set 512 k (changed clears (λ q. false) s.flag k) ∙ changed_no clears (λ q. false) s.flag 512 k t)) refl)

    -- what is left when every queue has had its turn
    in_queues : (q : ℕ) → takes q ≡ true → q < net.queues
    in_queues q e = (good n c g h limit).take_queue q (all (net.into q) e).inside

    put-queues : (q : ℕ) → clears q ≡ true → q < net.queues
    put-queues q e = (good n c g h limit).put_queue q (all (net.from q) e).inside

    whole-queues : min net.queues 512 ≡ net.queues
    whole-queues = omega (arith, few-queues n c g h)

    pub cells_left : cells_after P.into fin (min net.queues 512) (used_of s) (cells_of s) ≡ cells_of (at_once net s F)
    unfolding cells_of
    cells_left =
        rw whole-queues
        (cells_turns net.queues (omega arith)
        ∙ cells_same 8192 (taken takes s.queue net.queues) (at_once net s F).queue (all_at takes (λ q. tail (s.queue q)) s.queue net.queues in_queues))

    pub used-left : used_after P.into fin (min net.queues 512) (used_of s) ≡ used_of (at_once net s F)
    unfolding used_of
    used-left =
        rw whole-queues
        (used_turns net.queues (omega arith)
        ∙ lengths-same 512 (taken takes s.queue net.queues) (at_once net s F).queue (all_at takes (λ q. tail (s.queue q)) s.queue net.queues in_queues))

    pub flags-left : flags_after P.from fin (min net.queues 512) (flags_of s) ≡ flags_of (at_once net s F)
    unfolding flags_of
    flags-left = rw whole-queues (flags_turns net.queues (omega arith) ∙ changed-all clears (λ q. false) s.flag 512 net.queues put-queues)
