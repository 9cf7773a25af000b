-- One rule by itself on the arrays of a state is that rule in the network: a put rule after the nodes it needs, a Finish after all of them, where the marks are
-- those of the one part.
use mathlib.Core.Path.{◌≡◌, refl, sym, ◌∙◌, ap, ap₂, subst}
use mathlib.Core.Bool.{Bool, true, false, not, ◌&&◌}
use mathlib.Core.List.{List}
use Prim.Native.Nat.{ℕ, zero, suc, ◌+◌, ◌-◌, ◌^◌, ◌<◌, ◌≤◌, min}
use native.Mathlib.Omega.{arith}
use native.Mathlib.Nat.{zero-add}
use borrow.Author.Tests.{lt-ltb, le-ltb, ltb-true}
use lib.Dec.{ltb}
use lib.ListN.{get_or}
use Rattle.base.specs.Checks.{AllGood}
use Rattle.base.proofs.Tests.{and_left, and_right}
use Rattle.netlist.specs.declared.Netlist.{Netlist}
use Rattle.netlist.specs.Checks.{net_checks}
use Rattle.queues.specs.Found.{found}
use Rattle.cut.specs.declared.Cut.{Cut}
use Rattle.cut.specs.Checks.{cut_checks}
use Rattle.nets.specs.Lists.{bit}
use Rattle.nets.specs.Net.{Net, Good}
use Rattle.nets.specs.State.{State}
use Rattle.nets.specs.Actions.{put, finish, ready, step}
use Rattle.nets.specs.Stored.{cells_of, used_of, flags_of, held_of, counts_of}
use Rattle.nets.specs.Networks.{network_of}
use Rattle.nets.specs.Kept.{Kept}
use Rattle.nets.proofs.Goods.{good, few, few-queues}
use Rattle.nets.proofs.Ready.{Finishes, finishes}
use Rattle.finishes.specs.Finishes.{used_after, cells_after, flags_after, finished}
use Rattle.plans.specs.declared.Plan.{Plan}
use Rattle.plans.specs.Plans.{plan_of}
use Rattle.puts.specs.Puts.{Plan as Rules, Pass, needed, evaluated, put_tried, puts_after}
use Rattle.lanes.specs.declared.Network.{Network}
use Rattle.spots.specs.Stores.{store_of}
use Rattle.spots.specs.Rounds.{first_pass, puts_on, marks_on, finished_on, finishes_on}
use Rattle.spots.proofs.Putting.{Holds, Tried}
use Rattle.spots.proofs.Phases.{asked, see_up_to, same-rules, kept-fired, nodes_for, put_alone_lem}
use Rattle.spots.proofs.Finishing.{at_once, alone, one-alone}
use Rattle.spots.proofs.Marking.{marked}
use Rattle.spots.proofs.Takings.{cells_left, used-left, flags-left}
use Rattle.spots.proofs.Counting.{held-left, counts-left}
use Rattle.spots.proofs.OnArrays.{first_holds, rules_are}
use Rattle.rounds.specs.Fires.{put_alone, no_puts, put_left, finish_left}
use Rattle.rounds.proofs.Left.{same_nets}

-- ---- how many marks there are

none-finished : (fin : List Bool) (k : ℕ) → ((r : ℕ) → r < k → get_or fin r false ≡ false) → finished fin k ≡ 0
unfolding finished
none-finished fin zero h = refl
none-finished fin (suc k) h = let a = none-finished fin k (λ r u. h r (omega arith)) in let b = ap bit (h k (omega arith)) in omega (arith, a, b)

one-finished : (fin : List Bool) (p : ℕ) → ((r : ℕ) → r < p → get_or fin r false ≡ false) → finished fin (suc p) ≡ bit (get_or fin p false)
unfolding finished
one-finished fin p h = let a = none-finished fin p h in omega (arith, a)

same-cells : (R : Rules) (k : ℕ) (T : Pass) → ((evaluated R k T).cells ≡ T.cells) × ((evaluated R k T).used ≡ T.used) × ((evaluated R k T).flag ≡ T.flag)
unfolding evaluated
same-cells R k T = (refl, refl, refl)

module _ (n : Netlist) (c : Cut) (g : AllGood (net_checks n)) (h : AllGood (cut_checks n c)) (limit : ℕ) (small : limit < 2 ^ 32) (s : State) (K : Kept n (network_of n c limit) s) where
  abbrev net : Net
  net = network_of n c limit

  abbrev G : Good net
  G = good n c g h limit

  abbrev P : Plan
  P = plan_of n c (found n c.part) limit

  abbrev L : Network
  L = store_of s

  abbrev R : Rules
  R = asked n c g h limit s

  abbrev S : Pass
  S = first_pass P.queues (cells_of s) (used_of s) (flags_of s)

  H : Holds n c g h limit s 0 S
  H = first_holds n c g h limit small s K

  -- ---- a put rule

  module _ (q : ℕ) (low : net.ins ≤ q) (high : q < net.queues) where
    abbrev k : ℕ
    k = nodes_for n c g h limit s q low high

    -- the rule, after the nodes it needs
    abbrev T : Pass
    T = put_tried R q (evaluated R k S)

    tried : Tried n c g h limit s q k (evaluated R k S) T
    tried = put_alone_lem n c g h limit s q low high S H

    alone_is : put_alone P L q ≡ evaluated R 0 T
    unfolding puts_on puts_after
    alone_is =
        let e : min (q + 1) 512 - q ≡ 1 = omega (arith, few-queues n c g h) in
        let z : q + 0 ≡ q = omega arith in
        ap (λ X. evaluated X 0 (puts_after X q (min (q + 1) 512 - q) S)) (rules_are n c g h limit small s K)
        ∙ ap (λ d. evaluated R 0 (puts_after R q d S)) e
        ∙ ap (λ x. evaluated R 0 (put_tried R x (evaluated R (needed R x) S))) z

    pub put_left_is : put_left P L q ≡ store_of (step net s (put q))
    put_left_is =
        let a = same-cells R 0 T in
        same_nets
        (ap (λ X. X.cells) alone_is ∙ a.0 ∙ tried.holds.cells)
        (ap (λ X. X.used) alone_is ∙ a.1 ∙ tried.holds.used)
        (ap (λ X. X.flag) alone_is ∙ a.2 ∙ tried.holds.flag)
        (sym (ap (λ X. X.held) (same-rules n c g h limit s q)))
        (sym (ap (λ X. X.count) (same-rules n c g h limit s q)))

    pub put_fired_is : (put_alone P L q).fired ≡ bit (ready net s (put q))
    put_fired_is =
        ap (λ X. X.fired) alone_is ∙ kept-fired n c g h limit R 0 T ∙ tried.fired
        ∙ ap (λ x. x + bit (ready net s (put q))) (kept-fired n c g h limit R k S) ∙ zero-add (bit (ready net s (put q)))

  -- ---- a Finish

  module _ (p : ℕ) (high : p < net.parts) where
    abbrev A : Pass
    A = no_puts P L

    nodes_are : A ≡ evaluated R n.nodes S
    unfolding puts_on puts_after plan_of
    nodes_are = ap (λ X. evaluated X n.nodes S) (rules_are n c g h limit small s K)

    seen : Holds n c g h limit s n.nodes A
    seen = subst (λ X. Holds n c g h limit s n.nodes X) (sym nodes_are) (see_up_to n c g h limit s 0 n.nodes S (omega arith) (omega arith) H)

    abbrev fin : List Bool
    fin = marks_on P L A p (p + 1)

    abbrev F : ℕ → Bool
    F = alone net G s p

    one_more_lem : p + 1 ≡ suc p
    one_more_lem = omega arith

    is : (r : ℕ) → r < 64 → get_or fin r false ≡ F r
    unfolding plan_of found
    is r u =
        rw (seen.flag, seen.used)
        (marked n c g h limit s p (p + 1) (omega arith) r u ∙ ap (λ x. (not (ltb r p) && ltb r x) && ready net s (finish r)) one_more_lem)

    all : (r : ℕ) → F r ≡ true → Finishes net s r
    all r e = finishes net s r (and_right (not (ltb r p) && ltb r (suc p)) (ready net s (finish r)) e)

    here : (r : ℕ) → F r ≡ true → r < p + 1
    here r e =
        let a = ltb-true r (suc p) (and_right (not (ltb r p)) (ltb r (suc p)) (and_left (not (ltb r p) && ltb r (suc p)) (ready net s (finish r)) e)) in
        omega arith

    top : p + 1 ≤ 32
    top = let f = few n c g h in omega arith

    step_is : at_once net s F ≡ step net s (finish p)
    step_is = one-alone net G s p

    pub finish_left_is : finish_left P L p ≡ store_of (step net s (finish p))
    unfolding finished_on plan_of found
    finish_left_is =
        same_nets
        (ap₂ (λ x y. cells_after P.into fin (min net.queues 512) x y) seen.used seen.cells ∙ cells_left n c g h limit s K fin F is all ∙ ap cells_of step_is)
        (ap (used_after P.into fin (min net.queues 512)) seen.used ∙ used-left n c g h limit s K fin F is all ∙ ap used_of step_is)
        (ap (flags_after P.from fin (min net.queues 512)) seen.flag ∙ flags-left n c g h limit s K fin F is all ∙ ap flags_of step_is)
        (held-left n c g h limit s fin F is all A.vals A.mets seen.sees ∙ ap held_of step_is)
        (counts-left n c g h limit s fin F is all small (p + 1) top here ∙ ap counts_of step_is)

    mark_is : F p ≡ ready net s (finish p)
    mark_is = rw (le-ltb p p (omega arith), lt-ltb p (suc p) (omega arith))

    pub finish_fired_is : finishes_on P L A p (p + 1) ≡ bit (ready net s (finish p))
    finish_fired_is =
        let w = top in
        let e : min (p + 1) 32 ≡ suc p = omega arith in
        ap (finished fin) e
        ∙ one-finished fin p (λ r u. is r (omega arith) ∙ ap (λ b. (not b && ltb r (suc p)) && ready net s (finish r)) (lt-ltb r p u))
        ∙ ap bit (is p (omega arith) ∙ mark_is)
