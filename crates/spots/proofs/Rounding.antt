-- A round on the arrays is the network's round: after all put rules, the Finishes that are ready at once are those that are ready in their turns.
use mathlib.Core.Path.{◌≡◌, sym, ◌∙◌, ap, ap₂}
use mathlib.Core.Bool.{Bool, true, false, cond, not, ◌&&◌}
use mathlib.Core.List.{List}
use Prim.Native.Nat.{ℕ, zero, suc, ◌+◌, ◌-◌, ◌^◌, ◌<◌, ◌≤◌, min}
use native.Mathlib.Nat.{add-zero, add-suc}
use native.Mathlib.Omega.{arith}
use borrow.Author.Tests.{lt-ltb, le-ltb, ltb-true}
use lib.Dec.{ltb}
use lib.ListN.{get_or}
use Rattle.base.specs.Checks.{AllGood}
use Rattle.base.specs.Lists.{fill}
use Rattle.base.proofs.Tests.{and_left, and_right}
use Rattle.netlist.specs.declared.Netlist.{Netlist}
use Rattle.netlist.specs.Checks.{net_checks}
use Rattle.queues.specs.Found.{found}
use Rattle.cut.specs.declared.Cut.{Cut}
use Rattle.cut.specs.Checks.{cut_checks}
use Rattle.nets.specs.Lists.{bit, tab}
use Rattle.nets.specs.Net.{Net, Good}
use Rattle.nets.specs.State.{State}
use Rattle.nets.specs.Actions.{finish, ready, step}
use Rattle.nets.specs.Rounds.{rule_count, rule, in_order, fired_by, round_fires, after_rules, after_round}
use Rattle.nets.specs.Stored.{cells_of, used_of, flags_of, held_of, counts_of}
use Rattle.nets.specs.Networks.{network_of}
use Rattle.nets.specs.Kept.{Kept}
use Rattle.nets.proofs.Goods.{good, few}
use Rattle.nets.proofs.Kept.{plays_are_kept}
use Rattle.nets.proofs.OnePass.{apart_ready}
use Rattle.nets.proofs.Ready.{Finishes, finishes}
use Rattle.nets.proofs.Rounds.{play-next, fired-next, rule-finish}
use Rattle.finishes.specs.Finishes.{next_held, next_count, used_after, cells_after, flags_after, finished, finishing}
use Rattle.plans.specs.declared.Plan.{Plan}
use Rattle.plans.specs.Plans.{plan_of}
use Rattle.puts.specs.Puts.{Pass, puts_done}
use Rattle.spots.proofs.Putting.{Holds}
use Rattle.spots.proofs.Phases.{asked, puts-done}
use Rattle.spots.proofs.Finishing.{at_once, fires, finished_to, in_turn, apart, in_turn_lem}
use Rattle.spots.proofs.Marking.{asked as asked_of, marked}
use Rattle.spots.proofs.Takings.{cells_left, used-left, flags-left}
use Rattle.spots.proofs.Counting.{held-left, counts-left}

-- the Finishes of a round, in their turns
module _ (N : Net) (G : Good N) (s : State) where
  abbrev first : State
  first = after_rules N s (N.queues - N.ins)

  finish-next : (k : ℕ) → after_rules N s (N.queues - N.ins + suc k) ≡ step N (after_rules N s (N.queues - N.ins + k)) (finish k)
  finish-next k =
      ap (after_rules N s) (add-suc (N.queues - N.ins) k) ∙ play-next N s (N.queues - N.ins + k) (rule N) ∙ ap (step N (after_rules N s (N.queues - N.ins + k))) (rule-finish N G k)

  turns_are : (k : ℕ) → after_rules N s (N.queues - N.ins + k) ≡ in_turn N G first k
  unfolding in_turn
  turns_are zero = ap (after_rules N s) (add-zero (N.queues - N.ins))
  turns_are (suc k) = finish-next k ∙ ap (λ t. step N t (finish k)) (turns_are k)

  pub left_by_lem : (k : ℕ) → after_rules N s (N.queues - N.ins + k) ≡ finished_to N G first k
  left_by_lem k = turns_are k ∙ in_turn_lem N G first k

  ready-same : (k : ℕ) → ready N (after_rules N s (N.queues - N.ins + k)) (finish k) ≡ ready N first (finish k)
  ready-same k = ap (λ t. ready N t (finish k)) (left_by_lem k) ∙ sym (apart_ready N G first (finished_to N G first k) k (apart N G first k))

  -- how many fire
  pub fired_by_lem : (fin : List Bool) (k : ℕ) → ((p : ℕ) → p < k → get_or fin p false ≡ ready N first (finish p))
      → fired_by N s (tab (N.queues - N.ins + k) (rule N)) ≡ fired_by N s (tab (N.queues - N.ins) (rule N)) + finished fin k
  unfolding finished
  fired_by_lem fin zero h = ap (λ r. fired_by N s (tab r (rule N))) (add-zero (N.queues - N.ins)) ∙ sym (add-zero (fired_by N s (tab (N.queues - N.ins) (rule N))))
  fired_by_lem fin (suc k) h =
      let d : ℕ = N.queues - N.ins in
      let a = fired_by_lem fin k (λ p u. h p (omega arith)) in
      let b = fired-next N s (d + k) (rule N) in
      let e : bit (ready N (after_rules N s (d + k)) (rule N (d + k))) ≡ cond (get_or fin k false) 1 0 =
      ap (λ x. bit (ready N (after_rules N s (d + k)) x)) (rule-finish N G k) ∙ ap bit (ready-same k ∙ sym (h k (omega arith))) in
      ap (λ r. fired_by N s (tab r (rule N))) (add-suc d k) ∙ b ∙ omega (arith, a, e)

module _ (n : Netlist) (c : Cut) (g : AllGood (net_checks n)) (h : AllGood (cut_checks n c)) (limit : ℕ) (small : limit < 2 ^ 32) (s : State) (K : Kept n (network_of n c limit) s) (S : Pass) (H : Holds n c g h limit s 0 S) where
  abbrev net : Net
  net = network_of n c limit

  abbrev G : Good net
  G = good n c g h limit

  abbrev P : Plan
  P = plan_of n c (found n c.part) limit

  -- after the put rules, and the parts that finish then
  abbrev T : Pass
  T = puts_done (asked n c g h limit s) net.ins net.queues n.nodes S

  abbrev t : State
  t = after_rules net s (net.queues - net.ins)

  abbrev fin : List Bool
  fin = finishing P.from P.into T.flag T.used (counts_of s) limit net.queues 0 net.parts

  abbrev F : ℕ → Bool
  F = fires net G t net.parts

  is : (p : ℕ) → p < 64 → get_or fin p false ≡ F p
  is p u =
      let D = puts-done n c g h limit s S H in
      let e : asked_of n c g h limit t 0 net.parts p ≡ ltb p net.parts = ap (λ b. not b && ltb p net.parts) (le-ltb p 0 (omega arith)) in
      rw (D.holds.flag, D.holds.used, sym D.counts_same)
      (marked n c g h limit t 0 net.parts (omega arith) p u ∙ ap (λ b. b && ready net t (finish p)) e)

  all : (p : ℕ) → F p ≡ true → Finishes net t p
  all p e = finishes net t p (and_right (ltb p net.parts) (ready net t (finish p)) e)

  low : (p : ℕ) → F p ≡ true → p < net.parts
  low p e = ltb-true p net.parts (and_left (ltb p net.parts) (ready net t (finish p)) e)

  kept : Kept n net t
  kept = plays_are_kept n c g h limit s (tab (net.queues - net.ins) (rule net)) K

  after_is : after_round net s ≡ at_once net t F
  unfolding in_order rule_count
  after_is = left_by_lem net G s net.parts

  -- the arrays after a round, and how many rules fired
  pub record RoundDone : Type 0 where
    pub cells : cells_after P.into fin (min net.queues 512) T.used T.cells ≡ cells_of (after_round net s)
    pub used : used_after P.into fin (min net.queues 512) T.used ≡ used_of (after_round net s)
    pub flag : flags_after P.from fin (min net.queues 512) T.flag ≡ flags_of (after_round net s)
    pub held : fill (next_held P.code P.ra P.part T.vals fin (held_of s)) (min n.nodes 1024) (held_of s) ≡ held_of (after_round net s)
    pub count : fill (next_count fin (counts_of s)) (min net.parts 32) (counts_of s) ≡ counts_of (after_round net s)
    pub fired : T.fired + finished fin (min net.parts 32) ≡ S.fired + round_fires net s

  few-parts : net.parts ≤ 32
  few-parts = few n c g h

  fired_is : T.fired + finished fin (min net.parts 32) ≡ S.fired + round_fires net s
  unfolding in_order rule_count
  fired_is =
      let D = puts-done n c g h limit s S H in
      let w = few-parts in
      let m : min net.parts 32 ≡ net.parts = omega arith in
      let a = D.fired in
      let b = fired_by_lem net G s fin net.parts (λ p u. is p (omega arith) ∙ ap (λ v. v && ready net t (finish p)) (lt-ltb p net.parts u)) in
      rw m (omega (arith, a, b))

  pub round-done : RoundDone
  round-done =
      let D = puts-done n c g h limit s S H in
      record {
        cells = ap₂ (λ u x. cells_after P.into fin (min net.queues 512) u x) D.holds.used D.holds.cells ∙ cells_left n c g h limit t kept fin F is all ∙ ap cells_of (sym after_is);
        used = ap (used_after P.into fin (min net.queues 512)) D.holds.used ∙ used-left n c g h limit t kept fin F is all ∙ ap used_of (sym after_is);
        flag = ap (flags_after P.from fin (min net.queues 512)) D.holds.flag ∙ flags-left n c g h limit t kept fin F is all ∙ ap flags_of (sym after_is);
        held =
            ap (λ x. fill (next_held P.code P.ra P.part T.vals fin x) (min n.nodes 1024) x) (sym D.held_same)
            ∙ held-left n c g h limit t fin F is all T.vals T.mets D.holds.sees ∙ ap held_of (sym after_is);
        count =
            ap (λ x. fill (next_count fin x) (min net.parts 32) x) (sym D.counts_same)
            ∙ counts-left n c g h limit t fin F is all small net.parts few-parts low ∙ ap counts_of (sym after_is);
        fired = fired_is;
      }
