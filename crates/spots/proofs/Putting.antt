-- One put rule tried on the arrays is the rule tried in the network: its test is the network's, its stores are those of the state after it, and what was found
-- stays right.
use mathlib.Core.Path.{◌≡◌, refl, sym, ◌∙◌, ap, subst}
use mathlib.Core.Bool.{Bool, true, false, cond, not, ◌&&◌}
use mathlib.Core.List.{List, [], ◌∷◌, ◌++◌}
use mathlib.Core.Logic.{by_cases}
use Prim.Native.Nat.{ℕ, suc, ◌+◌, ◌*◌, ◌%◌, ◌<◌, ◌≤◌}
use native.Mathlib.Decide.{ℕ_discrete}
use native.Mathlib.Nat.{add-zero}
use native.Mathlib.Omega.{arith}
use borrow.Author.Tests.{eq-eqb, ne_eqb, lt-ltb, ltb-true}
use lib.Dec.{ltb}
use lib.ListN.{length, get_or, set, length-set}
use lib.Seq.{get_or-set_same, get_or-set_other}
use Rattle.base.specs.Checks.{AllGood}
use Rattle.base.proofs.Tests.{and_left, and_right}
use Rattle.base.proofs.Verdicts.{whole-good}
use Rattle.netlist.specs.declared.Netlist.{Netlist}
use Rattle.netlist.specs.Checks.{numbers_good, net_checks}
use Rattle.netlist.proofs.Numbers.{Within, within}
use Rattle.queues.specs.Found.{found}
use Rattle.queues.proofs.Arrays.{node_at, from_at}
use Rattle.cut.specs.declared.Cut.{Cut}
use Rattle.cut.specs.Checks.{cut_checks}
use Rattle.lanes.specs.Lanes.{push_cells, push_used}
use Rattle.nets.specs.Lists.{bit}
use Rattle.nets.specs.Net.{Net}
use Rattle.nets.specs.State.{State, some_token, present}
use Rattle.nets.specs.Actions.{put, room, ready, done, step}
use Rattle.nets.specs.Stored.{cells_of, used_of, flags_of, held_of, counts_of}
use Rattle.nets.specs.Networks.{network_of}
use Rattle.nets.proofs.Goods.{good, few, few-queues, depths}
use Rattle.nets.proofs.Stores.{head_at, used_at, flag_at, count_at, put-cells, put-used, put-flags}
use Rattle.nets.proofs.Turns.{Right, right-put, put-value, put_test_lem}
use Rattle.plans.specs.declared.Plan.{Plan}
use Rattle.plans.specs.Plans.{nowhere, plan_of}
use Rattle.puts.specs.Puts.{Plan as Rules, Pass, mk_plan, put_ready, put_done, put_tried}
use Rattle.evals.specs.Passes.{fields_of}
use Rattle.spots.proofs.Passing.{Sees}

turned : (f r t l : Bool) → (true && f && r && t && l) ≡ (l && (f && (r && t)))
turned true true true true = refl
turned true true true false = refl
turned true true false true = refl
turned true true false false = refl
turned true false t true = refl
turned true false t false = refl
turned false r t true = refl
turned false r t false = refl

some-last : (xs : List ℕ) (x : ℕ) → some_token (xs ++ (x ∷ [])) ≡ true
some-last [] x = refl
some-last (y ∷ xs) x = refl

module _ (n : Netlist) (c : Cut) (g : AllGood (net_checks n)) (h : AllGood (cut_checks n c)) (limit : ℕ) where
  abbrev net : Net
  net = network_of n c limit

  abbrev P : Plan
  P = plan_of n c (found n c.part) limit

  -- the rules as they are in a state
  abbrev pub rules : State → ℕ → Rules
  rules s channels = mk_plan (fields_of P) (held_of s) P.node P.from P.depth (counts_of s) limit channels n.nodes

  sizes : Within n
  sizes = within n (whole-good (numbers_good n) g.0)

  module _ (q : ℕ) (low : net.ins ≤ q) (high : q < net.queues) where
    from_low : net.from q < net.parts
    from_low = (good n c g h limit).after_put q low high

    pub node-low : net.node q < n.nodes
    node-low = (good n c g h limit).put_node q from_low

    few_q : q < 512
    few_q = omega (arith, few-queues n c g h)

    pub node-raw : get_or P.node q 0 ≡ net.node q
    unfolding plan_of
    node-raw = node_at n c.part q high (few-queues n c g h)

    node_is : get_or P.node q 0 % 1024 ≡ net.node q
    node_is = rw node-raw (omega (arith, node-low, sizes.nodes))

    from_is : get_or P.from q 0 % 32 ≡ net.from q
    unfolding plan_of
    from_is =
        let e : get_or (found n c.part).from q 0 ≡ net.from q = from_at n c.part q high (few-queues n c g h) in
        rw e (omega (arith, from_low, few n c g h))

    depth_is : get_or P.depth q 0 ≡ net.depth q
    unfolding plan_of
    depth_is = refl

    module _ (s : State) (m : ℕ) (S : Pass) (channels : ℕ) (cells : S.cells ≡ cells_of s) (used : S.used ≡ used_of s) (flag : S.flag ≡ flags_of s) (E : Sees n c limit s m S.vals S.mets) (b : net.node q < m) (k : m ≤ n.nodes) where
      -- the test of the rule
      test_is : put_ready (rules s channels) q S ≡ ready net s (put q)
      unfolding room
      test_is =
          let f : get_or S.flag q false ≡ s.flag q = ap (λ l. get_or l q false) flag ∙ flag_at s q few_q in
          let u : get_or S.used q 0 ≡ length (s.queue q) = ap (λ l. get_or l q 0) used ∙ used_at s q few_q in
          let t = put_test_lem n c g h limit s m (λ x. get_or S.vals x 0) (λ x. get_or S.mets x false) E.right q from_low b in
          let p : get_or (counts_of s) (net.from q) 0 ≡ s.count (net.from q) = count_at s (net.from q) (omega (arith, from_low, few n c g h)) in
          rw (lt-ltb q 512 few_q, f, u, depth_is, node_is, from_is, p)
          (turned (not (s.flag q)) (ltb (length (s.queue q)) (net.depth q)) (get_or S.mets (net.node q) false) (ltb (s.count (net.from q)) limit) ∙ sym t)

      -- what it puts
      value-is : get_or S.vals (get_or P.node q 0 % 1024) 0 ≡ present net s (net.from q) (net.node q)
      value-is = ap (λ i. get_or S.vals i 0) node_is ∙ sym (put-value n c g h limit s m (λ x. get_or S.vals x 0) (λ x. get_or S.mets x false) E.right q from_low b)

      -- where it is ready, what it stores
      module _ (short : length (s.queue q) < 16) where
        new-cells : push_cells S.cells S.used q (get_or S.vals (get_or P.node q 0 % 1024) 0) ≡ cells_of (done net s (put q))
        new-cells =
            let u : get_or S.used q 0 ≡ length (s.queue q) = ap (λ l. get_or l q 0) used ∙ used_at s q few_q in
            let r : length (s.queue q) % 16 ≡ length (s.queue q) = omega arith in
            let a : q * 16 + length (s.queue q) ≡ 16 * q + length (s.queue q) = omega arith in
            rw (u, r, a, value-is, cells) (put-cells net s q short)

        new-used : push_used S.used q ≡ used_of (done net s (put q))
        new-used =
            let u : get_or S.used q 0 ≡ length (s.queue q) = ap (λ l. get_or l q 0) used ∙ used_at s q few_q in
            let r : length (s.queue q) % 16 ≡ length (s.queue q) = omega arith in
            rw (u, r, used) (put-used net s q)

        new-flag : set S.flag q true ≡ flags_of (done net s (put q))
        new-flag = rw flag (put-flags net s q)

        -- the queues afterwards
        same_queue : (j : ℕ) → (j ≡ q → ⊥) → (done net s (put q)).queue j ≡ s.queue j
        unfolding done
        same_queue j ne = ap (λ t. cond t (s.queue q ++ (present net s (net.from q) (net.node q) ∷ [])) (s.queue j)) (ne_eqb j q ne)

        own-queue : (done net s (put q)).queue q ≡ s.queue q ++ (present net s (net.from q) (net.node q) ∷ [])
        unfolding done
        own-queue = ap (λ t. cond t (s.queue q ++ (present net s (net.from q) (net.node q) ∷ [])) (s.queue q)) (eq-eqb q q refl)

        abbrev front : ℕ
        front = get_or (push_cells S.cells S.used q (get_or S.vals (get_or P.node q 0 % 1024) 0)) (q * 16) 0

        front_is : front ≡ get_or ((done net s (put q)).queue q) 0 0
        front_is = let a : q * 16 ≡ 16 * q = omega arith in rw (new-cells, a) (head_at (done net s (put q)) q few_q)

        new-sees : Right net m (done net s (put q)) (λ x. get_or S.vals x 0) (λ x. get_or S.mets x false) → Sees n c limit (done net s (put q)) m (set S.vals (1024 + q) front) (set S.mets (1024 + q) true)
        new-sees R =
            record {
              long_vals = length-set S.vals (1024 + q) front ∙ E.long_vals;
              long_mets = length-set S.mets (1024 + q) true ∙ E.long_mets;
              tokens = λ j u.
                  by_cases (ℕ_discrete j q)
                  (λ e. rw e (get_or-set_same S.vals (1024 + q) front 0 (omega (arith, E.long_vals, few_q)) ∙ front_is))
                  (λ e. get_or-set_other S.vals (1024 + q) (1024 + j) front 0 (λ z. e (omega arith)) ∙ E.tokens j u ∙ ap (λ l. get_or l 0 0) (sym (same_queue j e)));
              there = λ j u.
                  by_cases (ℕ_discrete j q)
                  (λ e. rw e (get_or-set_same S.mets (1024 + q) true false (omega (arith, E.long_mets, few_q)) ∙ sym (ap some_token own-queue ∙ some-last (s.queue q) (present net s (net.from q) (net.node q)))))
                  (λ e. get_or-set_other S.mets (1024 + q) (1024 + j) true false (λ z. e (omega arith)) ∙ E.there j u ∙ ap some_token (sym (same_queue j e)));
              none = get_or-set_other S.mets (1024 + q) nowhere true false (λ z. omega (arith, few_q)) ∙ E.none;
              right =
                  record {
                    value = λ a u. get_or-set_other S.vals (1024 + q) a front 0 (λ z. omega (arith, sizes.nodes)) ∙ R.value a u;
                    needs = λ a u. get_or-set_other S.mets (1024 + q) a true false (λ z. omega (arith, sizes.nodes)) ∙ R.needs a u;
                  };
            }

  -- the arrays of a pass hold a state, and what it has found of the first m nodes is right in it
  pub record Holds (s : State) (m : ℕ) (S : Pass) : Type 0 where
    pub seen : S.seen ≡ m
    pub cells : S.cells ≡ cells_of s
    pub used : S.used ≡ used_of s
    pub flag : S.flag ≡ flags_of s
    pub sees : Sees n c limit s m S.vals S.mets

  -- a rule tried: the pass goes on with the state, and counts a firing where the rule was ready
  pub record Tried (s : State) (q m : ℕ) (S T : Pass) : Type 0 where
    pub holds : Holds (step net s (put q)) m T
    pub fired : T.fired ≡ S.fired + bit (ready net s (put q))

  has_room_lem : (s : State) (q m : ℕ) (w : ℕ → ℕ) (t : ℕ → Bool) → Right net m s w t → net.from q < net.parts → net.node q < m → q < net.queues → ready net s (put q) ≡ true → length (s.queue q) < 16
  unfolding room
  has_room_lem s q m w t R l b u e =
      let f : (ltb (s.count (net.from q)) net.limit && (not (s.flag q) && (room net s q && t (net.node q)))) ≡ true = sym (put_test_lem n c g h limit s m w t R q l b) ∙ e in
      let r : room net s q ≡ true = and_left (room net s q) (t (net.node q)) (and_right (not (s.flag q)) (room net s q && t (net.node q)) (and_right (ltb (s.count (net.from q)) net.limit) (not (s.flag q) && (room net s q && t (net.node q))) f)) in
      let d = ltb-true (length (s.queue q)) (net.depth q) r in
      let k = (depths n c g h q u).1 in
      omega arith

  step-yes : (s : State) (q : ℕ) → ready net s (put q) ≡ true → step net s (put q) ≡ done net s (put q)
  unfolding step
  step-yes s q e = rw e

  step_no : (s : State) (q : ℕ) → ready net s (put q) ≡ false → step net s (put q) ≡ s
  unfolding step
  step_no s q e = rw e

  tried-yes : (L : Rules) (q : ℕ) (S : Pass) → put_ready L q S ≡ true → put_tried L q S ≡ put_done L q S
  unfolding put_tried
  tried-yes L q S e = rw e

  tried_no : (L : Rules) (q : ℕ) (S : Pass) → put_ready L q S ≡ false → put_tried L q S ≡ S
  unfolding put_tried
  tried_no L q S e = rw e

  module _ (s : State) (q m channels : ℕ) (S : Pass) (H : Holds s m S) (low : net.ins ≤ q) (high : q < net.queues) (b : net.node q < m) (k : m ≤ n.nodes) (u : net.into q < net.parts → m ≤ suc (net.node q)) where
    kept-right : Right net m (step net s (put q)) (λ x. get_or S.vals x 0) (λ x. get_or S.mets x false)
    kept-right = right-put n c g h limit s m (λ x. get_or S.vals x 0) (λ x. get_or S.mets x false) H.sees.right k q (from_low q low high) u

    same_test : put_ready (rules s channels) q S ≡ ready net s (put q)
    same_test = test_is q low high s m S channels H.cells H.used H.flag H.sees b k

    put-done : ready net s (put q) ≡ true → Holds (done net s (put q)) m (put_done (rules s channels) q S)
    unfolding put_done
    put-done e =
        let d : length (s.queue q) < 16 = has_room_lem s q m (λ x. get_or S.vals x 0) (λ x. get_or S.mets x false) H.sees.right (from_low q low high) b high e in
        let R : Right net m (done net s (put q)) (λ x. get_or S.vals x 0) (λ x. get_or S.mets x false) = subst (λ x. Right net m x (λ x. get_or S.vals x 0) (λ x. get_or S.mets x false)) (step-yes s q e) kept-right in
        record {
          seen = H.seen;
          cells = new-cells q low high s m S channels H.cells H.used H.flag H.sees b k d;
          used = new-used q low high s m S channels H.cells H.used H.flag H.sees b k d;
          flag = new-flag q low high s m S channels H.cells H.used H.flag H.sees b k d;
          sees = new-sees q low high s m S channels H.cells H.used H.flag H.sees b k d R;
        }

    put-counts : (put_done (rules s channels) q S).fired ≡ S.fired + 1
    unfolding put_done
    put-counts = refl

    turn_on : (t : Bool) → ready net s (put q) ≡ t → Tried s q m S (put_tried (rules s channels) q S)
    turn_on true e =
        let z : put_tried (rules s channels) q S ≡ put_done (rules s channels) q S = tried-yes (rules s channels) q S (same_test ∙ e) in
        subst (λ T. Tried s q m S T) (sym z)
        (record {
          holds = subst (λ x. Holds x m (put_done (rules s channels) q S)) (sym (step-yes s q e)) (put-done e);
          fired = put-counts ∙ ap (λ v. S.fired + bit v) (sym e);
        })
    turn_on false e =
        let z : put_tried (rules s channels) q S ≡ S = tried_no (rules s channels) q S (same_test ∙ e) in
        subst (λ T. Tried s q m S T) (sym z)
        (record { holds = subst (λ x. Holds x m S) (sym (step_no s q e)) H; fired = sym (ap (λ v. S.fired + bit v) e ∙ add-zero S.fired) })

    pub put-turn : Tried s q m S (put_tried (rules s channels) q S)
    put-turn = turn_on (ready net s (put q)) refl
