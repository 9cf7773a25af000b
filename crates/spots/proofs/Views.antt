-- What one pass computes for a node by its plan is what the network's definition says of the records' fields. Field by field, where the code uses it.
use mathlib.Core.Path.{◌≡◌, refl, ◌∙◌, ap}
use mathlib.Core.Bool.{Bool, true, false, cond, ◌&&◌}
use mathlib.Core.List.{List}
use Prim.Native.Nat.{ℕ, ◌+◌, ◌%◌, ◌<◌, ◌≤◌}
use native.Mathlib.Omega.{arith}
use borrow.Author.Tests.{lt-ltb, ltb-true}
use lib.Dec.{eqb, ltb}
use lib.ListN.{length, get_or, replicate, length-replicate}
use Rattle.base.specs.Checks.{AllGood}
use Rattle.base.specs.Lists.{fill}
use Rattle.base.proofs.Fill.{fill_at}
use Rattle.base.proofs.Verdicts.{whole-good}
use Rattle.codes.specs.Rows.{is_in, is_reg, count_of}
use Rattle.codes.specs.declared.Record.{Record}
use Rattle.codes.proofs.Apart.{field_below}
use Rattle.netlist.specs.declared.Netlist.{Netlist}
use Rattle.netlist.specs.Netlists.{record_of}
use Rattle.netlist.specs.Checks.{numbers_good, net_checks}
use Rattle.netlist.proofs.Numbers.{Within, within}
use Rattle.queues.specs.Queues.{input_place}
use Rattle.queues.specs.Found.{no_queue, via_of, found, input_of}
use Rattle.queues.proofs.Order.{each-input}
use Rattle.cut.specs.declared.Cut.{Cut}
use Rattle.cut.specs.Checks.{cut_checks}
use Rattle.values.specs.Values.{value_of}
use Rattle.cycles.specs.Netlists.{width_of}
use Rattle.cycles.proofs.Accepted.{good_record}
use Rattle.cycles.proofs.Arity.{count_is, same_operands}
use Rattle.cycles.proofs.Solved.{byte}
use Rattle.nets.specs.Lists.{implies}
use Rattle.nets.specs.State.{State, some_token}
use Rattle.nets.specs.Stored.{held_of}
use Rattle.nets.specs.Passed.{there_by, via_a, via_b, via_c, calculated, value_by, all_there, met_by}
use Rattle.nets.proofs.Goods.{few-queues}
use Rattle.nets.proofs.Stores.{held_at}
use Rattle.evals.specs.Passes.{spot, value_now, met_now, fields_of}
use Rattle.plans.specs.declared.Plan.{Plan}
use Rattle.plans.specs.Plans.{nowhere, spot_of, first_spot, join_of, plan_of}
use Rattle.spots.proofs.Spots.{first_operand, second_operand, third_operand, read_is}

module _ (n : Netlist) (c : Cut) (g : AllGood (net_checks n)) (h : AllGood (cut_checks n c)) (limit : ℕ) where
  abbrev P : Plan
  P = plan_of n c (found n c.part) limit

  sizes : Within n
  sizes = within n (whole-good (numbers_good n) g.0)

  room : n.nodes ≤ length {A = ℕ} (replicate 1024 0)
  room = rw (length-replicate {A = ℕ} 1024 0) sizes.nodes

  -- what the plan has for a node
  join_at : (i : ℕ) → i < n.nodes → get_or P.join i 0 ≡ join_of n.width n.b i
  unfolding plan_of
  join_at i l = fill_at (join_of n.width n.b) n.nodes i (replicate 1024 0) l room

  ra_at : (i : ℕ) → i < n.nodes → get_or P.ra i 0 ≡ first_spot n.code n.a (found n c.part).a (found n c.part).input i
  unfolding plan_of
  ra_at i l = fill_at (first_spot n.code n.a (found n c.part).a (found n c.part).input) n.nodes i (replicate 1024 0) l room

  rb_at : (i : ℕ) → i < n.nodes → get_or P.rb i 0 ≡ spot_of n.code n.b (found n c.part).b 1 i
  unfolding plan_of
  rb_at i l = fill_at (spot_of n.code n.b (found n c.part).b 1) n.nodes i (replicate 1024 0) l room

  rc_at : (i : ℕ) → i < n.nodes → get_or P.rc i 0 ≡ spot_of n.code n.c (found n c.part).c 2 i
  unfolding plan_of
  rc_at i l = fill_at (spot_of n.code n.c (found n c.part).c 2) n.nodes i (replicate 1024 0) l room

  -- an IN's queue
  input-spot : (i : ℕ) → i < n.nodes → is_in (record_of n i).code ≡ true → spot P.ra i ≡ 1024 + input_place n c.part i
  unfolding found
  input-spot i l e =
      let q : get_or (found n c.part).input i 0 ≡ input_place n c.part i = fill_at (input_of n c.part) n.nodes i (replicate 1024 0) l room ∙ rw e in
      let s = (each-input n c.part i l e).0 in
      let f = few-queues n c g h in
      rw (ra_at i l, e, q) (omega arith)

  -- the queues of the operands, as the finder has them
  via_a_lem : (found n c.part).a ≡ fill (λ i. via_of n c.part 0 i (get_or n.a i 0)) n.nodes (replicate 1024 0)
  unfolding found
  via_a_lem = refl

  via_b_lem : (found n c.part).b ≡ fill (λ i. via_of n c.part 1 i (get_or n.b i 0)) n.nodes (replicate 1024 0)
  unfolding found
  via_b_lem = refl

  via_c_lem : (found n c.part).c ≡ fill (λ i. via_of n c.part 2 i (get_or n.c i 0)) n.nodes (replicate 1024 0)
  unfolding found
  via_c_lem = refl

  -- what is found at a used field, by whatever is found at the places
  module _ {A : Type 0} (W T : ℕ → A) (tokens : (q : ℕ) → q < 512 → W (1024 + q) ≡ T q) (i : ℕ) (l : i < n.nodes) (no-in : is_in (record_of n i).code ≡ false) where
    abbrev r : Record
    r = record_of n i

    abbrev count : ℕ
    count = count_of r.code

    -- from its queue, or at the node
    abbrev at_field : ℕ → ℕ → A
    at_field q x = cond (eqb q no_queue) (W x) (T q)

    pub field_a : 0 < count → W (spot P.ra i) ≡ at_field (via_a n c.part i) r.a
    field_a u =
        let q = good_record n g i l in
        let o : r.a < n.nodes = field_below (ltb 0 count) n.nodes i r.code r.a sizes.some q.a_good in
        rw (ra_at i l, no-in) (read_is n c g h W T tokens 0 i n.a (found n c.part).a via_a_lem l (lt-ltb 0 count u) o (first_operand count r.a r.b r.c u))

    field_b : 1 < count → W (spot P.rb i) ≡ at_field (via_b n c.part i) r.b
    field_b u =
        let q = good_record n g i l in
        let o : r.b < n.nodes = field_below (ltb 1 count) n.nodes i r.code r.b sizes.some q.b_good in
        rw (rb_at i l) (read_is n c g h W T tokens 1 i n.b (found n c.part).b via_b_lem l (lt-ltb 1 count u) o (second_operand count r.a r.b r.c u))

    field_c : 2 < count → W (spot P.rc i) ≡ at_field (via_c n c.part i) r.c
    field_c u =
        let q = good_record n g i l in
        let o : r.c < n.nodes = field_below (ltb 2 count) n.nodes i r.code r.c sizes.some q.c_good in
        rw (rc_at i l) (read_is n c g h W T tokens 2 i n.c (found n c.part).c via_c_lem l (lt-ltb 2 count u) o (third_operand count r.a r.b r.c u))

  -- a node's value: what the pass computes is what the fields say
  module _ (s : State) (vals : List ℕ) (tokens : (q : ℕ) → q < 512 → get_or vals (1024 + q) 0 ≡ get_or (s.queue q) 0 0) (i : ℕ) (l : i < n.nodes) where
    join_is : get_or P.join i 0 ≡ width_of n (record_of n i).b
    join_is =
        let q = good_record n g i l in
        let o : (record_of n i).b < n.nodes = field_below (ltb 1 (count_of (record_of n i).code)) n.nodes i (record_of n i).code (record_of n i).b sizes.some q.b_good in
        let m : (record_of n i).b % 1024 ≡ (record_of n i).b = omega (arith, sizes.nodes) in
        join_at i l ∙ ap (λ k. get_or n.width k 0) m

    oper_is : is_in (record_of n i).code ≡ false
        → value_of (record_of n i).code (record_of n i).width (get_or P.join i 0) (record_of n i).k (get_or vals (spot P.ra i) 0) (get_or vals (spot P.rb i) 0) (get_or vals (spot P.rc i) 0)
        ≡ calculated n c.part s (λ x. get_or vals x 0) i
    oper_is e =
        let q = good_record n g i l in
        rw join_is
        (same_operands (record_of n i).code (record_of n i).width (width_of n (record_of n i).b) (record_of n i).k _ _ _ _ _ _
        (λ u. count_is (record_of n i).code (byte (record_of n i).code q.known) u q.known)
        (field_a (λ j. get_or vals j 0) (λ k. get_or (s.queue k) 0 0) tokens i l e)
        (field_b (λ j. get_or vals j 0) (λ k. get_or (s.queue k) 0 0) tokens i l e)
        (field_c (λ j. get_or vals j 0) (λ k. get_or (s.queue k) 0 0) tokens i l e))

    value_on : (x y : Bool) → is_in (record_of n i).code ≡ x
        → cond x (get_or vals (spot P.ra i) 0) (cond y (get_or (held_of s) i 0) (value_of (record_of n i).code (record_of n i).width (get_or P.join i 0) (record_of n i).k (get_or vals (spot P.ra i) 0) (get_or vals (spot P.rb i) 0) (get_or vals (spot P.rc i) 0)))
        ≡ cond x (get_or (s.queue (input_place n c.part i)) 0 0) (cond y (s.held i) (calculated n c.part s (λ x. get_or vals x 0) i))
    value_on true y e =
        let q = (each-input n c.part i l e).0 in
        ap (λ j. get_or vals j 0) (input-spot i l e) ∙ tokens (input_place n c.part i) (omega (arith, few-queues n c g h))
    value_on false true e = held_at s i (omega (arith, sizes.nodes))
    value_on false false e = oper_is e

    pub value_found : value_now (fields_of P) (held_of s) vals i ≡ value_by n c.part s (λ x. get_or vals x 0) i
    unfolding value_now value_by plan_of
    value_found = value_on (is_in (record_of n i).code) (is_reg (record_of n i).code) refl

  -- whether its needs are met
  module _ (s : State) (mets : List Bool) (tokens : (q : ℕ) → q < 512 → get_or mets (1024 + q) false ≡ some_token (s.queue q)) (none : get_or mets nowhere false ≡ true) (i : ℕ) (l : i < n.nodes) where
    abbrev there : ℕ → Bool
    there j = get_or mets j false

    -- a field that is no operand is read nowhere
    unused_b : ltb 1 (count_of (record_of n i).code) ≡ false → there (spot P.rb i) ≡ true
    unused_b e = rw (rb_at i l, e) none

    unused_c : ltb 2 (count_of (record_of n i).code) ≡ false → there (spot P.rc i) ≡ true
    unused_c e = rw (rc_at i l, e) none

    unused_a : is_in (record_of n i).code ≡ false → ltb 0 (count_of (record_of n i).code) ≡ false → there (spot P.ra i) ≡ true
    unused_a o e = rw (ra_at i l, o, e) none

    field_on : (b m v : Bool) (t : Bool) → t ≡ b → (b ≡ true → m ≡ v) → (b ≡ false → m ≡ true) → m ≡ implies t v
    field_on true m v t e p q = rw e (p refl)
    field_on false m v t e p q = rw e (q refl)

    abbrev k : ℕ
    k = count_of (record_of n i).code

    all_is : is_in (record_of n i).code ≡ false → (there (spot P.ra i) && there (spot P.rb i) && there (spot P.rc i)) ≡ all_there n c.part s there i
    all_is e =
        let T : ℕ → Bool = λ q. some_token (s.queue q) in
        let a = field_on (ltb 0 k) (there (spot P.ra i)) (there_by s there (via_a n c.part i) (record_of n i).a) (ltb 0 k) refl (λ u. field_a there T tokens i l e (ltb-true 0 k u)) (unused_a e) in
        let b = field_on (ltb 1 k) (there (spot P.rb i)) (there_by s there (via_b n c.part i) (record_of n i).b) (ltb 1 k) refl (λ u. field_b there T tokens i l e (ltb-true 1 k u)) unused_b in
        let d = field_on (ltb 2 k) (there (spot P.rc i)) (there_by s there (via_c n c.part i) (record_of n i).c) (ltb 2 k) refl (λ u. field_c there T tokens i l e (ltb-true 2 k u)) unused_c in
        rw (a, b, d)

    met_on : (x y : Bool) → is_in (record_of n i).code ≡ x
        → cond x (there (spot P.ra i)) (cond y true (there (spot P.ra i) && there (spot P.rb i) && there (spot P.rc i)))
        ≡ cond x (some_token (s.queue (input_place n c.part i))) (cond y true (all_there n c.part s there i))
    met_on true y e =
        let q = (each-input n c.part i l e).0 in
        ap there (input-spot i l e) ∙ tokens (input_place n c.part i) (omega (arith, few-queues n c g h))
    met_on false true e = refl
    met_on false false e = all_is e

    pub met-found : met_now (fields_of P) mets i ≡ met_by n c.part s there i
    unfolding met_now met_by plan_of
    met-found = met_on (is_in (record_of n i).code) (is_reg (record_of n i).code) refl
