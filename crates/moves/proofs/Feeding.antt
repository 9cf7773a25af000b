-- A feed is its entry: the plan's numbers are the network's wherever there is such an input, so the checks are the same, and a token more on the arrays is
-- one more in the state.
use mathlib.Core.Path.{◌≡◌, refl, sym, ap, ap₂, ◌∙◌}
use mathlib.Core.Bool.{Bool, true, false, cond}
use Prim.Native.Nat.{ℕ, ◌+◌, ◌*◌, ◌%◌, ◌^◌, ◌<◌, min}
use native.Mathlib.Omega.{arith}
use borrow.Author.Tests.{ltb-true}
use lib.Dec.{eqb, ltb}
use lib.ListN.{length, get_or}
use Rattle.base.specs.Checks.{AllGood}
use Rattle.base.proofs.Verdicts.{whole-good}
use Rattle.netlist.specs.declared.Netlist.{Netlist}
use Rattle.netlist.specs.Checks.{numbers_good, net_checks}
use Rattle.netlist.proofs.Numbers.{within}
use Rattle.cycles.specs.Netlists.{width_of}
use Rattle.queues.specs.Found.{found}
use Rattle.queues.proofs.Arrays.{node_at}
use Rattle.cut.specs.declared.Cut.{Cut}
use Rattle.cut.specs.Checks.{cut_checks}
use Rattle.nets.specs.Net.{Net}
use Rattle.nets.specs.State.{State}
use Rattle.nets.specs.Actions.{feed, room, done, play}
use Rattle.nets.specs.Orders.{asked}
use Rattle.nets.specs.Calls.{answer_to}
use Rattle.nets.specs.Stored.{cells_of, used_of, flags_of, held_of, counts_of}
use Rattle.nets.specs.Networks.{network_of}
use Rattle.nets.proofs.Calls.{input-ends, answers_right}
use Rattle.nets.proofs.Goods.{good, few-queues, queues_are, depths}
use Rattle.nets.proofs.Ready.{feeds}
use Rattle.nets.proofs.Stores.{used_at, feed-cells, feed-used, feed-rest}
use Rattle.lanes.specs.Lanes.{push_cells, push_used}
use Rattle.plans.specs.declared.Plan.{Plan}
use Rattle.plans.specs.Plans.{plan_of}
use Rattle.lanes.specs.declared.Network.{Network}
use Rattle.spots.specs.Stores.{net_in, store_of, Given, net_of}
use Rattle.moves.specs.Moves.{feed_checked, feed_answer, feed_left}
use Rattle.moves.specs.Meaning.{feed_entry, FeedMeans, FeedKeeps}
use Rattle.moves.proofs.Answers.{feed-none}
use Rattle.moves.proofs.Asking.{left_by_lem, stores, again}

-- the second and third check matter only where the first holds
feed-same : (a b b' d d' : Bool) → (a ≡ true → b ≡ b') → (a ≡ true → d ≡ d') → feed_checked a b d ≡ feed_checked a b' d'
feed-same true b b' d d' f g = ap₂ (feed_checked true) (f refl) (g refl)
feed-same false b b' d d' f g = feed-none b d ∙ sym (feed-none b' d')

asked_checks : (N : Net) (s : State) (j x : ℕ) → answer_to N s (feed_entry j x) ≡ feed_checked (ltb j N.ins) (N.allow (N.node j) x) (room N s j)
unfolding answer_to feed_checked
asked_checks N s j x = refl

module _ (n : Netlist) (c : Cut) (g : AllGood (net_checks n)) (h : AllGood (cut_checks n c)) (limit : ℕ) (s : State) where
  abbrev net : Net
  net = network_of n c limit

  abbrev P : Plan
  P = plan_of n c (found n c.part) limit

  abbrev L : Network
  L = store_of s

  inputs_are : min P.inputs 512 ≡ net.ins
  unfolding plan_of found
  inputs_are = let e = queues_are n c limit in let f = few-queues n c g h in omega arith

  module _ (j : ℕ) (l : j < net.ins) where
    is_queue : j < net.queues
    is_queue = let e = queues_are n c limit in omega arith

    in_few : j < 512
    in_few = let f = few-queues n c g h in let q = is_queue in omega arith

    node_is : get_or P.node j 0 % 1024 ≡ net.node j
    unfolding plan_of
    node_is =
        let e : get_or (found n c.part).node j 0 ≡ net.node j = node_at n c.part j is_queue (few-queues n c g h) in
        let i = input-ends net (good n c g h limit) j l in
        let k : net.node j < n.nodes = (good n c g h limit).source_node j i.0 i.1 in
        let w = within n (whole-good (numbers_good n) g.0) in
        rw e (omega (arith, w.nodes))

    fits_is : (x : ℕ) → ltb x (2 ^ get_or P.width (get_or P.node j 0 % 1024) 0) ≡ net.allow (net.node j) x
    unfolding plan_of
    fits_is x = ap (λ i. ltb x (2 ^ width_of n i)) node_is

    room_is : ltb (get_or (used_of s) j 0) (get_or P.depth j 0) ≡ room net s j
    unfolding plan_of room
    room_is = ap (λ m. ltb m (net.depth j)) (used_at s j in_few)

    -- what a feed stores, where there is room
    module _ (x : ℕ) (short : length (s.queue j) < 16) where
      new-cells : push_cells (cells_of s) (used_of s) j x ≡ cells_of (done net s (feed j x))
      new-cells =
          let r : length (s.queue j) % 16 ≡ length (s.queue j) = omega arith in
          let a : j * 16 + length (s.queue j) ≡ 16 * j + length (s.queue j) = omega arith in
          rw (used_at s j in_few, r, a) (feed-cells net s j x short)

      new-used : push_used (used_of s) j ≡ used_of (done net s (feed j x))
      new-used =
          let r : length (s.queue j) % 16 ≡ length (s.queue j) = omega arith in
          rw (used_at s j in_few, r) (feed-used net s j x)

      new_is : net_in (push_cells (cells_of s) (used_of s) j x) (push_used (used_of s) j) (flags_of s) (held_of s) (counts_of s) ≡ store_of (done net s (feed j x))
      new_is =
          stores (done net s (feed j x)) (push_cells (cells_of s) (used_of s) j x) (push_used (used_of s) j) (flags_of s) (held_of s) (counts_of s) new-cells new-used
          (feed-rest net s j x)

  pub feed_answer_is : (j x : ℕ) → feed_answer P L j x ≡ answer_to net s (feed_entry j x)
  feed_answer_is j x =
      rw inputs_are
      (feed-same (ltb j net.ins) (ltb x (2 ^ get_or P.width (get_or P.node j 0 % 1024) 0)) (net.allow (net.node j) x) (ltb (get_or (used_of s) j 0) (get_or P.depth j 0)) (room net s j)
      (λ e. fits_is j (ltb-true j net.ins e) x) (λ e. room_is j (ltb-true j net.ins e))
      ∙ sym (asked_checks net s j x))

  pub feed_left_is : (j x : ℕ) → feed_left P L j x ≡ store_of (play net s (asked net (feed_entry j x)))
  unfolding feed_left asked
  feed_left_is j x =
      let new = net_in (push_cells (cells_of s) (used_of s) j x) (push_used (used_of s) j) (flags_of s) (held_of s) (counts_of s) in
      ap (λ a. cond (eqb a 0) new (store_of s)) (feed_answer_is j x)
      ∙ ap (λ b. cond b new (store_of s)) (answers_right net (good n c g h limit) s (feed_entry j x))
      ∙ left_by_lem net s (ltb j net.ins) (feed j x) new
      (λ b r. let l : j < net.ins = ltb-true j net.ins b in
      let d = depths n c g h j (is_queue j l) in
      new_is j l x (omega (arith, (feeds net s j x r).space, d.1)))

pub feed_means : FeedMeans
feed_means P L G j x = (
  ap₂ (λ P L. feed_answer P L j x) G.plan G.holds ∙ feed_answer_is G.n G.c G.net_good G.cut_good G.limit G.s j x,
  ap₂ (λ P L. feed_left P L j x) G.plan G.holds ∙ feed_left_is G.n G.c G.net_good G.cut_good G.limit G.s j x,
)

-- the network that a feed leaves, for the next call
abbrev pub fed-given : (P : Plan) (L : Network) (G : Given P L) (j x : ℕ) → Given P (feed_left P L j x)
fed-given P L G j x = again G (feed_left P L j x) (asked (net_of G) (feed_entry j x)) (feed_means P L G j x).1

pub feed_keeps : FeedKeeps
feed_keeps P L G j x = record { given = fed-given P L G j x; net_is = refl; cut_is = refl; limit_is = refl; state_is = refl }
