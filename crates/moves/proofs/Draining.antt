-- A drain is its entry: output j has the queue that the network says, so the checks are the same, the token that is read is the oldest, and a token less on
-- the arrays is one less in the state.
use mathlib.Core.Path.{◌≡◌, refl, sym, ap, ap₂, ◌∙◌}
use mathlib.Core.Bool.{Bool, true, false, cond}
use mathlib.Core.List.{[], ◌∷◌}
use Prim.Native.Nat.{ℕ, ◌+◌, ◌*◌, ◌<◌, min}
use native.Mathlib.Omega.{arith}
use borrow.Author.Tests.{ltb-true, lt-ltb}
use lib.Dec.{eqb, ltb}
use lib.ListN.{length, get_or}
use Rattle.base.specs.Checks.{AllGood}
use Rattle.netlist.specs.declared.Netlist.{Netlist}
use Rattle.netlist.specs.Netlists.{output_of}
use Rattle.netlist.specs.Checks.{net_checks}
use Rattle.queues.specs.Queues.{output_at as outputFrom, channels_all, outputs_of}
use Rattle.queues.specs.Found.{found}
use Rattle.queues.proofs.Listed.{ones-all}
use Rattle.cut.specs.declared.Cut.{Cut}
use Rattle.cut.specs.Checks.{cut_checks}
use Rattle.nets.specs.Net.{Net}
use Rattle.nets.specs.State.{State, some_token}
use Rattle.nets.specs.Actions.{Action, drain, ready, done, play}
use Rattle.nets.specs.Orders.{output_queue, asked}
use Rattle.nets.specs.Calls.{answer_to, some_ready}
use Rattle.nets.specs.Stored.{cells_of, used_of, flags_of, held_of, counts_of}
use Rattle.nets.specs.Networks.{network_of}
use Rattle.nets.specs.Kept.{Kept}
use Rattle.nets.proofs.Calls.{answers_right}
use Rattle.nets.proofs.Facts.{split-on, token-length}
use Rattle.nets.proofs.Goods.{good, few-queues, queues_are, depths}
use Rattle.nets.proofs.Kept.{reached_is_kept}
use Rattle.nets.proofs.Ready.{drains}
use Rattle.nets.proofs.Stores.{head_at, used_at, drain-cells, drain-used, drain_rest}
use Rattle.lanes.specs.Lanes.{take_cells, take_used}
use Rattle.plans.specs.declared.Plan.{Plan}
use Rattle.plans.specs.Plans.{plan_of}
use Rattle.lanes.specs.declared.Network.{Network}
use Rattle.spots.specs.Stores.{net_in, store_of, Given, net_of}
use Rattle.spots.proofs.Marking.{some_is}
use Rattle.spots.proofs.Takings.{moved_same}
use Rattle.moves.specs.Moves.{output_at, drain_checked, output_on, drain_on, drain_left}
use Rattle.moves.specs.Meaning.{drain_entry, DrainMeans, DrainKeeps}
use Rattle.moves.proofs.Answers.{drain-none}
use Rattle.moves.proofs.Asking.{left_by_lem, stores, again}

asked_checks : (N : Net) (s : State) (j : ℕ) → answer_to N s (drain_entry j) ≡ drain_checked (ltb j N.outs) (some_token (s.queue (output_queue N j)))
unfolding answer_to drain_checked
asked_checks N s j = refl

module _ (n : Netlist) (c : Cut) (g : AllGood (net_checks n)) (h : AllGood (cut_checks n c)) (limit : ℕ) (s : State) (K : Kept n (network_of n c limit) s) where
  abbrev net : Net
  net = network_of n c limit

  abbrev P : Plan
  P = plan_of n c (found n c.part) limit

  abbrev L : Network
  L = store_of s

  -- the queue of output j; 512 where there is none
  queue_is : (j : ℕ) → output_on P j ≡ cond (ltb j net.outs) (output_queue net j) 512
  unfolding plan_of found output_at
  queue_is j =
      let e = queues_are n c limit in
      let f = few-queues n c g h in
      let m : min (length (outputs_of n c.part)) 512 ≡ n.outputs = omega (arith, ones-all (λ i. outputFrom c.part (output_of n i)) n.outputs) in
      rw m
      (split-on (λ b. ltb j n.outputs ≡ b → cond b (min (min net.ins 512 + min (length (channels_all n c.part)) 512 + j) 512) 512 ≡ cond b (output_queue net j) 512) (ltb j n.outputs)
      (λ _ t. let l : j < n.outputs = ltb-true j n.outputs t in omega arith) (λ _ _. refl) refl)

  module _ (j : ℕ) (l : j < net.outs) where
    abbrev q : ℕ
    q = output_queue net j

    is_queue : q < net.queues
    is_queue = let e = queues_are n c limit in omega arith

    in_few : q < 512
    in_few = let f = few-queues n c g h in let r = is_queue in omega arith

    -- what a drain leaves, where there is a token
    module _ (some : 0 < length (s.queue q)) where
      new-cells : take_cells (cells_of s) q ≡ cells_of (done net s (drain q))
      new-cells =
          let a : q * 16 + 15 ≡ 16 * q + 15 = omega arith in
          rw (a, moved_same (cells_of s) q 15) (drain-cells net s q in_few (omega (arith, K.fits q, (depths n c g h q is_queue).1)))

      new-used : take_used (used_of s) q ≡ used_of (done net s (drain q))
      new-used = rw (used_at s q in_few) (drain-used net s q some)

      new_is : net_in (take_cells (cells_of s) q) (take_used (used_of s) q) (flags_of s) (held_of s) (counts_of s) ≡ store_of (done net s (drain q))
      new_is =
          stores (done net s (drain q)) (take_cells (cells_of s) q) (take_used (used_of s) q) (flags_of s) (held_of s) (counts_of s) new-cells new-used (drain_rest net s q)

    on_queue : output_on P j ≡ q
    on_queue = queue_is j ∙ rw (lt-ltb j net.outs l)

    value-is : get_or (cells_of s) (output_on P j * 16) 0 ≡ get_or (s.queue q) 0 0
    value-is = let a : q * 16 ≡ 16 * q = omega arith in rw (on_queue, a) (head_at s q in_few)

  -- the answer, by any queue o that is output j's where there is one
  answer_on : (j o : ℕ) (b : Bool) → ltb j net.outs ≡ b → o ≡ cond b (output_queue net j) 512
      → drain_checked (ltb o 512) (ltb 0 (get_or (used_of s) o 0)) ≡ drain_checked b (some_token (s.queue (output_queue net j)))
  answer_on j o true e z =
      let l = in_few j (ltb-true j net.outs e) in
      rw (z, lt-ltb (output_queue net j) 512 l, used_at s (output_queue net j) l, some_is (s.queue (output_queue net j)))
  answer_on j o false e z = rw z (drain-none (ltb 0 (get_or (used_of s) 512 0)) ∙ sym (drain-none (some_token (s.queue (output_queue net j)))))

  pub drain_answer_is : (j : ℕ) → (drain_on P L j).answer ≡ answer_to net s (drain_entry j)
  drain_answer_is j = answer_on j (output_on P j) (ltb j net.outs) refl (queue_is j) ∙ sym (asked_checks net s j)

  -- a value where the drain is done
  value_by_lem : (b : Bool) (x y : ℕ) (a : Action) → (b ≡ true → x ≡ y) → cond (some_ready net s (cond b (a ∷ []) [])) x 0 ≡ cond (some_ready net s (cond b (a ∷ []) [])) y 0
  value_by_lem true x y a f = ap (λ x. cond (ready net s a) x 0) (f refl)
  value_by_lem false x y a f = refl

  pub drain_value_is : (j : ℕ) → (drain_on P L j).value ≡ cond (eqb (answer_to net s (drain_entry j)) 0) (get_or (s.queue (output_queue net j)) 0 0) 0
  unfolding asked
  drain_value_is j =
      rw (drain_answer_is j, answers_right net (good n c g h limit) s (drain_entry j))
      (value_by_lem (ltb j net.outs) (get_or (cells_of s) (output_on P j * 16) 0) (get_or (s.queue (output_queue net j)) 0 0) (drain (output_queue net j))
      (λ b. value-is j (ltb-true j net.outs b)))

  pub drain_left_is : (j : ℕ) → drain_left P L j ≡ store_of (play net s (asked net (drain_entry j)))
  unfolding drain_left asked
  drain_left_is j =
      let new : ℕ → Network = λ o. net_in (take_cells (cells_of s) o) (take_used (used_of s) o) (flags_of s) (held_of s) (counts_of s) in
      ap (λ a. cond (eqb a 0) (new (output_on P j)) (store_of s)) (drain_answer_is j)
      ∙ ap (λ b. cond b (new (output_on P j)) (store_of s)) (answers_right net (good n c g h limit) s (drain_entry j))
      ∙ left_by_lem net s (ltb j net.outs) (drain (output_queue net j)) (new (output_on P j))
      (λ b r. let l : j < net.outs = ltb-true j net.outs b in
      ap new (on_queue j l) ∙ new_is j l (token-length (s.queue (output_queue net j)) (drains net s (output_queue net j) r).full))

pub drain_means : DrainMeans
drain_means P L G j =
    let K = reached_is_kept G.n G.c G.net_good G.cut_good G.limit G.s G.reached in
    record {
      answer_is = ap₂ (λ P L. (drain_on P L j).answer) G.plan G.holds ∙ drain_answer_is G.n G.c G.net_good G.cut_good G.limit G.s K j;
      value-is = ap₂ (λ P L. (drain_on P L j).value) G.plan G.holds ∙ drain_value_is G.n G.c G.net_good G.cut_good G.limit G.s K j;
      left_is = ap₂ (λ P L. drain_left P L j) G.plan G.holds ∙ drain_left_is G.n G.c G.net_good G.cut_good G.limit G.s K j;
    }

-- the network that a drain leaves, for the next call
abbrev pub drained-given : (P : Plan) (L : Network) (G : Given P L) (j : ℕ) → Given P (drain_left P L j)
drained-given P L G j = again G (drain_left P L j) (asked (net_of G) (drain_entry j)) (drain_means P L G j).left_is

pub drain_keeps : DrainKeeps
drain_keeps P L G j = record { given = drained-given P L G j; net_is = refl; cut_is = refl; limit_is = refl; state_is = refl }
