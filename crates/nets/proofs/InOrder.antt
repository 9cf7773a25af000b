-- The put rules of a round stand in node order, channels before outputs, so that one pass over the nodes serves a round of a sheet's network. By the places of
-- channels, which rise with their nodes.
use mathlib.Core.Path.{◌≡◌, sym, ap, ◌∙◌, subst}
use mathlib.Core.Logic.{◌⊎◌, inl, ⊎_elim, by_cases}
use Prim.Native.Nat.{ℕ, ◌+◌, ◌≤◌, ◌<◌}
use native.Mathlib.Omega.{arith}
use native.Mathlib.Decide.{dec_lt}
use lib.ListN.{length}
use Rattle.base.specs.Checks.{AllGood}
use Rattle.netlist.specs.declared.Netlist.{Netlist}
use Rattle.netlist.specs.Checks.{net_checks}
use Rattle.queues.specs.Lists.{listed}
use Rattle.queues.specs.Queues.{parts_of, inputs_of, channels_to, queue_at, queues_of}
use Rattle.queues.specs.Order.{OfInput, OfChannel, OfOutput}
use Rattle.queues.proofs.Order.{each-channel, each-output, each-queue, channels-rise}
use Rattle.cut.specs.declared.Cut.{Cut}
use Rattle.cut.specs.Checks.{cut_checks}
use Rattle.nets.specs.Net.{Net, Good}
use Rattle.nets.specs.State.{State}
use Rattle.nets.specs.Rounds.{after_rules}
use Rattle.nets.specs.Networks.{queue_of, network_of}
use Rattle.nets.proofs.Goods.{input-low, into-queue, few, good}
use Rattle.nets.proofs.OnePass.{Alike, steady}

module _ (n : Netlist) (c : Cut) (g : AllGood (net_checks n)) (h : AllGood (cut_checks n c)) where
  -- a queue behind the inputs that a part takes from is a channel
  pub is_channel : (q : ℕ) → length (inputs_of n c.part) ≤ q → (queue_of n c.part q).into < parts_of n c.part → OfChannel n c.part q
  is_channel q a i =
      ⊎_elim
      (λ (o : OfInput n c.part q). let l = input-low n c.part q o in let z : ⊥ = omega arith in absurd z)
      (λ (r : OfChannel n c.part q ⊎ OfOutput n c.part q). ⊎_elim (λ (o : OfChannel n c.part q). o)
      (λ (o : OfOutput n c.part q).
      let e = ap (λ x. x.into) (ap (queue_at (queues_of n c.part)) o.place ∙ (each-output n c.part o.output o.within).1) in
      let f = few n c g h in
      let z : ⊥ = omega arith in
      absurd z)
      r)
      (each-queue n c.part q (into-queue n c g h q i))

  node_is : (q : ℕ) (o : OfChannel n c.part q) → (queue_of n c.part q).node ≡ o.node
  node_is q o = ap (λ x. x.node) (ap (queue_at (queues_of n c.part)) o.place ∙ (each-channel n c.part o.node o.reader o.within o.known o.cross).1)

  -- behind the channels of the nodes before i there are only channels of i and of nodes after it
  pub later-channel : (i q : ℕ) → length (inputs_of n c.part) + length (channels_to n c.part i) ≤ q → (queue_of n c.part q).into < parts_of n c.part → i ≤ (queue_of n c.part q).node
  unfolding listed
  later-channel i q a u =
      let o = is_channel q (omega arith) u in
      let e = node_is q o in
      by_cases (dec_lt o.node i)
      (λ l. let r = channels-rise n c.part o.node o.reader i 0 o.known o.cross (inl l) in let z : ⊥ = omega (arith, o.place) in absurd z)
      (λ l. omega arith)

  pub channels_in_order : (q r : ℕ) → length (inputs_of n c.part) ≤ q → q ≤ r → (queue_of n c.part q).into < parts_of n c.part → (queue_of n c.part r).into < parts_of n c.part
      → (queue_of n c.part q).node ≤ (queue_of n c.part r).node
  channels_in_order q r a l u v =
      let o = is_channel q a u in
      let w = is_channel r (omega arith) v in
      let e = node_is q o in
      let f = node_is r w in
      by_cases (dec_lt w.node o.node)
      (λ b. let k = channels-rise n c.part w.node w.reader o.node o.reader w.known w.cross (inl b) in let z : ⊥ = omega (arith, o.place, w.place) in absurd z)
      (λ b. omega arith)

  -- In a round, a node's value and met needs in its own part are the same from the time when all channels of the nodes before it were tried until the first Finish.
  -- Only here is the rank a node's number.
  pub one_pass : (limit : ℕ) (s : State) (i r r' : ℕ) → i < n.nodes → length (channels_to n c.part i) ≤ r → r ≤ r'
      → length (inputs_of n c.part) + r' ≤ length (queues_of n c.part)
      → Alike (network_of n c limit) (after_rules (network_of n c limit) s r) (after_rules (network_of n c limit) s r') i
  one_pass limit s i r r' l a b u =
      let N : Net = network_of n c limit in
      let G : Good N = good n c g h limit in
      steady N G s i r r' l (λ q v w e. later-channel i q (omega arith) (subst (λ x. x < N.parts) (sym e) (G.part_ok i l))) b u
