-- All put rules of a round on the arrays are the network's, tried in their order: before each rule the nodes up to its own are evaluated, and channels stand in
-- node order, so that no rule needs fewer nodes than one before it.
use mathlib.Core.Path.{◌≡◌, refl, sym, ◌∙◌, ap, subst}
use mathlib.Core.Bool.{cond}
use mathlib.Core.Logic.{by_cases}
use Prim.Native.Nat.{ℕ, zero, suc, ◌+◌, ◌-◌, ◌<◌, ◌≤◌, min, max}
use native.Mathlib.Decide.{dec_lt}
use native.Mathlib.Nat.{add-zero}
use native.Mathlib.Omega.{arith}
use borrow.Author.Tests.{lt-ltb, le-ltb}
use lib.ListN.{get_or}
use Rattle.base.specs.Checks.{AllGood}
use Rattle.base.proofs.Verdicts.{whole-good}
use Rattle.netlist.specs.declared.Netlist.{Netlist}
use Rattle.netlist.specs.Checks.{numbers_good, net_checks}
use Rattle.netlist.proofs.Numbers.{Within, within}
use Rattle.cut.specs.declared.Cut.{Cut}
use Rattle.cut.specs.Checks.{cut_checks}
use Rattle.nets.specs.Lists.{bit, tab}
use Rattle.nets.specs.Net.{Net}
use Rattle.nets.specs.State.{State}
use Rattle.nets.specs.Actions.{put, ready, done, step, play}
use Rattle.nets.specs.Rounds.{rule, fired_by, after_rules}
use Rattle.nets.specs.Stored.{held_of, counts_of}
use Rattle.nets.specs.Networks.{network_of}
use Rattle.nets.proofs.Goods.{good, few-queues}
use Rattle.nets.proofs.InOrder.{channels_in_order}
use Rattle.nets.proofs.Facts.{split-on}
use Rattle.nets.proofs.Rounds.{play-next, fired-next, rule-low}
use Rattle.nets.proofs.Stores.{put_rest}
use Rattle.evals.specs.Passes.{vals_after, mets_after}
use Rattle.puts.specs.Puts.{Plan as Rules, Pass, needed, evaluated, put_tried, puts_after, puts_done}
use Rattle.spots.proofs.Passing.{Sees, see_nodes}
use Rattle.spots.proofs.Putting.{rules, Holds, Tried, put-turn, node-low, node-raw}

module _ (n : Netlist) (c : Cut) (g : AllGood (net_checks n)) (h : AllGood (cut_checks n c)) (limit : ℕ) where
  abbrev net : Net
  net = network_of n c limit

  sizes : Within n
  sizes = within n (whole-good (numbers_good n) g.0)

  -- where the channels end
  abbrev end : ℕ
  end = net.queues - net.outs

  abbrev pub asked : State → Rules
  asked s = rules n c g h limit s end

  -- the nodes up to k are evaluated
  pub see_up_to : (s : State) (m k : ℕ) (S : Pass) → m ≤ k → k ≤ n.nodes → Holds n c g h limit s m S → Holds n c g h limit s k (evaluated (asked s) k S)
  unfolding evaluated
  see_up_to s m k S l u H =
      let e : S.seen ≡ m = H.seen in
      let a : max m k ≡ k = omega arith in
      let d : min k 1024 - m ≡ k - m = omega (arith, sizes.nodes) in
      let z : m + (k - m) ≡ k = omega arith in
      record {
        seen = rw e a;
        cells = H.cells;
        used = H.used;
        flag = H.flag;
        sees = rw (e, d) (subst (λ x. Sees n c limit s x (vals_after (asked s).fields (asked s).held m (k - m) S.vals) (mets_after (asked s).fields m (k - m) S.mets)) z (see_nodes n c g h limit s m (k - m) S.vals S.mets (omega arith) H.sees));
      }

  -- a put changes neither what registers hold nor the counts
  pub same-rules : (s : State) (q : ℕ) → asked (step net s (put q)) ≡ asked s
  unfolding step
  same-rules s q =
      split-on (λ b. asked (cond b (done net s (put q)) s) ≡ asked s) (ready net s (put q))
      (λ _. let r = put_rest net s q in rw (r.0, r.1)) (λ _. refl)

  pub kept-fired : (L : Rules) (k : ℕ) (T : Pass) → (evaluated L k T).fired ≡ T.fired
  unfolding evaluated
  kept-fired L k T = refl

  -- ---- the nodes that the rule of a queue needs

  -- a queue that a part takes from stands before the outputs, and the other way round
  channel_side : (q : ℕ) → net.into q < net.parts → q < end
  channel_side q u = let r = (good n c g h limit).take_before q u in omega arith

  is_channel : (q : ℕ) → q < end → net.into q < net.parts
  is_channel q u = (good n c g h limit).before_take q (omega arith)

  module _ (s : State) (q : ℕ) (low : net.ins ≤ q) (high : q < net.queues) where
    abbrev pub nodes_for : ℕ
    nodes_for = needed (asked s) q

    raw-node : get_or (asked s).node q 0 ≡ net.node q
    raw-node = node-raw n c g h limit q low high

    needed-channel : q < end → nodes_for ≡ suc (net.node q)
    needed-channel u = rw (lt-ltb q end u, raw-node) (omega arith)

    needed-output : end ≤ q → nodes_for ≡ n.nodes
    needed-output u = rw (le-ltb q end u)

    need_cases : {A : Type 0} → (q < end → nodes_for ≡ suc (net.node q) → A) → (end ≤ q → nodes_for ≡ n.nodes → A) → A
    need_cases f v = by_cases (dec_lt q end) (λ u. f u (needed-channel u)) (λ u. v (omega arith) (needed-output (omega arith)))

    low-node : net.node q < n.nodes
    low-node = node-low n c g h limit q low high

    below : nodes_for ≤ n.nodes
    below = need_cases (λ u e. let a = low-node in omega arith) (λ u e. omega arith)

    has_node : net.node q < nodes_for
    has_node = need_cases (λ u e. omega arith) (λ u e. let a = low-node in omega arith)

    of_channel : net.into q < net.parts → nodes_for ≤ suc (net.node q)
    of_channel v = need_cases (λ u e. omega arith) (λ u e. let a = channel_side q v in let z : ⊥ = omega arith in absurd z)

    -- a rule by itself: the nodes it needs, and then the rule
    pub put_alone_lem : (S : Pass) → Holds n c g h limit s 0 S
        → Tried n c g h limit s q nodes_for (evaluated (asked s) nodes_for S) (put_tried (asked s) q (evaluated (asked s) nodes_for S))
    put_alone_lem S H =
        put-turn n c g h limit s q nodes_for end (evaluated (asked s) nodes_for S) (see_up_to s 0 nodes_for S (omega arith) below H) low high has_node below of_channel

  -- after d put rules
  pub record Phase (s : State) (S : Pass) (d : ℕ) (T : Pass) : Type 0 where
    pub seen : ℕ
    pub few : seen ≤ n.nodes
    pub ahead : (q : ℕ) → net.ins + d ≤ q → net.into q < net.parts → seen ≤ suc (net.node q)
    pub holds : Holds n c g h limit (after_rules net s d) seen T
    pub fired : T.fired ≡ S.fired + fired_by net s (tab d (rule net))
    pub rules-same : asked (after_rules net s d) ≡ asked s

  module _ (s : State) (S : Pass) where
    module _ (d : ℕ) (T : Pass) (p : Phase s S d T) (l : net.ins + d < net.queues) where
      abbrev q : ℕ
      q = net.ins + d

      abbrev t : State
      t = after_rules net s d

      abbrev k : ℕ
      k = needed (asked s) q

      in_ins : net.ins ≤ q
      in_ins = omega arith

      cases_of : {A : Type 0} → (q < end → k ≡ suc (net.node q) → A) → (end ≤ q → k ≡ n.nodes → A) → A
      cases_of = need_cases s q in_ins l

      above : p.seen ≤ k
      above = cases_of (λ u e. let a = p.ahead q (omega arith) (is_channel q u) in omega arith) (λ u e. let a = p.few in omega arith)

      still_ahead : (r : ℕ) → net.ins + suc d ≤ r → net.into r < net.parts → k ≤ suc (net.node r)
      still_ahead r a v =
          cases_of
          (λ u e. let o = channels_in_order n c g h q r in_ins (omega arith) (is_channel q u) v in omega arith)
          (λ u e. let b = channel_side r v in let z : ⊥ = omega arith in absurd z)

      phase_turn : Phase s S (suc d) (put_tried (asked s) q (evaluated (asked s) k T))
      phase_turn =
          let e : asked t ≡ asked s = p.rules-same in
          let H : Holds n c g h limit t k (evaluated (asked s) k T) = subst (λ R. Holds n c g h limit t k (evaluated R k T)) e (see_up_to t p.seen k T above (below s q in_ins l) p.holds) in
          let r = put-turn n c g h limit t q k end (evaluated (asked s) k T) H in_ins l (has_node s q in_ins l) (below s q in_ins l) (of_channel s q in_ins l) in
          let w : Tried n c g h limit t q k (evaluated (asked s) k T) (put_tried (asked s) q (evaluated (asked s) k T)) = subst (λ R. Tried n c g h limit t q k (evaluated (asked s) k T) (put_tried R q (evaluated (asked s) k T))) e r in
          let z : after_rules net s (suc d) ≡ step net t (put q) = play-next net s d (rule net) ∙ ap (step net t) (rule-low net d l) in
          record {
            seen = k;
            few = below s q in_ins l;
            ahead = still_ahead;
            holds = subst (λ x. Holds n c g h limit x k (put_tried (asked s) q (evaluated (asked s) k T))) (sym z) w.holds;
            fired =
                w.fired ∙ ap (λ f. f + bit (ready net t (put q))) (kept-fired (asked s) k T ∙ p.fired)
                ∙ (let y = fired-next net s d (rule net) in let x = ap (λ a. bit (ready net t a)) (rule-low net d l) in omega (arith, x, y));
            rules-same = ap asked z ∙ same-rules t q ∙ e;
          }

    phase_none : Holds n c g h limit s 0 S → Phase s S 0 S
    unfolding play tab fired_by
    phase_none H =
        record {
          seen = 0;
          few = omega arith;
          ahead = λ q a v. omega arith;
          holds = H;
          fired = sym (add-zero S.fired);
          rules-same = refl;
        }

    pub phases : Holds n c g h limit s 0 S → (d : ℕ) → net.ins + d ≤ net.queues → Phase s S d (puts_after (asked s) net.ins d S)
    unfolding puts_after
    phases H zero l = phase_none H
    phases H (suc d) l = phase_turn d (puts_after (asked s) net.ins d S) (phases H d (omega arith)) (omega arith)

    -- all of them, and then the other nodes
    pub record PutsDone (T : Pass) : Type 0 where
      pub holds : Holds n c g h limit (after_rules net s (net.queues - net.ins)) n.nodes T
      pub fired : T.fired ≡ S.fired + fired_by net s (tab (net.queues - net.ins) (rule net))
      pub held_same : held_of (after_rules net s (net.queues - net.ins)) ≡ held_of s
      pub counts_same : counts_of (after_rules net s (net.queues - net.ins)) ≡ counts_of s

    pub puts-done : Holds n c g h limit s 0 S → PutsDone (puts_done (asked s) net.ins net.queues n.nodes S)
    puts-done H =
        let d : ℕ = net.queues - net.ins in
        let f : net.ins + net.outs ≤ net.queues = (good n c g h limit).ends_fit in
        let e : min net.queues 512 - net.ins ≡ d = omega (arith, few-queues n c g h) in
        let p = phases H d (omega arith) in
        let T : Pass = puts_after (asked s) net.ins d S in
        let t : State = after_rules net s d in
        let z : Holds n c g h limit t n.nodes (evaluated (asked s) n.nodes T) = subst (λ R. Holds n c g h limit t n.nodes (evaluated R n.nodes T)) p.rules-same (see_up_to t p.seen n.nodes T p.few (omega arith) p.holds) in
        rw e (record {
          holds = z;
          fired = kept-fired (asked s) n.nodes T ∙ p.fired;
          held_same = ap (λ R. R.held) p.rules-same;
          counts_same = ap (λ R. R.count) p.rules-same;
        })
