-- Firing a rule by its number is that entry of an order: the plan's numbers are the network's, so a number names the same rule, and each rule by itself is the
-- network's.
use mathlib.Core.Path.{◌≡◌, refl, sym, ◌∙◌, ap, ap₂}
use mathlib.Core.Bool.{Bool, true, false, cond}
use mathlib.Core.List.{[], ◌∷◌}
use mathlib.Core.Logic.{by_cases}
use Prim.Native.Nat.{ℕ, ◌+◌, ◌-◌, ◌^◌, ◌<◌, ◌≤◌, min}
use native.Mathlib.Decide.{dec_lt}
use native.Mathlib.Omega.{arith}
use borrow.Author.Tests.{lt-ltb, le-ltb}
use lib.Dec.{ltb}
use Rattle.base.specs.Checks.{AllGood, whole, verdict}
use Rattle.netlist.specs.declared.Netlist.{Netlist}
use Rattle.netlist.specs.Checks.{net_checks}
use Rattle.queues.specs.Found.{found}
use Rattle.cut.specs.declared.Cut.{Cut}
use Rattle.cut.specs.Checks.{cut_checks}
use Rattle.nets.specs.Lists.{bit}
use Rattle.nets.specs.Net.{Net}
use Rattle.nets.specs.State.{State}
use Rattle.nets.specs.Actions.{Action, put, finish, ready, step, play}
use Rattle.nets.specs.Rounds.{rule_count, rule}
use Rattle.nets.specs.Orders.{asked}
use Rattle.nets.specs.Calls.{answer_to}
use Rattle.nets.specs.Networks.{network_of}
use Rattle.nets.specs.Kept.{Kept}
use Rattle.nets.proofs.Goods.{few, few-queues, queues_are}
use Rattle.nets.proofs.Kept.{reached_is_kept}
use Rattle.nets.proofs.Rounds.{play-one, rule-low}
use Rattle.plans.specs.declared.Plan.{Plan}
use Rattle.plans.specs.Plans.{plan_of}
use Rattle.lanes.specs.declared.Network.{Network}
use Rattle.spots.specs.Stores.{store_of, net_of}
use Rattle.moves.specs.Meaning.{fire_entry}
use Rattle.moves.proofs.Asking.{again}
use Rattle.rounds.specs.Fires.{queue_of, put_alone, put_left, finish_left, firing, fire_answer, fire_left}
use Rattle.rounds.specs.Meaning.{FireMeans, FireKeeps}
use Rattle.rounds.proofs.Ways.{fire-put, fire-finish, fire-none}
use Rattle.rounds.proofs.Alone.{put_left_is, put_fired_is, finish_left_is, finish_fired_is}

-- an entry that fires, by whether there is such a rule and whether it is ready
fired_checks : Bool → Bool → ℕ
fired_checks there now = (verdict ((12, whole there) ∷ (14, whole now) ∷ [])).answer

fires-none : (b : Bool) → fired_checks false b ≡ 12
unfolding fired_checks verdict
fires-none b = refl

fires-now : (b : Bool) → firing (bit b) ≡ fired_checks true b
unfolding fired_checks verdict
fires-now true = refl
fires-now false = refl

asked-answer : (N : Net) (s : State) (r : ℕ) → answer_to N s (fire_entry r) ≡ fired_checks (ltb r (rule_count N)) (ready N s (rule N r))
unfolding answer_to fired_checks
asked-answer N s r = refl

asked_list : (N : Net) (r : ℕ) → asked N (fire_entry r) ≡ cond (ltb r (rule_count N)) (rule N r ∷ []) []
unfolding asked
asked_list N r = refl

rule-high : (N : Net) (r : ℕ) → N.queues ≤ N.ins + r → rule N r ≡ finish (N.ins + r - N.queues)
unfolding rule
rule-high N r l = rw (le-ltb (N.ins + r) N.queues l)

-- where there is such a rule
there_is : (N : Net) (s : State) (r : ℕ) (a : Action) (answer fired : ℕ) (M : Network) → r < rule_count N → rule N r ≡ a → answer ≡ firing fired → fired ≡ bit (ready N s a) → M ≡ store_of (step N s a)
    → (answer ≡ answer_to N s (fire_entry r)) × (M ≡ store_of (play N s (asked N (fire_entry r))))
there_is N s r a answer fired M l e x y m = (
  x ∙ ap firing (y ∙ ap (λ b. bit (ready N s b)) (sym e)) ∙ fires-now (ready N s (rule N r)) ∙ ap (λ b. fired_checks b (ready N s (rule N r))) (sym (lt-ltb r (rule_count N) l)) ∙ sym (asked-answer N s r),
  m ∙ ap (λ b. store_of (step N s b)) (sym e) ∙ ap store_of (sym (play-one N s (rule N r))) ∙ ap (λ b. store_of (play N s (cond b (rule N r ∷ []) []))) (sym (lt-ltb r (rule_count N) l)) ∙ ap (λ xs. store_of (play N s xs)) (sym (asked_list N r)),
)

-- where there is none
none_there : (N : Net) (s : State) (r : ℕ) → rule_count N ≤ r → (12 ≡ answer_to N s (fire_entry r)) × (store_of s ≡ store_of (play N s (asked N (fire_entry r))))
unfolding play
none_there N s r l = (
  sym (asked-answer N s r ∙ ap (λ b. fired_checks b (ready N s (rule N r))) (le-ltb r (rule_count N) l) ∙ fires-none (ready N s (rule N r))),
  sym (ap (λ xs. store_of (play N s xs)) (asked_list N r) ∙ ap (λ b. store_of (play N s (cond b (rule N r ∷ []) []))) (le-ltb r (rule_count N) l)),
)

module _ (n : Netlist) (c : Cut) (g : AllGood (net_checks n)) (h : AllGood (cut_checks n c)) (limit : ℕ) (small : limit < 2 ^ 32) (s : State) (K : Kept n (network_of n c limit) s) (r : ℕ) where
  abbrev net : Net
  net = network_of n c limit

  abbrev P : Plan
  P = plan_of n c (found n c.part) limit

  abbrev L : Network
  L = store_of s

  queue_is : queue_of P r ≡ net.ins + r
  unfolding plan_of found
  queue_is = let e = queues_are n c limit in let f = few-queues n c g h in omega arith

  queues-same : min P.queues 512 ≡ net.queues
  unfolding plan_of found
  queues-same = let f = few-queues n c g h in omega arith

  parts_same : min P.parts 32 ≡ net.parts
  unfolding plan_of found
  parts_same = let f = few n c g h in omega arith

  -- the number of rules
  rules_are : rule_count net ≡ net.queues - net.ins + net.parts
  unfolding rule_count
  rules_are = refl

  ins-fit : net.ins ≤ net.queues
  ins-fit = let e = queues_are n c limit in omega arith

  abbrev As : ℕ → Network → Type 0
  As answer M = (answer ≡ answer_to net s (fire_entry r)) × (M ≡ store_of (play net s (asked net (fire_entry r))))

  as_put : net.ins + r < net.queues → As (fire_answer P L r) (fire_left P L r)
  as_put l =
      let q : ℕ = net.ins + r in
      let b = rules_are in
      let i = ins-fit in
      let f = fire-put P L r q net.queues (sym queue_is) (sym queues-same) (put_alone P L q).fired (firing (put_alone P L q).fired) (put_left P L q) l refl refl refl in
      there_is net s r (put q) (fire_answer P L r) (put_alone P L q).fired (fire_left P L r) (omega arith) (rule-low net r l) (sym f.0)
      (put_fired_is n c g h limit small s K q (omega arith) l) (sym f.1 ∙ put_left_is n c g h limit small s K q (omega arith) l)

  as_finish : net.queues ≤ net.ins + r → net.ins + r - net.queues < net.parts → As (fire_answer P L r) (fire_left P L r)
  as_finish l u =
      let p : ℕ = net.ins + r - net.queues in
      let b = rules_are in
      let i = ins-fit in
      let f = fire-finish P L r (net.ins + r) net.queues (sym queue_is) (sym queues-same) l net.parts (sym parts_same) _ _ (finish_left P L p) u refl refl refl in
      there_is net s r (finish p) (fire_answer P L r) _ (fire_left P L r) (omega arith) (rule-high net r l) (sym f.0)
      (finish_fired_is n c g h limit small s K p u) (sym f.1 ∙ finish_left_is n c g h limit small s K p u)

  as_none : net.queues ≤ net.ins + r → net.parts ≤ net.ins + r - net.queues → As (fire_answer P L r) (fire_left P L r)
  as_none l u =
      let b = rules_are in
      let i = ins-fit in
      let f = fire-none P L r (net.ins + r) net.queues (sym queue_is) (sym queues-same) l net.parts (sym parts_same) u in
      let x = none_there net s r (omega arith) in
      (sym f.0 ∙ x.0, sym f.1 ∙ x.1)

  pub fire_is : As (fire_answer P L r) (fire_left P L r)
  fire_is =
      by_cases (dec_lt (net.ins + r) net.queues) as_put
      (λ l. by_cases (dec_lt (net.ins + r - net.queues) net.parts) (as_finish (omega arith)) (λ u. as_none (omega arith) (omega arith)))

pub fire_means : FireMeans
fire_means P L G r =
    let x = fire_is G.n G.c G.net_good G.cut_good G.limit G.small G.s (reached_is_kept G.n G.c G.net_good G.cut_good G.limit G.s G.reached) r in
    (ap₂ (λ P L. fire_answer P L r) G.plan G.holds ∙ x.0, ap₂ (λ P L. fire_left P L r) G.plan G.holds ∙ x.1)

pub fire_keeps : FireKeeps
fire_keeps P L G r =
    record { given = again G (fire_left P L r) (asked (net_of G) (fire_entry r)) (fire_means P L G r).1; net_is = refl; cut_is = refl; limit_is = refl; state_is = refl }
