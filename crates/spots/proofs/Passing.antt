-- The put rules of a round on the arrays are those of the network, one after the other. What is found for the nodes so far is right in the present state, what
-- is found for the queues are their oldest tokens, and each turn keeps both: a node evaluated, a rule tried.
use mathlib.Core.Path.{◌≡◌, refl, sym, ◌∙◌, ap, subst}
use mathlib.Core.Bool.{Bool, true, false, cond}
use mathlib.Core.List.{List}
use mathlib.Core.Logic.{by_cases}
use Prim.Native.Nat.{ℕ, zero, suc, ◌+◌, ◌<◌, ◌≤◌}
use native.Mathlib.Decide.{ℕ_discrete}
use native.Mathlib.Nat.{add-zero}
use native.Mathlib.Omega.{arith}
use borrow.Author.Tests.{eq-eqb, ne_eqb}
use lib.ListN.{length, get_or, set, length-set}
use lib.Seq.{get_or-set_same, get_or-set_other}
use Rattle.base.specs.Checks.{AllGood}
use Rattle.base.proofs.Verdicts.{whole-good}
use Rattle.netlist.specs.declared.Netlist.{Netlist}
use Rattle.netlist.specs.Checks.{numbers_good, net_checks}
use Rattle.netlist.proofs.Numbers.{Within, within}
use Rattle.queues.specs.Found.{found}
use Rattle.cut.specs.declared.Cut.{Cut}
use Rattle.cut.specs.Checks.{cut_checks}
use Rattle.nets.specs.Lists.{at}
use Rattle.nets.specs.Net.{Net}
use Rattle.nets.specs.State.{State, some_token}
use Rattle.nets.specs.Stored.{held_of}
use Rattle.nets.specs.Networks.{network_of}
use Rattle.nets.specs.Passed.{value_by, met_by}
use Rattle.nets.proofs.Turns.{Right, right-node}
use Rattle.evals.specs.Passes.{Fields, value_now, met_now, vals_after, mets_after, fields_of}
use Rattle.plans.specs.declared.Plan.{Plan}
use Rattle.plans.specs.Plans.{nowhere, plan_of}
use Rattle.spots.proofs.Views.{value_found, met-found}

-- what is found, for a state: the queues' oldest tokens, and the values and met needs of the first m nodes, each in its own part
pub record Sees (n : Netlist) (c : Cut) (limit : ℕ) (s : State) (m : ℕ) (vals : List ℕ) (mets : List Bool) : Type 0 where
  pub long_vals : length vals ≡ 2048
  pub long_mets : length mets ≡ 2048
  pub tokens : (q : ℕ) → q < 512 → get_or vals (1024 + q) 0 ≡ get_or (s.queue q) 0 0
  pub there : (q : ℕ) → q < 512 → get_or mets (1024 + q) false ≡ some_token (s.queue q)
  pub none : get_or mets nowhere false ≡ true
  pub right : Right (network_of n c limit) m s (λ x. get_or vals x 0) (λ x. get_or mets x false)

-- an element stored, as a function changed
set_is : {A : Type 0} (l : List A) (i : ℕ) (x d : A) → i < length l → (a : ℕ) → get_or (set l i x) a d ≡ at i x (λ j. get_or l j d) a
set_is l i x d h a =
    by_cases (ℕ_discrete a i)
    (λ e. rw e (get_or-set_same l i x d h ∙ sym (ap (λ b. cond b x (get_or l i d)) (eq-eqb i i refl))))
    (λ e. get_or-set_other l i a x d e ∙ sym (ap (λ b. cond b x (get_or l a d)) (ne_eqb a i e)))

module _ (n : Netlist) (c : Cut) (g : AllGood (net_checks n)) (h : AllGood (cut_checks n c)) (limit : ℕ) where
  abbrev net : Net
  net = network_of n c limit

  abbrev P : Plan
  P = plan_of n c (found n c.part) limit

  abbrev F : Fields
  F = fields_of P

  sizes : Within n
  sizes = within n (whole-good (numbers_good n) g.0)

  -- one node more
  see_node : (s : State) (i : ℕ) (vals : List ℕ) (mets : List Bool) → i < n.nodes → Sees n c limit s i vals mets
      → Sees n c limit s (suc i) (set vals i (value_now F (held_of s) vals i)) (set mets i (met_now F mets i))
  see_node s i vals mets l E =
      let v : value_now F (held_of s) vals i ≡ value_by n c.part s (λ x. get_or vals x 0) i = value_found n c g h limit s vals E.tokens i l in
      let b : met_now F mets i ≡ met_by n c.part s (λ x. get_or mets x false) i = met-found n c g h limit s mets E.there E.none i l in
      let R = right-node n c g h limit s i (λ x. get_or vals x 0) (λ x. get_or mets x false) E.right l in
      let small : i < 1024 = omega (arith, sizes.nodes) in
      record {
        long_vals = length-set vals i (value_now F (held_of s) vals i) ∙ E.long_vals;
        long_mets = length-set mets i (met_now F mets i) ∙ E.long_mets;
        tokens = λ q u. get_or-set_other vals i (1024 + q) (value_now F (held_of s) vals i) 0 (omega arith) ∙ E.tokens q u;
        there = λ q u. get_or-set_other mets i (1024 + q) (met_now F mets i) false (omega arith) ∙ E.there q u;
        none = get_or-set_other mets i nowhere (met_now F mets i) false (omega arith) ∙ E.none;
        right =
            record {
              value = λ a u. set_is vals i (value_now F (held_of s) vals i) 0 (omega (arith, E.long_vals)) a ∙ ap (λ y. at i y (λ x. get_or vals x 0) a) v ∙ R.value a u;
              needs = λ a u. set_is mets i (met_now F mets i) false (omega (arith, E.long_mets)) a ∙ ap (λ y. at i y (λ x. get_or mets x false) a) b ∙ R.needs a u;
            };
      }

  -- d nodes more
  pub see_nodes : (s : State) (lo d : ℕ) (vals : List ℕ) (mets : List Bool) → lo + d ≤ n.nodes → Sees n c limit s lo vals mets
      → Sees n c limit s (lo + d) (vals_after F (held_of s) lo d vals) (mets_after F lo d mets)
  unfolding vals_after mets_after
  see_nodes s lo zero vals mets l E = subst (λ m. Sees n c limit s m vals mets) (sym (add-zero lo)) E
  see_nodes s lo (suc d) vals mets l E =
      let e : lo + suc d ≡ suc (lo + d) = omega arith in
      subst (λ m. Sees n c limit s m (vals_after F (held_of s) lo (suc d) vals) (mets_after F lo (suc d) mets)) (sym e)
      (see_node s (lo + d) (vals_after F (held_of s) lo d vals) (mets_after F lo d mets) (omega arith) (see_nodes s lo d vals mets (omega arith) E))
