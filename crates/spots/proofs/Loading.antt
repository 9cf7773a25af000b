-- What a round starts from: each queue's oldest token behind the nodes' places, and nothing found of any node yet.
use mathlib.Core.Path.{◌≡◌, refl, sym, ◌∙◌, ap}
use mathlib.Core.Bool.{Bool, true, false}
use mathlib.Core.List.{List}
use mathlib.Core.Logic.{by_cases, ◌≢◌}
use Prim.Native.Nat.{ℕ, zero, suc, ◌+◌, ◌*◌, ◌<◌, ◌≤◌}
use native.Mathlib.Decide.{dec_lt, ℕ_discrete}
use native.Mathlib.Omega.{arith}
use lib.Dec.{ltb}
use lib.ListN.{length, get_or, length-set}
use lib.Seq.{get_or-set_same, get_or-set_other}
use Rattle.base.specs.Checks.{AllGood}
use Rattle.netlist.specs.declared.Netlist.{Netlist}
use Rattle.netlist.specs.Checks.{net_checks}
use Rattle.cut.specs.declared.Cut.{Cut}
use Rattle.cut.specs.Checks.{cut_checks}
use Rattle.nets.specs.Net.{Net}
use Rattle.nets.specs.State.{State, some_token}
use Rattle.nets.specs.Stored.{cells_of, used_of, flags_of}
use Rattle.nets.specs.Networks.{network_of}
use Rattle.nets.specs.Kept.{Kept}
use Rattle.nets.proofs.Goods.{few-queues}
use Rattle.nets.proofs.Stores.{head_at, used_at}
use Rattle.nets.proofs.Turns.{right-none}
use Rattle.evals.specs.Passes.{tokens_in, tokens_there}
use Rattle.plans.specs.Plans.{nowhere}
use Rattle.puts.specs.Puts.{mk_pass}
use Rattle.spots.proofs.Passing.{Sees}
use Rattle.spots.proofs.Putting.{Holds}
use Rattle.spots.proofs.Marking.{some_is}

module _ (cells : List ℕ) (vals : List ℕ) where
  tokens-long : (n : ℕ) → length (tokens_in cells n vals) ≡ length vals
  unfolding tokens_in
  tokens-long zero = refl
  tokens-long (suc n) = length-set (tokens_in cells n vals) (1024 + n) (get_or cells (n * 16) 0) ∙ tokens-long n

  tokens-other : (n j : ℕ) → ((q : ℕ) → q < n → j ≢ 1024 + q) → get_or (tokens_in cells n vals) j 0 ≡ get_or vals j 0
  unfolding tokens_in
  tokens-other zero j h = refl
  tokens-other (suc n) j h = get_or-set_other (tokens_in cells n vals) (1024 + n) j (get_or cells (n * 16) 0) 0 (h n (omega arith)) ∙ tokens-other n j (λ q u. h q (omega arith))

  tokens-own : (n q : ℕ) → 1024 + n ≤ length vals → q < n → get_or (tokens_in cells n vals) (1024 + q) 0 ≡ get_or cells (q * 16) 0
  unfolding tokens_in
  tokens-own zero q h l = let z : ⊥ = omega arith in absurd z
  tokens-own (suc n) q h l =
      by_cases (ℕ_discrete q n)
      (λ e. rw e (get_or-set_same (tokens_in cells n vals) (1024 + n) (get_or cells (n * 16) 0) 0 (rw (tokens-long n) (omega arith))))
      (λ ne. get_or-set_other (tokens_in cells n vals) (1024 + n) (1024 + q) (get_or cells (n * 16) 0) 0 (λ z. ne (omega arith)) ∙ tokens-own n q (omega arith) (let y : q ≢ n = ne in omega arith))

module _ (used : List ℕ) (mets : List Bool) where
  there-long : (n : ℕ) → length (tokens_there used n mets) ≡ length mets
  unfolding tokens_there
  there-long zero = refl
  there-long (suc n) = length-set (tokens_there used n mets) (1024 + n) (ltb 0 (get_or used n 0)) ∙ there-long n

  there-other : (n j : ℕ) → ((q : ℕ) → q < n → j ≢ 1024 + q) → get_or (tokens_there used n mets) j false ≡ get_or mets j false
  unfolding tokens_there
  there-other zero j h = refl
  there-other (suc n) j h = get_or-set_other (tokens_there used n mets) (1024 + n) j (ltb 0 (get_or used n 0)) false (h n (omega arith)) ∙ there-other n j (λ q u. h q (omega arith))

  there-own : (n q : ℕ) → 1024 + n ≤ length mets → q < n → get_or (tokens_there used n mets) (1024 + q) false ≡ ltb 0 (get_or used q 0)
  unfolding tokens_there
  there-own zero q h l = let z : ⊥ = omega arith in absurd z
  there-own (suc n) q h l =
      by_cases (ℕ_discrete q n)
      (λ e. rw e (get_or-set_same (tokens_there used n mets) (1024 + n) (ltb 0 (get_or used n 0)) false (rw (there-long n) (omega arith))))
      (λ ne. get_or-set_other (tokens_there used n mets) (1024 + n) (1024 + q) (ltb 0 (get_or used n 0)) false (λ z. ne (omega arith)) ∙ there-own n q (omega arith) (let y : q ≢ n = ne in omega arith))

-- the two lists as they are before: nothing behind the nodes, and the place that is no operand's there
pub record Blank (vals : List ℕ) (mets : List Bool) : Type 0 where
  pub long_vals : length vals ≡ 2048
  pub long_mets : length mets ≡ 2048
  pub no_token : (q : ℕ) → q < 512 → get_or vals (1024 + q) 0 ≡ 0
  pub none_there : (q : ℕ) → q < 512 → get_or mets (1024 + q) false ≡ false
  pub none : get_or mets nowhere false ≡ true

module _ (n : Netlist) (c : Cut) (g : AllGood (net_checks n)) (h : AllGood (cut_checks n c)) (limit : ℕ) (s : State) (K : Kept n (network_of n c limit) s) (vals : List ℕ) (mets : List Bool) (B : Blank vals mets) where
  abbrev net : Net
  net = network_of n c limit

  few : net.queues ≤ 512
  few = few-queues n c g h

  pub seen_first : Sees n c limit s 0 (tokens_in (cells_of s) net.queues vals) (tokens_there (used_of s) net.queues mets)
  seen_first =
      let f = few in
      record {
        long_vals = tokens-long (cells_of s) vals net.queues ∙ B.long_vals;
        long_mets = there-long (used_of s) mets net.queues ∙ B.long_mets;
        tokens = λ q u.
            by_cases (dec_lt q net.queues)
            (λ l. let a : q * 16 ≡ 16 * q = omega arith in
            tokens-own (cells_of s) vals net.queues q (omega (arith, B.long_vals)) l ∙ ap (λ j. get_or (cells_of s) j 0) a ∙ head_at s q u)
            (λ l. tokens-other (cells_of s) vals net.queues (1024 + q) (λ r v z. omega arith) ∙ B.no_token q u ∙ sym (ap (λ x. get_or x 0 0) (K.empty q (omega arith))));
        there = λ q u.
            by_cases (dec_lt q net.queues)
            (λ l. there-own (used_of s) mets net.queues q (omega (arith, B.long_mets)) l ∙ ap (ltb 0) (used_at s q u) ∙ some_is (s.queue q))
            (λ l. there-other (used_of s) mets net.queues (1024 + q) (λ r v z. omega arith) ∙ B.none_there q u ∙ sym (ap some_token (K.empty q (omega arith))));
        none = there-other (used_of s) mets net.queues nowhere (λ r v z. omega arith) ∙ B.none;
        right = right-none net s (λ x. get_or (tokens_in (cells_of s) net.queues vals) x 0) (λ x. get_or (tokens_there (used_of s) net.queues mets) x false);
      }

  -- the pass that a round starts with
  pub holds-first : Holds n c g h limit s 0 (mk_pass 0 0 (cells_of s) (used_of s) (flags_of s) (tokens_in (cells_of s) net.queues vals) (tokens_there (used_of s) net.queues mets))
  holds-first = record { seen = refl; cells = refl; used = refl; flag = refl; sees = seen_first }
