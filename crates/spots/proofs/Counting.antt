-- What marked Finishes leave in the registers and in the counts is what they leave in the state: a register takes what was found for its operand, and each
-- marked part counts one cycle.
use mathlib.Core.Path.{◌≡◌, refl, sym, ◌∙◌, ap}
use mathlib.Core.Bool.{Bool, true, false, cond, ◌&&◌}
use mathlib.Core.List.{List}
use mathlib.Core.Logic.{by_cases}
use Prim.Native.Nat.{ℕ, suc, ◌+◌, ◌%◌, ◌^◌, ◌<◌, ◌≤◌, min}
use native.Mathlib.Decide.{dec_lt}
use native.Mathlib.Omega.{arith}
use borrow.Author.Tests.{eqb-true, ne_eqb, lt-ltb, le-ltb}
use lib.ListN.{length, get_or}
use lib.Seq.{ext_get_or}
use Rattle.base.specs.Checks.{AllGood}
use Rattle.base.specs.Lists.{fill}
use Rattle.base.proofs.Fill.{fill_at, fill-past, fill-length}
use Rattle.base.proofs.Verdicts.{whole-good}
use Rattle.codes.specs.Rows.{is_in}
use Rattle.netlist.specs.declared.Netlist.{Netlist}
use Rattle.netlist.specs.Netlists.{record_of}
use Rattle.netlist.specs.Checks.{numbers_good, net_checks}
use Rattle.netlist.proofs.Numbers.{Within, within}
use Rattle.cycles.specs.Steps.{register_at}
use Rattle.queues.specs.Found.{found}
use Rattle.cut.specs.declared.Cut.{Cut}
use Rattle.cut.specs.Checks.{cut_checks}
use Rattle.nets.specs.Lists.{tab}
use Rattle.nets.specs.Net.{Net}
use Rattle.nets.specs.State.{State, present}
use Rattle.nets.specs.Actions.{next_of}
use Rattle.nets.specs.Stored.{held_of, counts_of}
use Rattle.nets.specs.Networks.{network_of}
use Rattle.nets.proofs.Facts.{split-on}
use Rattle.nets.proofs.Goods.{good, few}
use Rattle.nets.proofs.Passed.{one_operand, next-register, next-other, operand_seen}
use Rattle.nets.proofs.Ready.{Finishes}
use Rattle.nets.proofs.Stores.{held_at, held-long, count_at, counts-long}
use Rattle.nets.proofs.Tables.{length-tab, get_d_tab}
use Rattle.finishes.specs.Finishes.{part_in, spot_in, next_held, next_count}
use Rattle.plans.specs.declared.Plan.{Plan}
use Rattle.plans.specs.Plans.{plan_of}
use Rattle.spots.proofs.Views.{field_a}
use Rattle.spots.proofs.Passing.{Sees}
use Rattle.spots.proofs.Finishing.{at_once}

same-both : {A : Type 0} (b : Bool) (x y : A) → x ≡ y → cond b x y ≡ y
same-both true x y e = e
same-both false x y e = refl

module _ (n : Netlist) (c : Cut) (g : AllGood (net_checks n)) (h : AllGood (cut_checks n c)) (limit : ℕ) where
  abbrev net : Net
  net = network_of n c limit

  abbrev P : Plan
  P = plan_of n c (found n c.part) limit

  sizes : Within n
  sizes = within n (whole-good (numbers_good n) g.0)

  module _ (s : State) (fin : List Bool) (F : ℕ → Bool) (is : (p : ℕ) → p < 64 → get_or fin p false ≡ F p) (all : (p : ℕ) → F p ≡ true → Finishes net s p) where
    part-marked : (i : ℕ) → i < n.nodes → get_or fin (part_in P.part i) false ≡ F (net.part i)
    unfolding plan_of
    part-marked i l =
        let a = (good n c g h limit).part_ok i l in
        let f = few n c g h in
        let z : net.part i % 64 ≡ net.part i = omega arith in
        rw z (is (net.part i) (omega arith))

    module _ (vals : List ℕ) (mets : List Bool) (E : Sees n c limit s n.nodes vals mets) where
      -- a register takes its operand's value
      taken-value : (i : ℕ) → i < n.nodes → register_at n i ≡ true → get_or vals (spot_in P.ra i) 0 ≡ next_of net s (net.part i) i (net.draw.kind i)
      taken-value i l e =
          let o : is_in (record_of n i).code ≡ false = ne_eqb (record_of n i).code 0 (λ z. let y = eqb-true (record_of n i).code 2 e in omega arith) in
          let b = (operand_seen n c g h limit i l e).is_node in
          field_a n c g h limit (λ j. get_or vals j 0) (λ q. get_or (s.queue q) 0 0) E.tokens i l o (one_operand (record_of n i).code (eqb-true (record_of n i).code 2 e))
          ∙ next-register n c g h limit s (λ j. get_or vals j 0) i l e (λ d. E.right.value (record_of n i).a b ∙ ap (λ p. present net s p (record_of n i).a) d)

      held-here : (i : ℕ) → i < n.nodes → next_held P.code P.ra P.part vals fin (held_of s) i ≡ cond (F (net.part i)) (next_of net s (net.part i) i (net.draw.kind i)) (s.held i)
      unfolding plan_of
      held-here i l =
          rw (part-marked i l, held_at s i (omega (arith, sizes.nodes)))
          (split-on
          (λ b. register_at n i ≡ b → cond (b && F (net.part i)) (get_or vals (spot_in P.ra i) 0) (s.held i) ≡ cond (F (net.part i)) (next_of net s (net.part i) i (net.draw.kind i)) (s.held i))
          (register_at n i)
          (λ _ e. ap (λ x. cond (F (net.part i)) x (s.held i)) (taken-value i l e))
          (λ _ e. sym (same-both (F (net.part i)) (next_of net s (net.part i) i (net.draw.kind i)) (s.held i) (next-other n c g h limit s (net.part i) i e))) refl)

      abbrev next : ℕ → ℕ
      next = next_held P.code P.ra P.part vals fin (held_of s)

      pub held-left : fill next (min n.nodes 1024) (held_of s) ≡ held_of (at_once net s F)
      unfolding held_of
      held-left =
          let e : min n.nodes 1024 ≡ n.nodes = omega (arith, sizes.nodes) in
          let long : n.nodes ≤ length (held_of s) = rw (held-long s) sizes.nodes in
          let u : State = at_once net s F in
          rw e
          (ext_get_or 0 (fill next n.nodes (held_of s)) (tab 1024 u.held)
          (fill-length next n.nodes (held_of s) ∙ held-long s ∙ sym (length-tab 1024 u.held))
          (λ i l. by_cases (dec_lt i n.nodes)
          (λ k. fill_at next n.nodes i (held_of s) k long ∙ held-here i k
          ∙ sym (get_d_tab 1024 u.held i 0 (omega (arith, sizes.nodes)) ∙ ap (λ b. cond (b && F (net.part i)) (next_of net s (net.part i) i (net.draw.kind i)) (s.held i)) (lt-ltb i n.nodes k)))
          (λ k. let m : i < 1024 = rw (fill-length next n.nodes (held_of s) ∙ held-long s) at l in
          fill-past next n.nodes i (held_of s) (omega arith) ∙ held_at s i m
          ∙ sym (get_d_tab 1024 u.held i 0 m ∙ ap (λ b. cond (b && F (net.part i)) (next_of net s (net.part i) i (net.draw.kind i)) (s.held i)) (le-ltb i n.nodes (omega arith))))))

    -- the counts, of the parts below hi
    module _ (small : limit < 2 ^ 32) (hi : ℕ) (top : hi ≤ 32) (below : (p : ℕ) → F p ≡ true → p < hi) where
      abbrev count : ℕ → ℕ
      count = next_count fin (counts_of s)

      count-here : (p : ℕ) → p < 32 → count p ≡ cond (F p) (suc (s.count p)) (s.count p)
      count-here p l =
          rw (is p (omega arith), count_at s p l)
          (split-on (λ b. F p ≡ b → cond b ((s.count p + 1) % 2 ^ 32) (s.count p) ≡ cond b (suc (s.count p)) (s.count p)) (F p)
          (λ _ e. let a = (all p e).limited in omega arith) (λ _ _. refl) refl)

      not-marked : (p : ℕ) → hi ≤ p → F p ≡ false
      not-marked p l = split-on (λ b. F p ≡ b → b ≡ false) (F p) (λ _ e. let a = below p e in let z : ⊥ = omega arith in absurd z) (λ _ _. refl) refl

      pub counts-left : fill count (min hi 32) (counts_of s) ≡ counts_of (at_once net s F)
      unfolding counts_of
      counts-left =
          let e : min hi 32 ≡ hi = omega arith in
          let long : hi ≤ length (counts_of s) = rw (counts-long s) top in
          let u : State = at_once net s F in
          rw e
          (ext_get_or 0 (fill count hi (counts_of s)) (tab 32 u.count)
          (fill-length count hi (counts_of s) ∙ counts-long s ∙ sym (length-tab 32 u.count))
          (λ p l. let m : p < 32 = rw (fill-length count hi (counts_of s) ∙ counts-long s) at l in
          by_cases (dec_lt p hi)
          (λ k. fill_at count hi p (counts_of s) k long ∙ count-here p m ∙ sym (get_d_tab 32 u.count p 0 m))
          (λ k. fill-past count hi p (counts_of s) (omega arith) ∙ count_at s p m
          ∙ sym (get_d_tab 32 u.count p 0 m ∙ ap (λ b. cond b (suc (s.count p)) (s.count p)) (not-marked p (omega arith))))))
