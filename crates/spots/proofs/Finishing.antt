-- The Finish rules of a round, tried one after the other, leave what all that are ready leave at once: none changes what another looks at.
use mathlib.Core.Path.{◌≡◌, refl, sym, ◌∙◌, ap, ap₂, subst, fun_ext}
use mathlib.Core.Bool.{Bool, true, false, cond, not, ◌&&◌, and-false}
use mathlib.Core.List.{List, tail, Memᴰ}
use mathlib.Core.Logic.{by_cases, ◌≢◌}
use Prim.Native.Nat.{ℕ, zero, suc, ◌<◌}
use native.Mathlib.Decide.{dec_lt, ℕ_discrete}
use native.Mathlib.Omega.{arith}
use borrow.Author.Tests.{eq-eqb, ne_eqb, lt-ltb, le-ltb, ltb-true}
use lib.Dec.{eqb, ltb}
use Rattle.cycles.specs.Drawings.{Kind, input, register, oper, operands}
use Rattle.nets.specs.Net.{Net, Good, Seen}
use Rattle.nets.specs.State.{State, present}
use Rattle.nets.specs.Actions.{finish, ready, within, next_of, done, step}
use Rattle.nets.proofs.Facts.{split-on}
use Rattle.nets.proofs.Sight.{sees}
use Rattle.nets.proofs.OnePass.{Apart, apart_ready, apart-present}

-- what the Finishes of marked parts leave together
abbrev pub at_once : Net → State → (ℕ → Bool) → State
at_once N t F =
    record {
      queue = λ q. cond (F (N.into q)) (tail (t.queue q)) (t.queue q);
      flag = λ q. cond (F (N.from q)) false (t.flag q);
      held = λ i. cond (ltb i N.draw.nodes && F (N.part i)) (next_of N t (N.part i) i (N.draw.kind i)) (t.held i);
      count = λ p. cond (F p) (suc (t.count p)) (t.count p);
    }

module _ (N : Net) (G : Good N) (t : State) where
  -- the parts below k whose Finish is ready
  abbrev pub fires : ℕ → ℕ → Bool
  fires k p = ltb p k && ready N t (finish p)

  -- what they leave together
  abbrev pub finished_to : ℕ → State
  finished_to k = at_once N t (fires k)

  -- one after the other
  unfoldable pub in_turn : ℕ → State
  in_turn zero = t
  in_turn (suc k) = step N (in_turn k) (finish k)

  not_yet : (k p : ℕ) → p ≡ k → fires k p ≡ false
  not_yet k p e = ap (λ b. b && ready N t (finish p)) (le-ltb p k (omega arith))

  -- part k does not see what the parts before it have done
  pub apart : (k : ℕ) → Apart N t (finished_to k) k
  apart k =
      record {
        queue = λ q e. sym (ap (λ b. cond b (tail (t.queue q)) (t.queue q)) (not_yet k (N.into q) e));
        flag = λ q e. sym (ap (λ b. cond b false (t.flag q)) (not_yet k (N.from q) e));
        held = λ i l e. sym (ap (λ b. cond (ltb i N.draw.nodes && b) (next_of N t (N.part i) i (N.draw.kind i)) (t.held i)) (not_yet k (N.part i) e) ∙ ap (λ b. cond b (next_of N t (N.part i) i (N.draw.kind i)) (t.held i)) (and-false (ltb i N.draw.nodes)));
        count = sym (ap (λ b. cond b (suc (t.count k)) (t.count k)) (not_yet k k refl));
      }

  -- a part's test, one part further
  further : (k p : ℕ) → p ≢ k → fires (suc k) p ≡ fires k p
  further k p ne =
      by_cases (dec_lt p k)
      (λ l. ap (λ b. b && ready N t (finish p)) (lt-ltb p (suc k) (omega arith) ∙ sym (lt-ltb p k l)))
      (λ l. ap (λ b. b && ready N t (finish p)) (le-ltb p (suc k) (omega arith) ∙ sym (le-ltb p k (omega arith))))

  own : (k p : ℕ) → p ≡ k → fires (suc k) p ≡ ready N t (finish k)
  own k p e = ap (λ b. b && ready N t (finish p)) (lt-ltb p (suc k) (omega arith)) ∙ ap (λ x. ready N t (finish x)) e

  -- a choice by part: changed at k by what part k does, the same elsewhere
  fired : {A : Type 0} (k p : ℕ) (u x y z : A) → ready N t (finish k) ≡ true → z ≡ cond (fires k p) x y → (p ≡ k → u ≡ x) → cond (eqb p k) u z ≡ cond (fires (suc k) p) x y
  fired k p u x y z e h w =
      by_cases (ℕ_discrete p k)
      (λ d. ap (λ v. cond v u z) (eq-eqb p k d) ∙ w d ∙ sym (ap (λ v. cond v x y) (own k p d ∙ e)))
      (λ ne. ap (λ v. cond v u z) (ne_eqb p k ne) ∙ h ∙ sym (ap (λ v. cond v x y) (further k p ne)))

  waits : (k p : ℕ) → ready N t (finish k) ≡ false → fires k p ≡ fires (suc k) p
  waits k p e = by_cases (ℕ_discrete p k) (λ d. not_yet k p d ∙ sym (own k p d ∙ e)) (λ ne. sym (further k p ne))

  -- what a register of part k holds next is the same after the parts before
  next-same : (k i : ℕ) → i < N.draw.nodes → N.part i ≡ k → (w : Kind) → N.draw.kind i ≡ w → next_of N (finished_to k) k i w ≡ next_of N t (N.part i) i w
  next-same k i l d input e = sym ((apart k).held i l d)
  next-same k i l d (oper f xs) e = sym ((apart k).held i l d)
  next-same k i l d (register x a) e =
      sym (apart-present N G t (finished_to k) k (apart k) a
      (subst (λ y. Seen N y a) d (sees N G i a l (subst (λ w. Memᴰ a (operands w)) (sym e) (Memᴰ.head refl)))))
      ∙ ap (λ y. present N t y a) (sym d)

  abbrev made : (ℕ → List ℕ) → (ℕ → Bool) → (ℕ → ℕ) → (ℕ → ℕ) → State
  made q f h c = record { queue = q; flag = f; held = h; count = c }

  fields : (q r : ℕ → List ℕ) (f g : ℕ → Bool) (h i c d : ℕ → ℕ) → q ≡ r → f ≡ g → h ≡ i → c ≡ d
      → made q f h c ≡ made r g i d
  fields q r f g h i c d x y z w = ap₂ (λ q f. made q f h c) x y ∙ ap₂ (made r g) z w

  one_more_lem : (k : ℕ) → step N (finished_to k) (finish k) ≡ finished_to (suc k)
  unfolding step done
  one_more_lem k =
      let u : State = finished_to k in
      ap (λ b. cond b (done N u (finish k)) u) (sym (apart_ready N G t u k (apart k)))
      ∙ split-on (λ b. cond b (done N u (finish k)) u ≡ finished_to (suc k)) (ready N t (finish k))
      (λ e. fields _ _ _ _ _ _ _ _
      (fun_ext (λ q. fired k (N.into q) (tail (u.queue q)) (tail (t.queue q)) (t.queue q) (u.queue q) e refl (λ d. ap tail (sym ((apart k).queue q d)))))
      (fun_ext (λ q. fired k (N.from q) false false (t.flag q) (u.flag q) e refl (λ d. refl)))
      (fun_ext (λ i. split-on
      (λ b. ltb i N.draw.nodes ≡ b → cond (b && eqb (N.part i) k) (next_of N u k i (N.draw.kind i)) (cond (b && fires k (N.part i)) (next_of N t (N.part i) i (N.draw.kind i)) (t.held i)) ≡ cond (b && fires (suc k) (N.part i)) (next_of N t (N.part i) i (N.draw.kind i)) (t.held i))
      (ltb i N.draw.nodes)
      (λ _ l. fired k (N.part i) (next_of N u k i (N.draw.kind i)) (next_of N t (N.part i) i (N.draw.kind i)) (t.held i)
      (cond (fires k (N.part i)) (next_of N t (N.part i) i (N.draw.kind i)) (t.held i)) e refl (λ d. next-same k i (ltb-true i N.draw.nodes l) d (N.draw.kind i) refl))
      (λ _ _. refl) refl))
      (fun_ext (λ p. fired k p (suc (u.count k)) (suc (t.count p)) (t.count p) (u.count p) e refl (λ d. ap suc (sym (apart k).count ∙ ap t.count (sym d))))))
      (λ e. fields _ _ _ _ _ _ _ _
      (fun_ext (λ q. ap (λ b. cond b (tail (t.queue q)) (t.queue q)) (waits k (N.into q) e)))
      (fun_ext (λ q. ap (λ b. cond b false (t.flag q)) (waits k (N.from q) e)))
      (fun_ext (λ i. ap (λ b. cond (ltb i N.draw.nodes && b) (next_of N t (N.part i) i (N.draw.kind i)) (t.held i)) (waits k (N.part i) e)))
      (fun_ext (λ p. ap (λ b. cond b (suc (t.count p)) (t.count p)) (waits k p e))))

  nobody : (p : ℕ) → fires 0 p ≡ false
  nobody p = ap (λ b. b && ready N t (finish p)) (le-ltb p 0 (omega arith))

  -- one after the other is all at once
  pub in_turn_lem : (k : ℕ) → in_turn k ≡ finished_to k
  unfolding in_turn
  in_turn_lem zero =
      sym (fields _ _ _ _ _ _ _ _
      (fun_ext (λ q. ap (λ b. cond b (tail (t.queue q)) (t.queue q)) (nobody (N.into q))))
      (fun_ext (λ q. ap (λ b. cond b false (t.flag q)) (nobody (N.from q))))
      (fun_ext (λ i. ap (λ b. cond (ltb i N.draw.nodes && b) (next_of N t (N.part i) i (N.draw.kind i)) (t.held i)) (nobody (N.part i)) ∙ ap (λ b. cond b (next_of N t (N.part i) i (N.draw.kind i)) (t.held i)) (and-false (ltb i N.draw.nodes))))
      (fun_ext (λ p. ap (λ b. cond b (suc (t.count p)) (t.count p)) (nobody p))))
  in_turn_lem (suc k) = ap (λ s. step N s (finish k)) (in_turn_lem k) ∙ one_more_lem k

  -- ---- one Finish alone

  module _ (p : ℕ) where
    -- the parts from p up to p + 1 whose Finish is ready
    abbrev pub alone : ℕ → Bool
    alone r = (not (ltb r p) && ltb r (suc p)) && ready N t (finish r)

    alone_is : (r : ℕ) (b : Bool) → ready N t (finish p) ≡ b → alone r ≡ (eqb r p && b)
    alone_is r b e =
        by_cases (ℕ_discrete r p)
        (λ d. rw (d, le-ltb p p (omega arith), lt-ltb p (suc p) (omega arith), eq-eqb p p refl) e)
        (λ ne. rw (ne_eqb r p ne)
        (by_cases (dec_lt r p) (λ l. rw (lt-ltb r p l))
        (λ l. rw (le-ltb r p (omega arith), le-ltb r (suc p) (let y : r ≢ p = ne in omega arith)))))

    not-alone : ready N t (finish p) ≡ false → (r : ℕ) → alone r ≡ false
    not-alone e r = alone_is r false e ∙ and-false (eqb r p)

    is_alone : ready N t (finish p) ≡ true → (r : ℕ) → alone r ≡ eqb r p
    is_alone e r = alone_is r true e ∙ and_true_is (eqb r p)
      where
        and_true_is : (b : Bool) → (b && true) ≡ b
        and_true_is true = refl
        and_true_is false = refl

    next_of_lem : (i : ℕ) → cond (ltb i N.draw.nodes && eqb (N.part i) p) (next_of N t (N.part i) i (N.draw.kind i)) (t.held i) ≡ cond (within N p i) (next_of N t p i (N.draw.kind i)) (t.held i)
    next_of_lem i =
        by_cases (ℕ_discrete (N.part i) p)
        (λ d. ap (λ x. cond (ltb i N.draw.nodes && eqb (N.part i) p) (next_of N t x i (N.draw.kind i)) (t.held i)) d)
        (λ ne. let z : (ltb i N.draw.nodes && eqb (N.part i) p) ≡ false = ap (λ b. ltb i N.draw.nodes && b) (ne_eqb (N.part i) p ne) ∙ and-false (ltb i N.draw.nodes) in
        ap (λ b. cond b (next_of N t (N.part i) i (N.draw.kind i)) (t.held i)) z ∙ sym (ap (λ b. cond b (next_of N t p i (N.draw.kind i)) (t.held i)) z))

    pub one-alone : at_once N t alone ≡ step N t (finish p)
    unfolding step done
    one-alone =
        split-on (λ b. ready N t (finish p) ≡ b → at_once N t alone ≡ cond b (done N t (finish p)) t) (ready N t (finish p))
        (λ _ e. fields _ _ _ _ _ _ _ _
        (fun_ext (λ q. ap (λ b. cond b (tail (t.queue q)) (t.queue q)) (is_alone e (N.into q))))
        (fun_ext (λ q. ap (λ b. cond b false (t.flag q)) (is_alone e (N.from q))))
        (fun_ext (λ i. ap (λ b. cond (ltb i N.draw.nodes && b) (next_of N t (N.part i) i (N.draw.kind i)) (t.held i)) (is_alone e (N.part i)) ∙ next_of_lem i))
        (fun_ext (λ j. ap (λ b. cond b (suc (t.count j)) (t.count j)) (is_alone e j)
        ∙ by_cases (ℕ_discrete j p) (λ d. ap (λ x. cond (eqb j p) (suc (t.count x)) (t.count j)) d)
        (λ ne. ap (λ b. cond b (suc (t.count j)) (t.count j)) (ne_eqb j p ne) ∙ sym (ap (λ b. cond b (suc (t.count p)) (t.count j)) (ne_eqb j p ne))))))
        (λ _ e. fields _ _ _ _ _ _ _ _
        (fun_ext (λ q. ap (λ b. cond b (tail (t.queue q)) (t.queue q)) (not-alone e (N.into q))))
        (fun_ext (λ q. ap (λ b. cond b false (t.flag q)) (not-alone e (N.from q))))
        (fun_ext (λ i. ap (λ b. cond (ltb i N.draw.nodes && b) (next_of N t (N.part i) i (N.draw.kind i)) (t.held i)) (not-alone e (N.part i)) ∙ ap (λ b. cond b (next_of N t (N.part i) i (N.draw.kind i)) (t.held i)) (and-false (ltb i N.draw.nodes))))
        (fun_ext (λ j. ap (λ b. cond b (suc (t.count j)) (t.count j)) (not-alone e j)))) refl
