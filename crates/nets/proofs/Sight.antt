-- How a part sees a node: where its needs are met its value is that of the cycle which the part is in, and where tokens are there its needs are met.
-- What a view says of its node is one fact (`view-sound`); each induction then goes by the three cases of a view.
use mathlib.Core.Path.{◌≡◌, refl, sym, ap, ◌∙◌, subst}
use mathlib.Core.Logic.{◌≢◌, ⊎_elim}
use mathlib.Core.Bool.{true, cond}
use mathlib.Core.List.{List, map, Memᴰ}
use Prim.Native.Nat.{ℕ, zero, suc, ◌≤◌, ◌<◌}
use native.Mathlib.Omega.{arith}
use native.Mathlib.Nat.{not-suc-le-zero, not-le_of_lt}
use lib.ListN.{get_or}
use lib.Dec.{eqb}
use borrow.Author.Tests.{eqb-true, eqb-false}
use Rattle.cycles.specs.Drawings.{Kind, input, register, oper, operands, inner}
use Rattle.nets.specs.Net.{Net, Link, Source, Seen, Good}
use Rattle.nets.specs.State.{State, View, token, kept, calc, own, view, some_token, value_in, met_in, eval, met}
use Rattle.nets.proofs.Facts.{split-on, map_same, all_out, all_in}

-- an operand of a node is seen in its part
pub sees : (N : Net) → Good N → (b a : ℕ) → b < N.draw.nodes → Memᴰ a (operands (N.draw.kind b)) → Seen N (N.part b) a
sees N G b a l m = record { is_node = G.ordered.known b a l m; where_is = G.linked b a l m }

-- what part p's view of node i says
abbrev pub Sound : Net → ℕ → ℕ → View → Type 0
Sound N p i (token q) = (N.into q ≡ p) × (N.node q ≡ i) × (N.from q < N.parts → N.part i ≢ p)
Sound N p i kept = (N.part i ≡ p) × ((k : ℕ) × (a : ℕ) × (N.draw.kind i ≡ register k a))
Sound N p i (calc f xs) = (N.draw.kind i ≡ oper f xs) × ((a : ℕ) → Memᴰ a xs → Seen N p a) × ((a : ℕ) → Memᴰ a xs → N.draw.rank a < N.draw.rank i)

module _ (N : Net) (G : Good N) (p : ℕ) where
  pub view_sound : (i : ℕ) → Seen N p i → Sound N p i (view N p i)
  unfolding view
  view_sound i S =
      split-on (λ b. Sound N p i (cond b (own (N.via p i) (N.draw.kind i)) (token (N.via p i)))) (eqb (N.part i) p)
      (λ e. here (N.draw.kind i) refl (eqb-true (N.part i) p e))
      (λ e. let ne : N.part i ≢ p = eqb-false (N.part i) p e in there ne (⊎_elim (λ q. absurd (ne q)) (λ l. l) S.where_is))
    where
      there : N.part i ≢ p → Link N p i → Sound N p i (token (N.via p i))
      there ne l = (l.into_is, l.node_is, λ _. ne)

      from_source : Source N i → N.part i ≡ p → Sound N p i (token (N.via p i))
      from_source o e =
          let l : Link N p i = subst (λ x. Link N x i) e o.link in
          let f : N.parts ≤ N.from (N.via p i) = subst (λ x. N.parts ≤ N.from (N.via x i)) e o.outside in
          (l.into_is, l.node_is, λ h. absurd (not-le_of_lt h f))

      here : (k : Kind) → N.draw.kind i ≡ k → N.part i ≡ p → Sound N p i (own (N.via p i) k)
      here input e h = from_source (G.inputs i S.is_node e) h
      here (register k a) e h = (h, (k, a, e))
      here (oper f xs) e h = (
        e,
        λ a m. subst (λ x. Seen N x a) h (sees N G i a S.is_node (subst (λ k. Memᴰ a (operands k)) (sym e) m)),
        λ a m. G.ordered.ranked i a S.is_node (subst (λ k. Memᴰ a (inner k)) (sym e) m),
      )

  module _ (s : State) where
    -- v is what the part's cycle computes: its tokens and registers say so
    module _ (v : ℕ → ℕ)
        (heads : (q : ℕ) → N.into q ≡ p → some_token (s.queue q) ≡ true → get_or (s.queue q) 0 0 ≡ v (N.node q))
        (regs : (i k a : ℕ) → i < N.draw.nodes → N.part i ≡ p → N.draw.kind i ≡ register k a → s.held i ≡ v i)
        (sums : (i : ℕ) (f : List ℕ → ℕ) (xs : List ℕ) → i < N.draw.nodes → N.draw.kind i ≡ oper f xs → v i ≡ f (map v xs)) where
      pub eval_is : (f i : ℕ) → Seen N p i → N.draw.rank i < f → met N s p f i ≡ true → eval N s p f i ≡ v i
      unfolding eval met
      eval_is zero i S h m = absurd (not-suc-le-zero h)
      eval_is (suc f) i S h m = go (eval_is f) (view N p i) (view_sound i S) m
        where
          go : ((a : ℕ) → Seen N p a → N.draw.rank a < f → met N s p f a ≡ true → eval N s p f a ≡ v a)
              → (w : View) → Sound N p i w → met_in s (met N s p f) w ≡ true → value_in s i (eval N s p f) w ≡ v i
          go ih (token q) o t = heads q o.0 t ∙ ap v o.1
          go ih kept o t = regs i o.1.0 o.1.1 S.is_node o.0 o.1.2
          go ih (calc g xs) o t =
              ap g (map_same (eval N s p f) v xs (λ a u. ih a (o.1 a u) (let r = o.2 a u in omega arith) (all_out (met N s p f) xs t a u)))
              ∙ sym (sums i g xs S.is_node o.0)

    -- each incoming queue has a token, but perhaps one that another part has to put and whose rank is not below r
    module _ (r : ℕ) (full : (q : ℕ) → N.into q ≡ p → (N.from q < N.parts → N.draw.rank (N.node q) < r) → some_token (s.queue q) ≡ true) where
      pub met-from : (f i : ℕ) → Seen N p i → N.draw.rank i < f → (N.part i ≢ p → N.draw.rank i < r) → N.draw.rank i ≤ r → met N s p f i ≡ true
      unfolding met
      met-from zero i S h b c = absurd (not-suc-le-zero h)
      met-from (suc f) i S h b c = go (met-from f) (view N p i) (view_sound i S)
        where
          go : ((a : ℕ) → Seen N p a → N.draw.rank a < f → (N.part a ≢ p → N.draw.rank a < r) → N.draw.rank a ≤ r → met N s p f a ≡ true)
              → (w : View) → Sound N p i w → met_in s (met N s p f) w ≡ true
          go ih (token q) o = full q o.0 (λ l. subst (λ x. N.draw.rank x < r) (sym o.1) (b (o.2 l)))
          go ih kept o = refl
          go ih (calc g xs) o =
              all_in (met N s p f) xs
              (λ a u. let d = o.2 a u in ih a (o.1 a u) (omega arith) (λ _. omega arith) (omega arith))
