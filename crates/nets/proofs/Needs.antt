-- A rule's needs in the outline's words: they are met exactly where every incoming queue that the node reaches, through operands inside the part and
-- stopping at a REG, has a token. Both ways by induction on how far operands are followed.
use mathlib.Core.Path.{◌≡◌, refl, sym, ap, subst}
use mathlib.Core.Logic.{◌≢◌, ◌↔◌}
use mathlib.Core.Bool.{true, cond, false≢true}
use mathlib.Core.List.{Memᴰ}
use Prim.Native.Nat.{ℕ, zero, suc, ◌<◌}
use native.Mathlib.Omega.{arith}
use native.Mathlib.Nat.{not-suc-le-zero, le_refl}
use lib.Dec.{eqb}
use borrow.Author.Tests.{eqb-true, eqb-false, eq-eqb, ne_eqb}
use Rattle.cycles.specs.Drawings.{Kind, input, register, oper, operands, inner}
use Rattle.nets.specs.Net.{Net, Good}
use Rattle.nets.specs.State.{State, token, own, view, some_token, met_in, met, needs_met, Reaches, by_channel, by_input, by_operand}
use Rattle.nets.proofs.Facts.{split-on, all_out, all_in}

module _ (N : Net) (G : Good N) (s : State) (p : ℕ) where
  view-other : (i : ℕ) → N.part i ≢ p → view N p i ≡ token (N.via p i)
  unfolding view
  view-other i ne = rw (ne_eqb (N.part i) p ne)

  view-own : (i : ℕ) (k : Kind) → N.part i ≡ p → N.draw.kind i ≡ k → view N p i ≡ own (N.via p i) k
  unfolding view
  view-own i k e o = rw (eq-eqb (N.part i) p e) (ap (own (N.via p i)) o)

  met_reaches : (f i q : ℕ) → met N s p f i ≡ true → Reaches N p i q → some_token (s.queue q) ≡ true
  unfolding met
  met_reaches zero i q m r = absurd (false≢true m)
  met_reaches (suc f) i q m (by_channel ne) = subst (λ w. met_in s (met N s p f) w ≡ true) (view-other i ne) m
  met_reaches (suc f) i q m (by_input e k) = subst (λ w. met_in s (met N s p f) w ≡ true) (view-own i input e k) m
  met_reaches (suc f) i q m (by_operand g xs a e k u r) =
      met_reaches f a q (all_out (met N s p f) xs (subst (λ w. met_in s (met N s p f) w ≡ true) (view-own i (oper g xs) e k) m) a u) r

  reaches_met : (f i : ℕ) → i < N.draw.nodes → N.draw.rank i < f → ((q : ℕ) → Reaches N p i q → some_token (s.queue q) ≡ true) → met N s p f i ≡ true
  unfolding met view
  reaches_met zero i n h r = absurd (not-suc-le-zero h)
  reaches_met (suc f) i n h r =
      split-on (λ b. met_in s (met N s p f) (cond b (own (N.via p i) (N.draw.kind i)) (token (N.via p i))) ≡ true) (eqb (N.part i) p)
      (λ e. go (λ a u. reaches_met f a u) (N.draw.kind i) refl (eqb-true (N.part i) p e)) (λ e. r (N.via p i) (by_channel (eqb-false (N.part i) p e)))
    where
      go : ((a : ℕ) → a < N.draw.nodes → N.draw.rank a < f → ((q : ℕ) → Reaches N p a q → some_token (s.queue q) ≡ true) → met N s p f a ≡ true)
          → (k : Kind) → N.draw.kind i ≡ k → N.part i ≡ p → met_in s (met N s p f) (own (N.via p i) k) ≡ true
      go ih input e d = r (N.via p i) (by_input d e)
      go ih (register k a) e d = refl
      go ih (oper g xs) e d =
          all_in (met N s p f) xs
          (λ a u. let o = G.ordered.ranked i a n (subst (λ k. Memᴰ a (inner k)) (sym e) u) in
          ih a (G.ordered.known i a n (subst (λ k. Memᴰ a (operands k)) (sym e) u)) (omega arith) (λ q t. r q (by_operand g xs a d e u t)))

  pub needs_are : (i : ℕ) → i < N.draw.nodes → (needs_met N s p i ≡ true) ↔ ((q : ℕ) → Reaches N p i q → some_token (s.queue q) ≡ true)
  unfolding needs_met
  needs_are i n = (λ m q r. met_reaches (suc (N.draw.rank i)) i q m r, λ r. reaches_met (suc (N.draw.rank i)) i n (le_refl (suc (N.draw.rank i))) r)
