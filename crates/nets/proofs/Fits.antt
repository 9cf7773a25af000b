-- A state stays within its network: queues within their depths, counts within the limit, nothing past the queues and the parts, zeros where no REG is.
-- An action asks for the room that it takes, and touches only what its part has.
use mathlib.Core.Path.{◌≡◌, refl, ap}
use mathlib.Core.Logic.{◌≢◌}
use mathlib.Core.Bool.{true, false, cond}
use mathlib.Core.List.{List, [], ◌∷◌, ◌++◌, tail}
use Prim.Native.Nat.{ℕ, suc, ◌≤◌, ◌<◌, zero-le}
use native.Mathlib.Omega.{arith}
use borrow.Author.Tests.{ne_eqb, ltb-true}
use lib.Dec.{eqb, ltb}
use lib.ListN.{length, length-append}
use Rattle.base.proofs.Tests.{and_left}
use Rattle.cycles.specs.Drawings.{Kind, input, register, oper}
use Rattle.nets.specs.Net.{Net, Good}
use Rattle.nets.specs.State.{State, first_of, fresh, present}
use Rattle.nets.specs.Actions.{Action, feed, drain, put, finish, ready, within, next_of, done, step}
use Rattle.nets.proofs.Facts.{split-on, pick}
use Rattle.nets.proofs.Ready.{Feeds, Drains, Puts, Finishes, feeds, drains, puts, finishes}

pub record Fits (N : Net) (s : State) : Type 0 where
  pub fits : (q : ℕ) → length (s.queue q) ≤ N.depth q
  pub empty : (q : ℕ) → N.queues ≤ q → s.queue q ≡ []
  pub off : (q : ℕ) → N.queues ≤ q → s.flag q ≡ false
  pub other : (i : ℕ) → (i < N.draw.nodes → (k a : ℕ) → N.draw.kind i ≢ register k a) → s.held i ≡ 0
  pub counts : (p : ℕ) → s.count p ≤ N.limit
  pub idle : (p : ℕ) → N.parts ≤ p → s.count p ≡ 0

tail-short : (xs : List ℕ) (d : ℕ) → length xs ≤ d → length (tail xs) ≤ d
tail-short [] d h = h
tail-short (x ∷ xs) d h = omega arith

pub fits_fresh : (N : Net) → Fits N (fresh N)
unfolding fresh
fits_fresh N =
    record {
      fits = λ q. zero-le;
      empty = λ q l. refl;
      off = λ q l. refl;
      other = λ i h. split-on (λ b. ltb i N.draw.nodes ≡ b → cond b (first_of (N.draw.kind i)) 0 ≡ 0) (ltb i N.draw.nodes)
          (λ _ e. none (N.draw.kind i) (h (ltb-true i N.draw.nodes e))) (λ _ _. refl) refl;
      counts = λ p. zero-le;
      idle = λ p l. refl;
    }
  where
    none : (k : Kind) → ((x a : ℕ) → k ≢ register x a) → first_of k ≡ 0
    none input h = refl
    none (register x a) h = absurd (h x a refl)
    none (oper f xs) h = refl

module _ (N : Net) (G : Good N) (s : State) (F : Fits N s) where
  -- a token more on queue q
  push_fits : (q x : ℕ) → length (s.queue q) < N.depth q → (j : ℕ) → length (cond (eqb j q) (s.queue q ++ (x ∷ [])) (s.queue j)) ≤ N.depth j
  push_fits q x l = pick (λ j b. length (cond b (s.queue q ++ (x ∷ [])) (s.queue j)) ≤ N.depth j) q (rw length-append (omega arith)) F.fits

  -- what is past the queues is not queue q
  past : (q j : ℕ) → q < N.queues → N.queues ≤ j → eqb j q ≡ false
  past q j l h = ne_eqb j q (λ e. let z : j ≡ q = e in omega arith)

  fits-feed : (q x : ℕ) → Feeds N s q x → Fits N (done N s (feed q x))
  unfolding done
  fits-feed q x P =
      record {
        fits = push_fits q x P.space;
        empty = λ j l. rw (past q j (G.take_queue q P.inside) l) (F.empty j l);
        off = F.off;
        other = F.other;
        counts = F.counts;
        idle = F.idle;
      }

  fits-drain : (q : ℕ) → Drains N s q → Fits N (done N s (drain q))
  unfolding done
  fits-drain q P =
      record {
        fits = pick (λ j b. length (cond b (tail (s.queue q)) (s.queue j)) ≤ N.depth j) q (tail-short (s.queue q) (N.depth q) (F.fits q)) F.fits;
        empty = λ j l. rw (past q j (G.put_queue q P.inside) l) (F.empty j l);
        off = F.off;
        other = F.other;
        counts = F.counts;
        idle = F.idle;
      }

  fits-put : (q : ℕ) → Puts N s q → Fits N (done N s (put q))
  unfolding done
  fits-put q P =
      record {
        fits = push_fits q (present N s (N.from q) (N.node q)) P.space;
        empty = λ j l. rw (past q j (G.put_queue q P.inside) l) (F.empty j l);
        off = λ j l. rw (past q j (G.put_queue q P.inside) l) (F.off j l);
        other = F.other;
        counts = F.counts;
        idle = F.idle;
      }

  next-other : (p i : ℕ) (k : Kind) → ((x a : ℕ) → k ≢ register x a) → s.held i ≡ 0 → next_of N s p i k ≡ 0
  next-other p i input h z = z
  next-other p i (register x a) h z = absurd (h x a refl)
  next-other p i (oper f xs) h z = z

  fits-finish : (p : ℕ) → Finishes N s p → Fits N (done N s (finish p))
  unfolding done
  fits-finish p P =
      record {
        fits = λ q. split-on (λ b. length (cond b (tail (s.queue q)) (s.queue q)) ≤ N.depth q) (eqb (N.into q) p) (λ _. tail-short (s.queue q) (N.depth q) (F.fits q)) (λ _. F.fits q);
        empty = λ q l. split-on (λ b. cond b (tail (s.queue q)) (s.queue q) ≡ []) (eqb (N.into q) p) (λ _. ap tail (F.empty q l)) (λ _. F.empty q l);
        off = λ q l. split-on (λ b. cond b false (s.flag q) ≡ false) (eqb (N.from q) p) (λ _. refl) (λ _. F.off q l);
        other = λ i h. split-on (λ b. within N p i ≡ b → cond b (next_of N s p i (N.draw.kind i)) (s.held i) ≡ 0) (within N p i)
            (λ _ e. next-other p i (N.draw.kind i) (h (ltb-true i N.draw.nodes (and_left (ltb i N.draw.nodes) (eqb (N.part i) p) e))) (F.other i h))
            (λ _ _. F.other i h) refl;
        counts = pick (λ k b. cond b (suc (s.count p)) (s.count k) ≤ N.limit) p P.limited F.counts;
        idle = λ k l. rw (ne_eqb k p (λ e. let z : k ≡ p = e in let y = P.inside in omega arith)) (F.idle k l);
      }

  fits-done : (a : Action) → ready N s a ≡ true → Fits N (done N s a)
  fits-done (feed q x) e = fits-feed q x (feeds N s q x e)
  fits-done (drain q) e = fits-drain q (drains N s q e)
  fits-done (put q) e = fits-put q (puts N s q e)
  fits-done (finish p) e = fits-finish p (finishes N s p e)

  pub fits-step : (a : Action) → Fits N (step N s a)
  unfolding step
  fits-step a = split-on (λ b. Fits N (cond b (done N s a) s)) (ready N s a) (fits-done a) (λ _. F)
