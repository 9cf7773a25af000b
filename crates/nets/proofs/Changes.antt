-- Loops that change an array where a test holds, turn by turn, and what Finish leaves in the arrays. A turn at k changes the table at k alone.
use mathlib.Core.Path.{◌≡◌, refl, sym, ap, ◌∙◌}
use mathlib.Core.Logic.{◌≢◌, by_cases}
use mathlib.Core.Bool.{Bool, true, false, cond, ◌&&◌, and-false}
use mathlib.Core.List.{List, tail}
use Prim.Native.Nat.{ℕ, suc, ◌+◌, ◌-◌, ◌*◌, ◌/◌, ◌%◌, ◌≤◌, ◌<◌}
use native.Mathlib.Omega.{arith}
use native.Mathlib.Decide.{dec_lt, ℕ_discrete}
use borrow.Author.Tests.{eqb-true, eq-eqb, ne_eqb, ltb-true, lt-ltb, le-ltb}
use lib.Dec.{eqb, ltb}
use lib.ListN.{length, get_or, set}
use Rattle.base.proofs.Tests.{and_left}
use Rattle.nets.specs.Lists.{at, tab}
use Rattle.nets.specs.Net.{Net, Good}
use Rattle.nets.specs.State.{State}
use Rattle.nets.specs.Actions.{finish, within, next_of, done}
use Rattle.nets.specs.Stored.{cell, cells_of, used_of, flags_of, held_of, changed, taken}
use Rattle.nets.proofs.Facts.{split-on}
use Rattle.nets.proofs.Tables.{tab-same, set-tab, take-used, shifted, take-stores}

module _ {A : Type 0} (t : ℕ → Bool) (g f : ℕ → A) where
  -- before the first turn
  none_at : (j : ℕ) → changed t g f 0 j ≡ f j
  unfolding changed
  none_at j = ap (λ b. cond (b && t j) (g j) (f j)) (le-ltb j 0 (omega arith))

  -- not yet at k
  here_at : (k : ℕ) → changed t g f k k ≡ f k
  unfolding changed
  here_at k = ap (λ b. cond (b && t k) (g k) (f k)) (le-ltb k k (omega arith))

  -- a turn, at its own place and elsewhere
  turn-same : (k j : ℕ) → j ≢ k → changed t g f k j ≡ changed t g f (suc k) j
  unfolding changed
  turn-same k j ne =
      by_cases (dec_lt j k)
      (λ l. ap (λ b. cond (b && t j) (g j) (f j)) (lt-ltb j k l ∙ sym (lt-ltb j (suc k) (omega arith))))
      (λ l. ap (λ b. cond (b && t j) (g j) (f j)) (le-ltb j k (omega arith) ∙ sym (le-ltb j (suc k) (omega arith))))

  turn-here : (k : ℕ) → changed t g f (suc k) k ≡ cond (t k) (g k) (f k)
  unfolding changed
  turn-here k = ap (λ b. cond (b && t k) (g k) (f k)) (lt-ltb k (suc k) (omega arith))

  turn-yes : (k : ℕ) → t k ≡ true → (j : ℕ) → at k (g k) (changed t g f k) j ≡ changed t g f (suc k) j
  turn-yes k e j =
      by_cases (ℕ_discrete j k)
      (λ d. ap (λ b. cond b (g k) (changed t g f k j)) (eq-eqb j k d) ∙ sym (ap (changed t g f (suc k)) d ∙ turn-here k ∙ ap (λ b. cond b (g k) (f k)) e))
      (λ ne. ap (λ b. cond b (g k) (changed t g f k j)) (ne_eqb j k ne) ∙ turn-same k j ne)

  turn_no : (k : ℕ) → t k ≡ false → (j : ℕ) → changed t g f k j ≡ changed t g f (suc k) j
  turn_no k e j =
      by_cases (ℕ_discrete j k)
      (λ d. ap (changed t g f k) d ∙ here_at k ∙ sym (ap (changed t g f (suc k)) d ∙ turn-here k ∙ ap (λ b. cond b (g k) (f k)) e))
      (λ ne. turn-same k j ne)

  -- after the last: every place where the test holds was reached
  pub all_at : (k : ℕ) → ((j : ℕ) → t j ≡ true → j < k) → (j : ℕ) → changed t g f k j ≡ cond (t j) (g j) (f j)
  unfolding changed
  all_at k h j =
      split-on (λ b. t j ≡ b → cond (ltb j k && b) (g j) (f j) ≡ cond b (g j) (f j)) (t j)
      (λ _ e. ap (λ b. cond (b && true) (g j) (f j)) (lt-ltb j k (h j e)))
      (λ _ e. ap (λ b. cond b (g j) (f j)) (and-false (ltb j k))) refl

  -- as tables
  pub changed-none : (m : ℕ) → tab m f ≡ tab m (changed t g f 0)
  changed-none m = tab-same m f (changed t g f 0) (λ j _. sym (none_at j))

  pub changed-yes : (m k : ℕ) → t k ≡ true → set (tab m (changed t g f k)) k (g k) ≡ tab m (changed t g f (suc k))
  changed-yes m k e = set-tab m (changed t g f k) k (g k) ∙ tab-same m (at k (g k) (changed t g f k)) (changed t g f (suc k)) (λ j _. turn-yes k e j)

  pub changed_no : (m k : ℕ) → t k ≡ false → tab m (changed t g f k) ≡ tab m (changed t g f (suc k))
  changed_no m k e = tab-same m (changed t g f k) (changed t g f (suc k)) (λ j _. turn_no k e j)

  pub changed-all : (m k : ℕ) → ((j : ℕ) → t j ≡ true → j < k) → tab m (changed t g f k) ≡ tab m (λ j. cond (t j) (g j) (f j))
  changed-all m k h = tab-same m (changed t g f k) (λ j. cond (t j) (g j) (f j)) (λ j _. all_at k h j)

-- ---- queues that are taken from, in the one list and in the list of their lengths

pub cells_same : (n : ℕ) (f g : ℕ → List ℕ) → ((q : ℕ) → f q ≡ g q) → tab n (cell f) ≡ tab n (cell g)
unfolding cell
cells_same n f g h = tab-same n (cell f) (cell g) (λ j _. ap (λ x. get_or x (j % 16) 0) (h (j / 16)))

pub lengths-same : (n : ℕ) (f g : ℕ → List ℕ) → ((q : ℕ) → f q ≡ g q) → tab n (λ q. length (f q)) ≡ tab n (λ q. length (g q))
lengths-same n f g h = tab-same n (λ q. length (f q)) (λ q. length (g q)) (λ q _. ap length (h q))

module _ (t : ℕ → Bool) (f : ℕ → List ℕ) where
  -- the queue at k, taken from in this turn
  take-turn : (k : ℕ) → t k ≡ true → (j : ℕ) → at k (tail (taken t f k k)) (taken t f k) j ≡ taken t f (suc k) j
  take-turn k e j = ap (λ x. at k (tail x) (taken t f k) j) (here_at t (λ q. tail (f q)) f k) ∙ turn-yes t (λ q. tail (f q)) f k e j

  pub taken_here : (k : ℕ) → taken t f k k ≡ f k
  taken_here k = here_at t (λ q. tail (f q)) f k

  pub cells-none : (n : ℕ) → tab n (cell f) ≡ tab n (cell (taken t f 0))
  cells-none n = cells_same n f (taken t f 0) (λ q. sym (none_at t (λ q. tail (f q)) f q))

  pub cells-yes : (n k : ℕ) → t k ≡ true → 16 * k + 16 ≤ n → length (f k) ≤ 16
      → set (shifted (tab n (cell (taken t f k))) k 15) (16 * k + 15) 0 ≡ tab n (cell (taken t f (suc k)))
  cells-yes n k e l h =
      take-stores n (taken t f k) k l (rw (taken_here k) h) ∙ cells_same n (at k (tail (taken t f k k)) (taken t f k)) (taken t f (suc k)) (take-turn k e)

  pub cells_no : (n k : ℕ) → t k ≡ false → tab n (cell (taken t f k)) ≡ tab n (cell (taken t f (suc k)))
  cells_no n k e = cells_same n (taken t f k) (taken t f (suc k)) (turn_no t (λ q. tail (f q)) f k e)

  pub used-none : (n : ℕ) → tab n (λ q. length (f q)) ≡ tab n (λ q. length (taken t f 0 q))
  used-none n = lengths-same n f (taken t f 0) (λ q. sym (none_at t (λ q. tail (f q)) f q))

  pub used-yes : (n k : ℕ) → t k ≡ true → 0 < length (f k) → set (tab n (λ q. length (taken t f k q))) k (length (f k) - 1) ≡ tab n (λ q. length (taken t f (suc k) q))
  used-yes n k e h =
      ap (λ x. set (tab n (λ q. length (taken t f k q))) k (length x - 1)) (sym (taken_here k))
      ∙ take-used n (taken t f k) k (rw (taken_here k) h)
      ∙ lengths-same n (at k (tail (taken t f k k)) (taken t f k)) (taken t f (suc k)) (take-turn k e)

  pub used_no : (n k : ℕ) → t k ≡ false → tab n (λ q. length (taken t f k q)) ≡ tab n (λ q. length (taken t f (suc k) q))
  used_no n k e = lengths-same n (taken t f k) (taken t f (suc k)) (turn_no t (λ q. tail (f q)) f k e)

-- ---- what Finish leaves

module _ (N : Net) (G : Good N) (s : State) (p : ℕ) (inside : p < N.parts) where
  into-low : (q : ℕ) → eqb (N.into q) p ≡ true → q < N.queues
  into-low q e = G.take_queue q (rw (eqb-true (N.into q) p e) inside)

  from_low : (q : ℕ) → eqb (N.from q) p ≡ true → q < N.queues
  from_low q e = G.put_queue q (rw (eqb-true (N.from q) p e) inside)

  pub finish-cells : tab 8192 (cell (taken (λ q. eqb (N.into q) p) s.queue N.queues)) ≡ cells_of (done N s (finish p))
  unfolding cells_of done
  finish-cells =
      cells_same 8192 (taken (λ q. eqb (N.into q) p) s.queue N.queues) (λ q. cond (eqb (N.into q) p) (tail (s.queue q)) (s.queue q))
      (all_at (λ q. eqb (N.into q) p) (λ q. tail (s.queue q)) s.queue N.queues into-low)

  pub finish-used : tab 512 (λ q. length (taken (λ q. eqb (N.into q) p) s.queue N.queues q)) ≡ used_of (done N s (finish p))
  unfolding used_of done
  finish-used =
      lengths-same 512 (taken (λ q. eqb (N.into q) p) s.queue N.queues) (λ q. cond (eqb (N.into q) p) (tail (s.queue q)) (s.queue q))
      (all_at (λ q. eqb (N.into q) p) (λ q. tail (s.queue q)) s.queue N.queues into-low)

  pub finish-flags : tab 512 (changed (λ q. eqb (N.from q) p) (λ q. false) s.flag N.queues) ≡ flags_of (done N s (finish p))
  unfolding flags_of done
  finish-flags = changed-all (λ q. eqb (N.from q) p) (λ q. false) s.flag 512 N.queues from_low

  pub finish-held : tab 1024 (changed (λ i. within N p i) (λ i. next_of N s p i (N.draw.kind i)) s.held N.draw.nodes) ≡ held_of (done N s (finish p))
  unfolding held_of done
  finish-held =
      changed-all (λ i. within N p i) (λ i. next_of N s p i (N.draw.kind i)) s.held 1024 N.draw.nodes
      (λ i e. ltb-true i N.draw.nodes (and_left (ltb i N.draw.nodes) (eqb (N.part i) p) e))
