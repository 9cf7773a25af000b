-- Every token and register keeps what operators keep: a property of a node and a value that holds of first values, of what is fed and of each operator.
use mathlib.Core.Path.{◌≡◌, refl, sym, subst}
use mathlib.Core.Logic.{inl}
use mathlib.Core.Bool.{true, cond}
use mathlib.Core.List.{List, [], ◌∷◌, ◌++◌, map, tail, Memᴰ}
use Prim.Native.Nat.{ℕ, zero, suc, ◌<◌}
use native.Mathlib.Omega.{arith}
use native.Mathlib.Nat.{not-suc-le-zero, le_refl}
use lib.ListN.{get_or}
use lib.Dec.{eqb, ltb}
use borrow.Author.Tests.{eqb-true, ltb-true}
use Rattle.base.proofs.Tests.{and_left, and_right}
use Rattle.cycles.specs.Drawings.{Kind, input, register, oper, operands}
use Rattle.nets.specs.Net.{Net, Seen, Good}
use Rattle.nets.specs.State.{State, View, token, kept, calc, view, first_of, fresh, value_in, eval, present}
use Rattle.nets.specs.Actions.{Action, feed, drain, put, finish, ready, within, next_of, done, step, play}
use Rattle.nets.proofs.Facts.{split-on, pick}
use Rattle.nets.proofs.Sight.{sees, Sound, view_sound}
use Rattle.nets.proofs.Ready.{feeds, puts}

-- every token, and what is read past them
abbrev Each : (ℕ → Type 0) → List ℕ → Type 0
Each P xs = (j : ℕ) → P (get_or xs j 0)

pub record Keeps (N : Net) (ok : ℕ → ℕ → Type 0) : Type 0 where
  pub zero_ok : (i : ℕ) → ok i 0
  pub fed_ok : (i x : ℕ) → N.allow i x ≡ true → ok i x
  pub oper_ok : (i : ℕ) (f : List ℕ → ℕ) (xs : List ℕ) → i < N.draw.nodes → N.draw.kind i ≡ oper f xs → (v : ℕ → ℕ) → ((a : ℕ) → Memᴰ a xs → ok a (v a)) → ok i (f (map v xs))
  pub first_ok : (i k a : ℕ) → i < N.draw.nodes → N.draw.kind i ≡ register k a → ok i k
  pub next_ok : (i k a x : ℕ) → i < N.draw.nodes → N.draw.kind i ≡ register k a → ok a x → ok i x

pub record Bounded (N : Net) (ok : ℕ → ℕ → Type 0) (s : State) : Type 0 where
  pub tokens : (q : ℕ) → Each (ok (N.node q)) (s.queue q)
  pub regs : (i : ℕ) → ok i (s.held i)

each_tail : (P : ℕ → Type 0) (xs : List ℕ) → Each P xs → Each P (tail xs)
each_tail P [] h j = h j
each_tail P (y ∷ xs) h j = h (suc j)

each_snoc : (P : ℕ → Type 0) (xs : List ℕ) (x : ℕ) → P 0 → Each P xs → P x → Each P (xs ++ (x ∷ []))
each_snoc P [] x z h p zero = p
each_snoc P [] x z h p (suc j) = z
each_snoc P (y ∷ xs) x z h p zero = h 0
each_snoc P (y ∷ xs) x z h p (suc j) = each_snoc P xs x z (λ k. h (suc k)) p j

module _ (N : Net) (G : Good N) (ok : ℕ → ℕ → Type 0) (K : Keeps N ok) (s : State) (B : Bounded N ok s) where
  eval_ok : (p f i : ℕ) → Seen N p i → N.draw.rank i < f → ok i (eval N s p f i)
  unfolding eval
  eval_ok p zero i S h = absurd (not-suc-le-zero h)
  eval_ok p (suc f) i S h = go (eval_ok p f) (view N p i) (view_sound N G p i S)
    where
      go : ((a : ℕ) → Seen N p a → N.draw.rank a < f → ok a (eval N s p f a)) → (w : View) → Sound N p i w → ok i (value_in s i (eval N s p f) w)
      go ih (token q) o = subst (λ x. ok x (get_or (s.queue q) 0 0)) o.1 (B.tokens q 0)
      go ih kept o = B.regs i
      go ih (calc g xs) o = K.oper_ok i g xs S.is_node o.0 (eval N s p f) (λ a u. ih a (o.1 a u) (let r = o.2 a u in omega arith))

  present_ok : (p i : ℕ) → Seen N p i → ok i (present N s p i)
  unfolding present
  present_ok p i S = eval_ok p (suc (N.draw.rank i)) i S (le_refl (suc (N.draw.rank i)))

  push_ok : (q x : ℕ) → ok (N.node q) x → (j : ℕ) → Each (ok (N.node j)) (cond (eqb j q) (s.queue q ++ (x ∷ [])) (s.queue j))
  push_ok q x h =
      pick (λ j b. Each (ok (N.node j)) (cond b (s.queue q ++ (x ∷ [])) (s.queue j))) q
      (each_snoc (ok (N.node q)) (s.queue q) x (K.zero_ok (N.node q)) (B.tokens q) h) B.tokens

  next_is_ok : (p i : ℕ) → N.part i ≡ p → i < N.draw.nodes → (k : Kind) → N.draw.kind i ≡ k → ok i (next_of N s p i k)
  next_is_ok p i d l input e = B.regs i
  next_is_ok p i d l (oper f xs) e = B.regs i
  next_is_ok p i d l (register k a) e =
      K.next_ok i k a (present N s p a) l e
      (present_ok p a (subst (λ x. Seen N x a) d (sees N G i a l (subst (λ k. Memᴰ a (operands k)) (sym e) (Memᴰ.head refl)))))

  done_ok : (a : Action) → ready N s a ≡ true → Bounded N ok (done N s a)
  unfolding done
  done_ok (feed q x) e = record { tokens = push_ok q x (K.fed_ok (N.node q) x (feeds N s q x e).allowed); regs = B.regs }
  done_ok (drain q) e = record {
    tokens = pick (λ j b. Each (ok (N.node j)) (cond b (tail (s.queue q)) (s.queue j))) q (each_tail (ok (N.node q)) (s.queue q) (B.tokens q)) B.tokens;
    regs = B.regs;
  }
  done_ok (put q) e =
      let l = (puts N s q e).inside in
      record {
        tokens = push_ok q (present N s (N.from q) (N.node q)) (present_ok (N.from q) (N.node q) (record { is_node = G.put_node q l; where_is = inl (G.put_part q l) }));
        regs = B.regs;
      }
  done_ok (finish p) e = record {
    tokens = λ q. split-on (λ b. Each (ok (N.node q)) (cond b (tail (s.queue q)) (s.queue q))) (eqb (N.into q) p)
        (λ _. each_tail (ok (N.node q)) (s.queue q) (B.tokens q)) (λ _. B.tokens q);
    regs = λ i. split-on (λ b. ok i (cond b (next_of N s p i (N.draw.kind i)) (s.held i))) (within N p i)
        (λ t. next_is_ok p i (eqb-true (N.part i) p (and_right (ltb i N.draw.nodes) (eqb (N.part i) p) t)) (ltb-true i N.draw.nodes (and_left (ltb i N.draw.nodes) (eqb (N.part i) p) t))
        (N.draw.kind i) refl) (λ _. B.regs i);
  }

  pub step_ok : (a : Action) → Bounded N ok (step N s a)
  unfolding step
  step_ok a = split-on (λ b. Bounded N ok (cond b (done N s a) s)) (ready N s a) (done_ok a) (λ _. B)

pub fresh_ok : (N : Net) (ok : ℕ → ℕ → Type 0) → Keeps N ok → Bounded N ok (fresh N)
unfolding fresh
fresh_ok N ok K = record {
  tokens = λ q j. K.zero_ok (N.node q);
  regs = λ i. split-on (λ b. ok i (cond b (first_of (N.draw.kind i)) 0)) (ltb i N.draw.nodes) (λ t. go i (ltb-true i N.draw.nodes t) (N.draw.kind i) refl) (λ _. K.zero_ok i);
}
  where
    go : (i : ℕ) → i < N.draw.nodes → (k : Kind) → N.draw.kind i ≡ k → ok i (first_of k)
    go i l input e = K.zero_ok i
    go i l (register k a) e = K.first_ok i k a l e
    go i l (oper f xs) e = K.zero_ok i

pub play_ok : (N : Net) → Good N → (ok : ℕ → ℕ → Type 0) → Keeps N ok → (s : State) → Bounded N ok s → (xs : List Action) → Bounded N ok (play N s xs)
unfolding play
play_ok N G ok K s B [] = B
play_ok N G ok K s B (a ∷ xs) = play_ok N G ok K (step N s a) (step_ok N G ok K s B a) xs
