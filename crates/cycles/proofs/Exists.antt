-- Every choice of what is given has a solution, and every choice of streams a run. A node's value needs no more steps than its rank.
use mathlib.Core.Path.{◌≡◌, refl, ◌∙◌, ap}
use Prim.Native.Nat.{ℕ, zero, suc, ◌<◌}
use native.Mathlib.Nat.{not-suc-le-zero, le_refl}
use native.Mathlib.Omega.{arith}
use Rattle.cycles.specs.Drawings.{Kind, input, register, oper, Drawing, value, given, Solves, Runs, Ordered}
use Rattle.cycles.proofs.Unique.{same-value, inner-node}

unfoldable pub settle : Drawing → (ℕ → ℕ) → ℕ → ℕ → ℕ
settle D l zero i = 0
settle D l (suc f) i = value (D.kind i) (l i) (settle D l f)

unfoldable pub solution : Drawing → (ℕ → ℕ) → ℕ → ℕ
solution D l i = settle D l (suc (D.rank i)) i

-- what is given in the next cycle, from the values w of this one
abbrev after : Kind → ℕ → (ℕ → ℕ) → ℕ
after input x w = x
after (register k a) x w = w a
after (oper f xs) x w = 0

-- what is given in the first
abbrev at_first : Kind → ℕ → ℕ
at_first input x = x
at_first (register k a) x = k
at_first (oper f xs) x = 0

unfoldable pub run : Drawing → (ℕ → ℕ → ℕ) → ℕ → ℕ → ℕ
run D s zero = λ i. 0
run D s (suc zero) = solution D (λ i. at_first (D.kind i) (s i 1))
run D s (suc (suc n)) = solution D (λ i. after (D.kind i) (s i (suc (suc n))) (run D s (suc n)))

module _ (D : Drawing) (O : Ordered D) where
  -- more steps than the rank change nothing
  settled : (l : ℕ → ℕ) (f g i : ℕ) → i < D.nodes → D.rank i < f → D.rank i < g → settle D l f i ≡ settle D l g i
  unfolding settle
  settled l zero g i n h k = absurd (not-suc-le-zero h)
  settled l (suc f) zero i n h k = absurd (not-suc-le-zero k)
  settled l (suc f) (suc g) i n h k =
      same-value (D.kind i) (l i) (l i) (settle D l f) (settle D l g) refl
      (λ a u.
      let r = O.ranked i a n u in
      settled l f g a (O.known i a n (inner-node (D.kind i) a u)) (omega arith) (omega arith))

  pub solves : (l : ℕ → ℕ) → Solves D l (solution D l)
  unfolding solution settle
  solves l i n =
      same-value (D.kind i) (l i) (l i) (settle D l (D.rank i)) (solution D l) refl
      (λ a u. settled l (D.rank i) (suc (D.rank a)) a (O.known i a n (inner-node (D.kind i) a u)) (O.ranked i a n u) (le_refl (suc (D.rank a))))

  same-given : (l m v : ℕ → ℕ) → ((i : ℕ) → l i ≡ m i) → Solves D l v → Solves D m v
  same-given l m v e h i n = h i n ∙ ap (λ x. value (D.kind i) x v) (e i)

  pub runs : (s : ℕ → ℕ → ℕ) → Runs D s (run D s)
  unfolding run
  runs s zero = same-given (λ i. at_first (D.kind i) (s i 1)) (λ i. given (D.kind i) (s i 1) (run D s) 0) (run D s 1) (λ i. go (D.kind i) i) (solves (λ i. at_first (D.kind i) (s i 1)))
    where
      go : (k : Kind) (i : ℕ) → at_first k (s i 1) ≡ given k (s i 1) (run D s) 0
      go input i = refl
      go (register k a) i = refl
      go (oper f xs) i = refl
  runs s (suc n) = same-given (λ i. after (D.kind i) (s i (suc (suc n))) (run D s (suc n))) (λ i. given (D.kind i) (s i (suc (suc n))) (run D s) (suc n)) (run D s (suc (suc n))) (λ i. go (D.kind i) i) (solves (λ i. after (D.kind i) (s i (suc (suc n))) (run D s (suc n))))
    where
      go : (k : Kind) (i : ℕ) → after k (s i (suc (suc n))) (run D s (suc n)) ≡ given k (s i (suc (suc n))) (run D s) (suc n)
      go input i = refl
      go (register k a) i = refl
      go (oper f xs) i = refl
