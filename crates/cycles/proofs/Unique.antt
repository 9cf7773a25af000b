-- One set of values solves a cycle, and one run goes with its streams. By induction on the rank, and on the cycle.
use mathlib.Core.Path.{◌≡◌, refl, sym, ◌∙◌, ap, ap₂}
use mathlib.Core.List.{List, [], ◌∷◌, map, Memᴰ}
use Prim.Native.Nat.{ℕ, zero, suc, ◌<◌}
use native.Mathlib.Nat.{not-suc-le-zero, le_refl}
use native.Mathlib.Omega.{arith}
use Rattle.cycles.specs.Drawings.{Kind, input, register, oper, Drawing, operands, inner, value, given, Solves, Runs, Ordered}

map_same : (f g : ℕ → ℕ) (xs : List ℕ) → ((a : ℕ) → Memᴰ a xs → f a ≡ g a) → map f xs ≡ map g xs
map_same f g [] h = refl
map_same f g (x ∷ xs) h = ap₂ ◌∷◌ (h x (Memᴰ.head refl)) (map_same f g xs (λ a m. h a (Memᴰ.tail m)))

-- values that agree on what is given and on the operands that a node follows
pub same-value : (k : Kind) (x y : ℕ) (v w : ℕ → ℕ) → x ≡ y → ((a : ℕ) → Memᴰ a (inner k) → v a ≡ w a) → value k x v ≡ value k y w
same-value input x y v w e h = e
same-value (register k a) x y v w e h = e
same-value (oper f xs) x y v w e h = ap f (map_same v w xs h)

pub inner-node : (k : Kind) (a : ℕ) → Memᴰ a (inner k) → Memᴰ a (operands k)
inner-node input a m = m
inner-node (register k b) a m = elim m [ ]
inner-node (oper f xs) a m = m

module _ (D : Drawing) (O : Ordered D) where
  same-below : (l m v w : ℕ → ℕ) → ((i : ℕ) → i < D.nodes → l i ≡ m i) → Solves D l v → Solves D m w
      → (f i : ℕ) → i < D.nodes → D.rank i < f → v i ≡ w i
  same-below l m v w e hv hw zero i n h = absurd (not-suc-le-zero h)
  same-below l m v w e hv hw (suc f) i n h =
      hv i n
      ∙ same-value (D.kind i) (l i) (m i) v w (e i n)
      (λ a u. same-below l m v w e hv hw f a (O.known i a n (inner-node (D.kind i) a u)) (let r = O.ranked i a n u in omega arith))
      ∙ sym (hw i n)

  pub one_solution : (l m v w : ℕ → ℕ) → ((i : ℕ) → i < D.nodes → l i ≡ m i) → Solves D l v → Solves D m w → (i : ℕ) → i < D.nodes → v i ≡ w i
  one_solution l m v w e hv hw i n = same-below l m v w e hv hw (suc (D.rank i)) i n (le_refl (suc (D.rank i)))

  -- from the cycle before, or from none
  next-same : (s v w : ℕ → ℕ → ℕ) → Runs D s v → Runs D s w → (n : ℕ) → ((a : ℕ) → a < D.nodes → (k : ℕ) → n ≡ suc k → v n a ≡ w n a) → (i : ℕ) → i < D.nodes → v (suc n) i ≡ w (suc n) i
  next-same s v w hv hw n before i h =
      one_solution (λ j. given (D.kind j) (s j (suc n)) v n) (λ j. given (D.kind j) (s j (suc n)) w n) (v (suc n)) (w (suc n))
      (λ j u. at (D.kind j) (s j (suc n)) n (λ a m. O.known j a u m) before) (hv n) (hw n) i h
    where
      at : (k : Kind) (x n : ℕ) → ((a : ℕ) → Memᴰ a (operands k) → a < D.nodes) → ((a : ℕ) → a < D.nodes → (k : ℕ) → n ≡ suc k → v n a ≡ w n a) → given k x v n ≡ given k x w n
      at input x n u b = refl
      at (register k a) x zero u b = refl
      at (register k a) x (suc n) u b = b a (u a (Memᴰ.head refl)) n refl
      at (oper f xs) x n u b = refl

  -- one run goes with the streams
  pub one-run : (s v w : ℕ → ℕ → ℕ) → Runs D s v → Runs D s w → (n i : ℕ) → i < D.nodes → v (suc n) i ≡ w (suc n) i
  one-run s v w hv hw zero i h = next-same s v w hv hw 0 (λ a l k e. let z : ⊥ = omega arith in absurd z) i h
  one-run s v w hv hw (suc n) i h = next-same s v w hv hw (suc n) (λ a l k e. one-run s v w hv hw n a l) i h
