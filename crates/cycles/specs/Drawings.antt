-- What a cycle is (outline, "A cycle"; 000, section II): a system of equations, in no order. A node is an input, a register, or an operator of other nodes.
use Rattle.std.specs.Prelude.{◌≡◌, ℕ, zero, suc, ◌<◌}
use mathlib.Core.List.{List, [], ◌∷◌, map, Memᴰ}

pub data Kind : Type 0 where
  input : Kind
  -- its first value, and its operand
  register : ℕ → ℕ → Kind
  -- a function of its operands' values
  oper : (List ℕ → ℕ) → List ℕ → Kind

-- A drawing, and a rank that orders the operands which are followed within a cycle: in a sheet it is the node's number.
pub record Drawing : Type 0 where
  pub nodes : ℕ
  pub kind : ℕ → Kind
  pub rank : ℕ → ℕ

-- the operands of a node, and those that it follows in the same cycle
abbrev pub operands : Kind → List ℕ
operands input = []
operands (register k a) = a ∷ []
operands (oper f xs) = xs

abbrev pub inner : Kind → List ℕ
inner input = []
inner (register k a) = []
inner (oper f xs) = xs

-- a node's value: what is given for an input or a register, or its operator of the values of all nodes
abbrev pub value : Kind → ℕ → (ℕ → ℕ) → ℕ
value input l v = l
value (register k a) l v = l
value (oper f xs) l v = f (map v xs)

-- v solves a cycle's equations: each node is its code of its operands, inputs and registers given
abbrev pub Solves : Drawing → (ℕ → ℕ) → (ℕ → ℕ) → Type 0
Solves D given v = (i : ℕ) → i < D.nodes → v i ≡ value (D.kind i) (given i) v

-- What is given in cycle n + 1: x is the input's token of that cycle; a register has its first value in cycle 1, and its operand's value of cycle n afterwards.
abbrev pub given : Kind → ℕ → (ℕ → ℕ → ℕ) → ℕ → ℕ
given input x v n = x
given (register k a) x v zero = k
given (register k a) x v (suc n) = v (suc n) a
given (oper f xs) x v n = 0

-- A run on input streams: v n holds the values of cycle n, cycles counted from 1; s i n is the nth value of input i.
abbrev pub Runs : Drawing → (ℕ → ℕ → ℕ) → (ℕ → ℕ → ℕ) → Type 0
Runs D s v = (n : ℕ) → Solves D (λ i. given (D.kind i) (s i (suc n)) v n) (v (suc n))

-- Every operand is a node, and one that is followed in the same cycle has a smaller rank.
pub record Ordered (D : Drawing) : Type 0 where
  pub known : (b a : ℕ) → b < D.nodes → Memᴰ a (operands (D.kind b)) → a < D.nodes
  pub ranked : (b a : ℕ) → b < D.nodes → Memᴰ a (inner (D.kind b)) → D.rank a < D.rank b
