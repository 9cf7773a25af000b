-- The state of a network, and how a part sees its nodes: their present values, and whether what they need is there (outline, "Rules of the network").
use Rattle.std.specs.Prelude.{◌≡◌, ◌≢◌, Bool, true, false, cond, ℕ, zero, suc, eqb, ltb, get_or}
use mathlib.Core.List.{List, [], ◌∷◌, map, Memᴰ}
use Rattle.cycles.specs.Drawings.{Kind, input, register, oper}
use Rattle.nets.specs.Lists.{all_of}
use Rattle.nets.specs.Net.{Net}

-- what each queue holds, oldest token first; each put rule's done flag, by queue; what each REG holds, by node; each part's finished cycles
pub record State : Type 0 where
  pub queue : ℕ → List ℕ
  pub flag : ℕ → Bool
  pub held : ℕ → ℕ
  pub count : ℕ → ℕ

-- what a node holds at first: k at a REG
abbrev pub first_of : Kind → ℕ
first_of input = 0
first_of (register k a) = k
first_of (oper f xs) = 0

-- flags off, counts 0, registers at first values, queues empty
unfoldable pub fresh : Net → State
fresh N =
    record {
      queue = λ q. [];
      flag = λ q. false;
      held = λ i. cond (ltb i N.draw.nodes) (first_of (N.draw.kind i)) 0;
      count = λ p. 0;
    }

-- ---- how a part sees a node

-- by a queue's oldest token; as a register; or as an operator of nodes that the part sees
pub data View : Type 0 where
  token : ℕ → View
  kept : View
  calc : (List ℕ → ℕ) → List ℕ → View

-- a node of the part itself, q being its queue there if it is an IN
abbrev pub own : ℕ → Kind → View
own q input = token q
own q (register k a) = kept
own q (oper f xs) = calc f xs

-- another part's node is seen by its channel, a REG too
unfoldable pub view : Net → ℕ → ℕ → View
view N p i = cond (eqb (N.part i) p) (own (N.via p i) (N.draw.kind i)) (token (N.via p i))

abbrev pub some_token : List ℕ → Bool
some_token [] = false
some_token (x ∷ xs) = true

-- The equations of a part: v i is node i's value, t i whether each queue that it needs has a token.
abbrev pub value_in : State → ℕ → (ℕ → ℕ) → View → ℕ
value_in s i v (token q) = get_or (s.queue q) 0 0
value_in s i v kept = s.held i
value_in s i v (calc f xs) = f (map v xs)

abbrev pub met_in : State → (ℕ → Bool) → View → Bool
met_in s t (token q) = some_token (s.queue q)
met_in s t kept = true
met_in s t (calc f xs) = all_of t xs

-- their solution, operands followed f deep
unfoldable pub eval : Net → State → ℕ → ℕ → ℕ → ℕ
eval N s p zero i = 0
eval N s p (suc f) i = value_in s i (eval N s p f) (view N p i)

unfoldable pub met : Net → State → ℕ → ℕ → ℕ → Bool
met N s p zero i = false
met N s p (suc f) i = met_in s (met N s p f) (view N p i)

-- node i's present value in part p, and whether its needs are met there
unfoldable pub present : Net → State → ℕ → ℕ → ℕ
present N s p i = eval N s p (suc (N.draw.rank i)) i

unfoldable pub needs_met : Net → State → ℕ → ℕ → Bool
needs_met N s p i = met N s p (suc (N.draw.rank i)) i

-- The same equations with each node in its own part, w i and t i being its own there: an operand of another part is its channel's oldest token.
abbrev pub read_in : Net → State → (ℕ → ℕ) → ℕ → ℕ → ℕ
read_in N s w p a = cond (eqb (N.part a) p) (w a) (get_or (s.queue (N.via p a)) 0 0)

abbrev pub own_value : Net → State → (ℕ → ℕ) → ℕ → ℕ
own_value N s w i = value_in s i (read_in N s w (N.part i)) (own (N.via (N.part i) i) (N.draw.kind i))

abbrev pub there_in : Net → State → (ℕ → Bool) → ℕ → ℕ → Bool
there_in N s t p a = cond (eqb (N.part a) p) (t a) (some_token (s.queue (N.via p a)))

abbrev pub own_met : Net → State → (ℕ → Bool) → ℕ → Bool
own_met N s t i = met_in s (there_in N s t (N.part i)) (own (N.via (N.part i) i) (N.draw.kind i))

-- ---- needs in the outline's words

-- the incoming queues of part p that node i reaches through operands inside the part, stopping at a REG
pub data Reaches (N : Net) (p : ℕ) : ℕ → ℕ → Type 0 where
  by_channel : {i : ℕ} → N.part i ≢ p → Reaches N p i (N.via p i)
  by_input : {i : ℕ} → N.part i ≡ p → N.draw.kind i ≡ input → Reaches N p i (N.via p i)
  by_operand : {i q : ℕ} (f : List ℕ → ℕ) (xs : List ℕ) (a : ℕ) → N.part i ≡ p → N.draw.kind i ≡ oper f xs → Memᴰ a xs → Reaches N p a q → Reaches N p i q
