-- Feed, drain, put and Finish: when each is ready, and what it does (outline, "Rules of the network"; 000, III-E).
use Rattle.std.specs.Prelude.{Bool, true, false, not, ◌&&◌, cond, ℕ, suc, eqb, ltb, length}
use mathlib.Core.List.{List, [], ◌∷◌, ◌++◌, tail}
use Rattle.base.specs.Checks.{every}
use Rattle.cycles.specs.Drawings.{Kind, input, register, oper}
use Rattle.nets.specs.Lists.{at, all_hold, implies}
use Rattle.nets.specs.Net.{Net}
use Rattle.nets.specs.State.{State, some_token, present, needs_met}

-- a feed of queue q with a value, a drain of queue q, the put rule of queue q, the Finish of part p
pub data Action : Type 0 where
  feed : ℕ → ℕ → Action
  drain : ℕ → Action
  put : ℕ → Action
  finish : ℕ → Action

-- ---- when an action is ready

unfoldable pub room : Net → State → ℕ → Bool
room N s q = ltb (length (s.queue q)) (N.depth q)

-- of queue q, for Finish of part p: its flag is on where p puts on it, it has a token where p takes from it
abbrev pub done_at : Net → State → ℕ → ℕ → Bool
done_at N s p q = implies (eqb (N.from q) p) (s.flag q) && implies (eqb (N.into q) p) (some_token (s.queue q))

-- what an action asks, one test an entry
unfoldable pub tests : Net → State → Action → List Bool
tests N s (feed q x) = ltb (N.into q) N.parts ∷ not (ltb (N.from q) N.parts) ∷ room N s q ∷ N.allow (N.node q) x ∷ []
tests N s (drain q) = ltb (N.from q) N.parts ∷ not (ltb (N.into q) N.parts) ∷ some_token (s.queue q) ∷ []
tests N s (put q) =
    ltb (N.from q) N.parts ∷ ltb (s.count (N.from q)) N.limit ∷ not (s.flag q) ∷ room N s q ∷ needs_met N s (N.from q) (N.node q) ∷ []
tests N s (finish p) = ltb p N.parts ∷ ltb (s.count p) N.limit ∷ every (done_at N s p) N.queues ∷ []

unfoldable pub ready : Net → State → Action → Bool
ready N s a = all_hold (tests N s a)

-- ---- what it does

-- node i is one of part p's
abbrev pub within : Net → ℕ → ℕ → Bool
within N p i = ltb i N.draw.nodes && eqb (N.part i) p

-- what a node of part p holds next: a REG its operand's present value
abbrev pub next_of : Net → State → ℕ → ℕ → Kind → ℕ
next_of N s p i input = s.held i
next_of N s p i (register k a) = present N s p a
next_of N s p i (oper f xs) = s.held i

-- Finish takes one token from each incoming queue, changes the part's registers together, clears its flags and counts one cycle.
unfoldable pub done : Net → State → Action → State
done N s (feed q x) = record { queue = at q (s.queue q ++ (x ∷ [])) s.queue; flag = s.flag; held = s.held; count = s.count }
done N s (drain q) = record { queue = at q (tail (s.queue q)) s.queue; flag = s.flag; held = s.held; count = s.count }
done N s (put q) =
    record {
      queue = at q (s.queue q ++ (present N s (N.from q) (N.node q) ∷ [])) s.queue;
      flag = at q true s.flag;
      held = s.held;
      count = s.count;
    }
done N s (finish p) =
    record {
      queue = λ q. cond (eqb (N.into q) p) (tail (s.queue q)) (s.queue q);
      flag = λ q. cond (eqb (N.from q) p) false (s.flag q);
      held = λ i. cond (within N p i) (next_of N s p i (N.draw.kind i)) (s.held i);
      count = at p (suc (s.count p)) s.count;
    }

-- an action that is not ready changes nothing
unfoldable pub step : Net → State → Action → State
step N s a = cond (ready N s a) (done N s a) s

unfoldable pub play : Net → State → List Action → State
play N s [] = s
play N s (a ∷ xs) = play N (step N s a) xs
