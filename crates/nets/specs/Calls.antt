-- What feed, drain and fire answer (outline, "Numbers given back"): 12, no such input, output or rule; 13, a value not below 2^w; 14, full, empty, not ready.
use Rattle.std.specs.Prelude.{◌≡◌, Bool, false, cond, List, [], ◌∷◌, ℕ, eqb, ltb}
use Rattle.std.specs.Prelude.{Option}
use Rattle.base.specs.Checks.{whole, verdict}
use Rattle.nets.specs.Net.{Net}
use Rattle.nets.specs.State.{State, some_token}
use Rattle.nets.specs.Actions.{Action, room, ready}
use Rattle.nets.specs.Rounds.{rule_count, rule}
use Rattle.nets.specs.Orders.{Entry, output_queue, asked}

abbrev pub feed_checks : Net → State → ℕ → ℕ → List (ℕ × Option ℕ)
feed_checks N s j x = (12, whole (ltb j N.ins)) ∷ (13, whole (N.allow (N.node j) x)) ∷ (14, whole (room N s j)) ∷ []

abbrev pub drain_checks : Net → State → ℕ → List (ℕ × Option ℕ)
drain_checks N s j = (12, whole (ltb j N.outs)) ∷ (14, whole (some_token (s.queue (output_queue N j)))) ∷ []

abbrev pub fire_checks : Net → State → ℕ → List (ℕ × Option ℕ)
fire_checks N s r = (12, whole (ltb r (rule_count N))) ∷ (14, whole (ready N s (rule N r))) ∷ []

-- the checks of an entry, by its kind; another kind is refused as 12
abbrev pub checks_of : Net → State → Entry → List (ℕ × Option ℕ)
checks_of N s e =
    cond (eqb e.kind 0) (feed_checks N s e.index e.value)
    (cond (eqb e.kind 1) (drain_checks N s e.index)
    (cond (eqb e.kind 2) (fire_checks N s e.index) ((12, whole false) ∷ [])))

unfoldable pub answer_to : Net → State → Entry → ℕ
answer_to N s e = (verdict (checks_of N s e)).answer

-- an action is asked for, and it is ready
abbrev pub some_ready : Net → State → List Action → Bool
some_ready N s [] = false
some_ready N s (a ∷ xs) = ready N s a

-- The answer is 0 exactly where the action that is asked for is ready, so that the call's state is `play N s (asked N e)`.
abbrev pub AnswersRight : Net → Type 0
AnswersRight N = (s : State) (e : Entry) → eqb (answer_to N s e) 0 ≡ some_ready N s (asked N e)
