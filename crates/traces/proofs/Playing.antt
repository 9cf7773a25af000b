-- A line and a byte, by their cases: each law takes what the calls promise, and gives what the line or the byte promises.
use mathlib.Core.Path.{◌≡◌, refl, sym, ap, ◌∙◌}
use mathlib.Core.Bool.{Bool, true, false, cond}
use mathlib.Core.List.{List, []}
use Prim.Native.Nat.{ℕ, ◌+◌}
use lib.Dec.{eqb, leb}
use lib.ListN.{length}
use Rattle.base.proofs.Patch.{patch-none}
use Rattle.base.specs.Lists.{patch}
use Rattle.layout.specs.Write.{placed}
use Rattle.plans.specs.declared.Plan.{Plan}
use Rattle.lanes.specs.declared.Network.{Network}
use Rattle.spots.specs.Rounds.{round_on, fired_on}
use Rattle.rounds.specs.Runs.{Rounded}
use Rattle.std.specs.Prelude.{Ok, Err}
use Rattle.refusals.specs.declared.Refusal.{Refusal}
use Rattle.refusals.specs.Numbers.{number}
use Rattle.refusals.proofs.Numbers.{number_some}
use Rattle.orders.specs.Orders.{entry_of, ActOn, act_on, Acts}
use Rattle.lines.specs.declared.Reading.{Reading}
use Rattle.lines.specs.Commands.{nothing, byte_read, is_command}
use Rattle.lines.specs.Answers.{answer_text, value_text}
use Rattle.traces.specs.Traces.{LineOn, line_of, act_text, line_on, LinePlayed, byte_on, BytePlayed}

-- ---- a line

played : (P : Plan) (L : Network) (R : Reading) (out : List ℕ) (at r : ℕ) (M : Network) (out' : List ℕ) (l : LineOn) → line_on P L R ≡ l → r ≡ length l.text → M ≡ l.network → out' ≡ placed out at l.text → LinePlayed P L R out at r M out'
played P L R out at r M out' l e f g h = rw e (f, g, h)

is_other : (P : Plan) (L : Network) (R : Reading) → is_command R ≡ false → line_on P L R ≡ line_of L (answer_text 17)
unfolding line_on
is_other P L R e = rw e

is_round : (P : Plan) (L : Network) (R : Reading) → is_command R ≡ true → eqb R.kind 3 ≡ true → line_on P L R ≡ line_of (round_on P L) (value_text 0 (fired_on P L))
unfolding line_on
is_round P L R e f = rw (e, f)

abbrev act_read : Plan → Network → Reading → ActOn
act_read P L R = act_on P L (entry_of R.kind R.index R.value)

is_act : (P : Plan) (L : Network) (R : Reading) → is_command R ≡ true → eqb R.kind 3 ≡ false → line_on P L R ≡ line_of (act_read P L R).network (act_text R.kind (act_read P L R))
unfolding line_on
is_act P L R e f = rw (e, f)

pub line_other : (P : Plan) (L : Network) (R : Reading) (out : List ℕ) (at r : ℕ) (out' : List ℕ) → is_command R ≡ false → r ≡ length (answer_text 17) → out' ≡ placed out at (answer_text 17) → LinePlayed P L R out at r L out'
line_other P L R out at r out' c e f = played P L R out at r L out' (line_of L (answer_text 17)) (is_other P L R c) e refl f

pub line_round : (P : Plan) (L : Network) (R : Reading) (out : List ℕ) (at r : ℕ) (M : Network) (out' : List ℕ) (fired : ℕ) → is_command R ≡ true → eqb R.kind 3 ≡ true → Rounded P L fired M → r ≡ length (value_text 0 fired) → out' ≡ placed out at (value_text 0 fired) → LinePlayed P L R out at r M out'
line_round P L R out at r M out' fired c k e f g =
    played P L R out at r M out' (line_of (round_on P L) (value_text 0 (fired_on P L))) (is_round P L R c k) (f ∙ ap (λ n. length (value_text 0 n)) e.0) e.1 (g ∙ ap (λ n. placed out at (value_text 0 n)) e.0)

acted : (P : Plan) (L : Network) (R : Reading) (out : List ℕ) (at r : ℕ) (M : Network) (out' text : List ℕ) → is_command R ≡ true → eqb R.kind 3 ≡ false → M ≡ (act_read P L R).network → act_text R.kind (act_read P L R) ≡ text → r ≡ length text → out' ≡ placed out at text → LinePlayed P L R out at r M out'
acted P L R out at r M out' text c k m t e f =
    played P L R out at r M out' (line_of (act_read P L R).network (act_text R.kind (act_read P L R))) (is_act P L R c k) (e ∙ ap length (sym t)) m (f ∙ ap (λ x. placed out at x) (sym t))

module _ (P : Plan) (L : Network) (R : Reading) (out : List ℕ) (at r : ℕ) (M : Network) (out' : List ℕ) (c : is_command R ≡ true) (k : eqb R.kind 3 ≡ false) where
  abbrev a : ActOn
  a = act_read P L R

  pub line_value : (v : ℕ) → Acts P L (entry_of R.kind R.index R.value) (Ok v) M → eqb R.kind 1 ≡ true → r ≡ length (value_text 0 v) → out' ≡ placed out at (value_text 0 v) → LinePlayed P L R out at r M out'
  line_value v e t f g = acted P L R out at r M out' (value_text 0 v) c k e.2 (rw (← e.0, t) (ap (λ n. value_text 0 n) (sym e.1))) f g

  pub line_done : (v : ℕ) → Acts P L (entry_of R.kind R.index R.value) (Ok v) M → eqb R.kind 1 ≡ false → r ≡ length (answer_text 0) → out' ≡ placed out at (answer_text 0) → LinePlayed P L R out at r M out'
  line_done v e t f g = acted P L R out at r M out' (answer_text 0) c k e.2 (rw (← e.0, t) refl) f g

  pub line_answer : (x : Refusal) → Acts P L (entry_of R.kind R.index R.value) (Err x) M → r ≡ length (answer_text (number x)) → out' ≡ placed out at (answer_text (number x)) → LinePlayed P L R out at r M out'
  line_answer x e f g = acted P L R out at r M out' (answer_text (number x)) c k e.2 (rw (← e.0, number_some x) refl) f g

-- ---- a byte

pub byte-end : (P : Plan) (L : Network) (R S : Reading) (b : ℕ) (out : List ℕ) (at w : ℕ) (M : Network) (out' : List ℕ) → eqb b 10 ≡ true → LinePlayed P L R out at w M out' → S ≡ nothing → BytePlayed P L R b out at (record { wrote = w; reading = S }) M out'
unfolding byte_on
byte-end P L R S b out at w M out' t e f = rw t (λ i. record { wrote = e.0 i; reading = f i }, e.1, e.2)

placed-none : (out : List ℕ) (at : ℕ) → out ≡ placed out at []
placed-none out at = go (leb (at + 0) (length out))
  where
    go : (t : Bool) → out ≡ cond t (patch out at []) out
    go true = sym (patch-none out at)
    go false = refl

pub byte_more : (P : Plan) (L : Network) (R S : Reading) (b : ℕ) (out : List ℕ) (at : ℕ) → eqb b 10 ≡ false → S ≡ byte_read R b → BytePlayed P L R b out at (record { wrote = 0; reading = S }) L out
unfolding byte_on
byte_more P L R S b out at t e = rw t (λ i. record { wrote = 0; reading = e i }, refl, placed-none out at)
