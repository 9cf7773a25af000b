-- A round fires where some rule is ready: the ready rule is reached, or one before it fired.
use mathlib.Core.Path.{◌≡◌, refl, sym, ap, ◌∙◌, subst}
use mathlib.Core.Logic.{inl, inr}
use mathlib.Core.Bool.{true, cond}
use mathlib.Core.List.{[], List, ◌∷◌, Memᴰ}
use Prim.Native.Nat.{◌+◌, ◌-◌, ◌<◌}
use native.Mathlib.Omega.{arith}
use Rattle.nets.specs.Lists.{bit, tab}
use Rattle.nets.specs.Net.{Net, Good}
use Rattle.nets.specs.State.{State}
use Rattle.nets.specs.Actions.{Action, ready, done, step}
use Rattle.nets.specs.Rounds.{rule_count, rule, in_order, fired_by, round_fires}
use Rattle.nets.proofs.Facts.{split-on}
use Rattle.nets.proofs.Tables.{mem-tab}
use Rattle.nets.proofs.Rounds.{rule-put, rule-finish, put-number, finish-number}
use Rattle.demand.specs.Demands.{SomeReady}
use Rattle.demand.proofs.Live.{Rule}

module _ (N : Net) (G : Good N) (s : State) where
  -- a rule by its number
  pub numbered : (a : Action) → Rule N a → ready N s a ≡ true → SomeReady N s
  numbered a (inl r) e =
      record {
        number = r.0 - N.ins;
        is_rule = put-number N G r.0 r.2;
        is_ready = ap (ready N s) (rule-put N G r.0 r.2 ∙ sym r.1) ∙ e;
      }
  numbered a (inr r) e =
      record {
        number = N.queues - N.ins + r.0;
        is_rule = finish-number N G r.0 r.2;
        is_ready = ap (ready N s) (rule-finish N G r.0 ∙ sym r.1) ∙ e;
      }

fires : (N : Net) (s : State) (xs : List Action) (a : Action) → Memᴰ a xs → ready N s a ≡ true → 0 < fired_by N s xs
unfolding fired_by step
fires N s [] a m r = elim m [ ]
fires N s (x ∷ xs) a (Memᴰ.head p) r = let e : bit (ready N s x) ≡ 1 = ap bit (subst (λ y. ready N s y ≡ true) p r) in omega arith
fires N s (x ∷ xs) a (Memᴰ.tail m) r =
    split-on (λ b. 0 < bit b + fired_by N (cond b (done N s x) s) xs) (ready N s x) (λ _. omega arith) (λ _. omega (arith, fires N s xs a m r))

pub round-fires : (N : Net) (s : State) → SomeReady N s → 0 < round_fires N s
unfolding in_order
round-fires N s R =
    fires N s (tab (rule_count N) (rule N)) (rule N R.number) (mem-tab (rule_count N) (rule N) R.number (rule N R.number) R.is_rule refl) R.is_ready
