-- `rounds::fire` meets its contract: one law for each way out, by whether it fired.
use mathlib.Core.Path.{◌≡◌, refl, ◌∙◌, ap}
use Prim.Native.Nat.{◌+◌}
use borrow.Author.Tests.{ne_eqb}
use Rattle.rounds.specs.Fires.{no_puts, firing}
use Rattle.rounds.proofs.Left.{left-finishes}
use Rattle.rounds.proofs.Ways.{fire-put, fire-finish, fire-none}
use Rattle.rounds.proofs.fire.Goals.{then-q-n, else-q-n+then-q-n-2}
use Rattle.rounds.proofs.fire.Goals as goal

pub returns-else-q-n-2 : goal.returns-else-q-n-2
returns-else-q-n-2 c = fire-none c.args.plan.now c.args.network.now c.args.rule _ _ (ap (λ x. x + c.args.rule) c.min.ensures) c.min-n.ensures c.if-q-n.false _ c.min-else-q-n.ensures c.if-q-n-2.false

pub returns-then-waits : goal.returns-then-waits
returns-then-waits c =
    let P = c.args.plan.now in
    let L = c.args.network.now in
    let e : 14 ≡ firing c.if-q-n.fired = rw c.if-waits.true refl in
    let hq = ap (λ x. x + c.args.rule) c.min.ensures in
    elim c.if-q-n.branch [
      | then-q-n w ↦ fire-put P L c.args.rule _ _ hq c.min-n.ensures c.if-q-n.fired 14 c.if-q-n.network w.if-q-n.true (w.fired-is ∙ w.try_puts-fired.ensures.0) (w.network-is ∙ w.try_puts-fired.ensures.1) e
      | else-q-n+then-q-n-2 w ↦
          let f = left-finishes P L (no_puts P L) _ _ _ _ _ _ _ w.try_puts.ensures w.finish_rules.ensures in
          fire-finish P L c.args.rule _ _ hq c.min-n.ensures w.if-q-n.false _ w.min-else-q-n.ensures c.if-q-n.fired 14 c.if-q-n.network w.if-q-n-2.true (w.fired-is ∙ f.0) (w.network-is ∙ f.1) e
    ]

pub returns : goal.returns
returns c =
    let P = c.args.plan.now in
    let L = c.args.network.now in
    let e : 0 ≡ firing c.if-q-n.fired = rw (ne_eqb c.if-q-n.fired 0 c.if-waits.false) refl in
    let hq = ap (λ x. x + c.args.rule) c.min.ensures in
    elim c.if-q-n.branch [
      | then-q-n w ↦ fire-put P L c.args.rule _ _ hq c.min-n.ensures c.if-q-n.fired 0 c.if-q-n.network w.if-q-n.true (w.fired-is ∙ w.try_puts-fired.ensures.0) (w.network-is ∙ w.try_puts-fired.ensures.1) e
      | else-q-n+then-q-n-2 w ↦
          let f = left-finishes P L (no_puts P L) _ _ _ _ _ _ _ w.try_puts.ensures w.finish_rules.ensures in
          fire-finish P L c.args.rule _ _ hq c.min-n.ensures w.if-q-n.false _ w.min-else-q-n.ensures c.if-q-n.fired 0 c.if-q-n.network w.if-q-n-2.true (w.fired-is ∙ f.0) (w.network-is ∙ f.1) e
    ]
