-- `rounds::ready` meets its contract: one law for each way out, by whether the rule is ready.
use mathlib.Core.Path.{sym, ◌∙◌, ap}
use mathlib.Core.Bool.{cond}
use Prim.Native.Nat.{◌+◌}
use Rattle.rounds.proofs.Asks.{ask_put, ask_finish, ask_none}
use Rattle.rounds.proofs.ready.Goals.{then-q-n, else-q-n+then-q-n-2}
use Rattle.rounds.proofs.ready.Goals as goal

pub returns-else-q-n-2 : goal.returns-else-q-n-2
returns-else-q-n-2 c = ask_none c.args.plan.now c.args.network.now c.args.rule _ _ (ap (λ x. x + c.args.rule) c.min.ensures) c.min-n.ensures c.if-q-n.false _ c.min-else-q-n.ensures c.if-q-n-2.false

pub returns-then-is_ready : goal.returns-then-is_ready
returns-then-is_ready c =
    let P = c.args.plan.now in
    let L = c.args.network.now in
    let hq = ap (λ x. x + c.args.rule) c.min.ensures in
    sym (ap (λ b. cond b 0 14) c.if-is_ready.true)
    ∙ elim c.if-q-n.branch [
      | then-q-n w ↦
          ask_put P L c.args.rule _ _ hq c.min-n.ensures c.if-q-n.is_ready w.if-q-n.true (w.is_ready-is ∙ w.put_would-is_ready.ensures)
      | else-q-n+then-q-n-2 w ↦
          ask_finish P L c.args.rule _ _ hq c.min-n.ensures w.if-q-n.false _ w.min-else-q-n.ensures _ c.if-q-n.is_ready w.if-q-n-2.true w.finish_asked.ensures w.is_ready-is
    ]

pub returns-else-is_ready : goal.returns-else-is_ready
returns-else-is_ready c =
    let P = c.args.plan.now in
    let L = c.args.network.now in
    let hq = ap (λ x. x + c.args.rule) c.min.ensures in
    sym (ap (λ b. cond b 0 14) c.if-is_ready.false)
    ∙ elim c.if-q-n.branch [
      | then-q-n w ↦
          ask_put P L c.args.rule _ _ hq c.min-n.ensures c.if-q-n.is_ready w.if-q-n.true (w.is_ready-is ∙ w.put_would-is_ready.ensures)
      | else-q-n+then-q-n-2 w ↦
          ask_finish P L c.args.rule _ _ hq c.min-n.ensures w.if-q-n.false _ w.min-else-q-n.ensures _ c.if-q-n.is_ready w.if-q-n-2.true w.finish_asked.ensures w.is_ready-is
    ]
