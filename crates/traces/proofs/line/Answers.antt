-- `traces::line` meets its contract: one law for each case.
use borrow.Author.Tests.{eq-eqb, ne_eqb}
use mathlib.Core.Path.{sym, ◌∙◌, ap}
use lib.ListN.{length}
use Rattle.layout.specs.Write.{placed}
use Rattle.lines.specs.Answers.{answer_text}
use Rattle.refusals.specs.Numbers.{answered, valued}
use Rattle.traces.proofs.Playing.{line_other, line_round, line_value, line_done, line_answer}
use Rattle.traces.proofs.line.Goals as goal

pub returns-then-not-is_command : goal.returns-then-not-is_command
returns-then-not-is_command c =
    let a = c.args in
    let p = c.put_answer.ensures in
    (line_other a.plan.now a.network.now a.reading a.out.now a.at _ _ (sym c.is_command.ensures ∙ c.if-not-is_command.true) p.0 p.1, p.2)

pub returns-then-reading-eq3 : goal.returns-then-reading-eq3
returns-then-reading-eq3 c =
    let a = c.args in
    let p = c.put_value.ensures in
    (line_round a.plan.now a.network.now a.reading a.out.now a.at _ _ _ _ (sym c.is_command.ensures ∙ c.if-not-is_command.false) (eq-eqb _ _ c.if-reading-eq3.true) c.round-fired.ensures p.0 p.1, p.2)

pub returns-in-Ok : goal.returns-in-Ok
returns-in-Ok c =
    let a = c.args in
    let p = c.put_value-in-Ok.ensures in
    (line_value a.plan.now a.network.now a.reading a.out.now a.at _ _ _ (sym c.is_command.ensures ∙ c.if-not-is_command.false) (ne_eqb _ _ c.if-reading-eq3.false) c.in-Ok.value (ap answered (sym c.in-Ok.is) ∙ c.act.ensures.0, ap valued (sym c.in-Ok.is) ∙ c.act.ensures.1, c.act.ensures.2) (eq-eqb _ _ c.if-drains.true) p.0 p.1, p.2)

pub returns-in-Ok-2 : goal.returns-in-Ok-2
returns-in-Ok-2 c =
    let a = c.args in
    let p = c.put_answer-in-Ok-2.ensures in
    (line_done a.plan.now a.network.now a.reading a.out.now a.at _ _ _ (sym c.is_command.ensures ∙ c.if-not-is_command.false) (ne_eqb _ _ c.if-reading-eq3.false) _ (ap answered (sym c.in-Ok-2.is) ∙ c.act.ensures.0, ap valued (sym c.in-Ok-2.is) ∙ c.act.ensures.1, c.act.ensures.2) (ne_eqb _ _ c.if-drains.false) p.0 p.1, p.2)

pub returns-in-Err : goal.returns-in-Err
returns-in-Err c =
    let a = c.args in
    let p = c.put_answer-in-Err.ensures in
    (line_answer a.plan.now a.network.now a.reading a.out.now a.at _ _ _ (sym c.is_command.ensures ∙ c.if-not-is_command.false) (ne_eqb _ _ c.if-reading-eq3.false) c.in-Err.refusal (ap answered (sym c.in-Err.is) ∙ c.act.ensures.0, ap valued (sym c.in-Err.is) ∙ c.act.ensures.1, c.act.ensures.2) (p.0 ∙ ap (λ n. length (answer_text n)) c.number.ensures) (p.1 ∙ ap (λ n. placed a.out.now a.at (answer_text n)) c.number.ensures), p.2)
