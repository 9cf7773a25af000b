-- `texts::find_text` meets its contract. The walk from here on is the whole walk; an entry that lies within the section ends further on.
use Rattle.std.proofs.Common.{◌≡◌, ◌+◌, ◌-◌, ◌<◌, length, sym, ap, ◌∙◌, arith}
use Rattle.std.specs.Prelude.{Some}
use Rattle.layout.specs.Labels.{entry_end}
use Rattle.texts.specs.Texts.{text_from, where_found}
use Rattle.texts.proofs.Walk.{text-here, text-next, text_cut}
use Rattle.texts.proofs.find_text.Goals as goal

pub returns-then-entry-node : goal.returns-then-entry-node
returns-then-entry-node c =
    let l = c.loop-entry in
    let h = c.in-Some.ensures in
    ap (λ e. Some e.text) h.1 ∙ ap where_found (sym (text-here c.args.s.now c.args.node l.i h.0 (sym (ap (λ e. e.node) h.1) ∙ c.if-entry-node.true)) ∙ l.invariant.1)

pub loop-entry-preserved : goal.loop-entry-preserved
loop-entry-preserved c =
    let l = c.loop-entry in
    let s = c.args.s.now in
    let h = c.in-Some.ensures in
    let e : c.in-Some.entry.text.from + c.in-Some.entry.text.length ≡ entry_end s l.i = ap (λ e. e.text.from + e.text.length) h.1 in
    (omega (arith, e, h.0), ap (λ k. text_from (length s - k) s c.args.node k) e ∙ sym (text-next s c.args.node l.i h.0 (λ q. c.if-entry-node.false (ap (λ e. e.node) h.1 ∙ q))) ∙ l.invariant.1)

pub returns : goal.returns
returns c =
    let l = c.loop-entry in
    let h = c.in_default.ensures in
    let cut : length c.args.s.now < entry_end c.args.s.now l.i = omega (arith, h) in
    ap where_found (sym (text_cut c.args.s.now c.args.node _ l.i cut) ∙ l.invariant.1)
