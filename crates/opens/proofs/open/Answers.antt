-- `opens::open` meets its contract. The net sheet's refusal, or what the cut sheet and the limit give for its netlist.
use mathlib.Core.Path.{sym, ◌∙◌}
use Rattle.opens.proofs.Answers.{net-bad, net-done}
use Rattle.opens.proofs.open.Goals as goal

pub returns-then-read-ne0 : goal.returns-then-read-ne0
returns-then-read-ne0 c =
    let a = c.args in
    let r = c.read_net-read in
    c.refused.ensures ∙ sym (net-bad a.net.now a.cut.now a.limit r.result r.ensures c.if-read-ne0.true)

pub returns : goal.returns
returns c =
    let a = c.args in
    let r = c.read_net-read in
    rw c.open_cut.ensures (sym (net-done a.net.now a.cut.now a.limit r.result r.ensures c.if-read-ne0.false))
