-- `layout::labels::good_entry` meets its contract. An entry that does not lie within the section is not good; else its number, its length and its text decide.
use mathlib.Core.Path.{◌≡◌, ◌∙◌, ap}
use Prim.Native.Nat.{◌+◌, ◌≤◌, ◌<◌}
use native.Mathlib.Omega.{arith}
use borrow.Author.Rules.{rules}
use lib.ListN.{length, take, drop}
use Rattle.std.specs.List.{list_all}
use Rattle.layout.specs.Labels.{text_byte, entry_length, entry_end}
use Rattle.layout.proofs.Entries.{entry-within, stretch-text, entry-judged}
use Rattle.layout.proofs.labels.good_entry.Goals as goal

pub returns-then-s-i-lt3 : goal.returns-then-s-i-lt3
returns-then-s-i-lt3 c g =
    let h : entry_end c.args.s.now c.args.i ≤ length c.args.s.now = entry-within c.args.nodes c.args.least c.args.s.now c.args.i g in
    omega arith

pub returns-in_err-text : goal.returns-in_err-text
returns-in_err-text c =
    let past : length c.args.s.now < entry_end c.args.s.now c.args.i = search rules in
    rw c.from_residual.ensures
    (λ g.
    let h : entry_end c.args.s.now c.args.i ≤ length c.args.s.now = entry-within c.args.nodes c.args.least c.args.s.now c.args.i g in
    omega arith)

pub returns : goal.returns
returns c =
    let s = c.args.s.now in
    let i = c.args.i in
    let within : entry_end s i ≤ length s = search rules in
    let text : c.in_ok-text.text.now ≡ take (entry_length s i) (drop (i + 3) s) = search rules in
    rw c.then_some.ensures
    (entry-judged c.args.nodes c.args.least s i _ _ c.le16-node.ensures (c.all_text.ensures ∙ ap (λ l. list_all text_byte l) text ∙ stretch-text s (i + 3) (entry_length s i) within) within)
