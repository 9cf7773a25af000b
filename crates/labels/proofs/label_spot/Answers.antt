-- `labels::label_spot` meets its contract. Sheets that both readers accept have good trailers, which the search for a text asks for.
use mathlib.Core.Path.{◌≡◌, sym, ◌∙◌, ap}
use mathlib.Core.Bool.{true}
use mathlib.Core.List.{List}
use Prim.Native.Nat.{ℕ}
use Rattle.net_sheet.specs.declared.read.NetRead.{NetRead}
use Rattle.cut_sheet.specs.declared.read.CutRead.{CutRead}
use Rattle.net_sheet.specs.Reading.{net_read}
use Rattle.cut_sheet.specs.Reading.{cut_read}
use Rattle.labels.specs.Spots.{opens}
use Rattle.labels.proofs.Spots.{opened, opens-both, spot_open, spot_no_net, spot_no_cut}
use Rattle.labels.proofs.label_spot.Goals as goal

-- past both tests both readers answer 0
both : (net cut : List ℕ) (n : NetRead) (v : CutRead) → n ≡ net_read net → v ≡ cut_read n.net cut → n.answer ≡ 0 → v.answer ≡ 0 → opens net cut ≡ true
both net cut n v en ev e f =
    let f : (cut_read n.net cut).answer ≡ 0 = sym (ap (λ r. r.answer) ev) ∙ f in
    opens-both net cut (sym (ap (λ r. r.answer) en) ∙ e) (rw en at f)

pub returns-then-got-ne0 : goal.returns-then-got-ne0
returns-then-got-ne0 c =
    let a = c.args in
    c.net_end.ensures ∙ sym (spot_no_net a.net.now a.cut.now a.node (λ z. c.if-got-ne0.true (ap (λ r. r.answer) c.read_net-got.ensures ∙ z)))

pub returns-then-read-ne0 : goal.returns-then-read-ne0
returns-then-read-ne0 c =
    let a = c.args in
    let v = c.read_cut-read in
    c.net_end-then-read-ne0.ensures
    ∙ sym (spot_no_cut a.net.now a.cut.now a.node (λ z. c.if-read-ne0.true (ap (λ r. r.answer) v.ensures ∙ rw c.read_net-got.ensures z)))

pub open_spot-requires : goal.open_spot-requires
open_spot-requires c =
    let a = c.args in
    let o = opened a.net.now a.cut.now (both a.net.now a.cut.now _ _ c.read_net-got.ensures c.read_cut-read.ensures c.if-got-ne0.false c.if-read-ne0.false) in
    (o.net_is.good, o.cut_is.good)

pub returns : goal.returns
returns c =
    let a = c.args in
    c.open_spot.ensures ∙ sym (spot_open a.net.now a.cut.now a.node (both a.net.now a.cut.now _ _ c.read_net-got.ensures c.read_cut-read.ensures c.if-got-ne0.false c.if-read-ne0.false))
