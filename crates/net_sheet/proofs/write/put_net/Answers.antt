-- `net_sheet::write::put_net` meets its contract. Four stretches, each right behind the one before, are the image.
use mathlib.Core.Path.{◌≡◌, ◌∙◌}
use native.Mathlib.Omega.{arith}
use borrow.Author.Rules.{rules}
use lib.ListN.{length}
use Rattle.layout.proofs.Puts.{placed-fits}
use Rattle.netlist.specs.Netlists.{labels_of}
use Rattle.net_sheet.proofs.Images.{labels_length, put_all}
use Rattle.net_sheet.proofs.write.put_net.Goals as goal

pub returns : goal.returns
returns c =
    let n = c.args.net.now in
    let l : length n.label ≡ 4096 = search rules in
    let k : length (labels_of n) ≡ n.labels = labels_length n (omega arith) in
    c.put_bytes-2.ensures
    ∙ rw c.trailer_bytes-trailer.ensures
    (put_all n c.args.image.now _ _ _ (omega arith) c.requires.3 c.put_records.ensures c.put_outputs.ensures (c.put_bytes.ensures ∙ placed-fits _ _ (labels_of n) (omega arith)))
