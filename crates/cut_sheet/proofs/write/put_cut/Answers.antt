-- `cut_sheet::write::put_cut` meets its contract. Four stretches, each right behind the one before, are the image.
use mathlib.Core.Path.{◌≡◌, ◌∙◌}
use Prim.Native.Nat.{◌+◌}
use native.Mathlib.Omega.{arith}
use borrow.Author.Rules.{rules}
use lib.ListN.{length}
use Rattle.layout.proofs.Puts.{placed-fits}
use Rattle.cut.specs.Cuts.{cut_labels}
use Rattle.cut_sheet.proofs.Images.{Long, parts-length, depths-length, labels_length, part_section, depth_section, put_all}
use Rattle.cut_sheet.proofs.write.put_cut.Goals as goal

pub returns : goal.returns
returns c =
    let x = c.args.cut.now in
    let p : length x.part ≡ 1024 = search rules in
    let d : length x.depth ≡ 512 = search rules in
    let l : length x.label ≡ 4096 = search rules in
    let long : Long x = record { part = omega arith; depth = omega arith; label = omega arith } in
    let k1 = parts-length x long in
    let k2 = depths-length x long in
    let k3 = labels_length x long in
    let one = c.put_bytes.ensures ∙ placed-fits c.args.image.now 0 (part_section x) (rw k1 (omega arith)) in
    let two = c.put_bytes-2.ensures ∙ placed-fits c.put_bytes.new.image x.nodes (depth_section x) (rw k2 (omega arith)) in
    let three = c.put_bytes-3.ensures ∙ placed-fits c.put_bytes-2.new.image (x.nodes + x.queues) (cut_labels x) (rw k3 (omega arith)) in
    c.put_bytes-4.ensures
    ∙ rw c.trailer_bytes-trailer.ensures
    (put_all x long c.args.image.now _ _ _ c.requires.3 one two three)
