-- `net_sheet::write::sheet_size` meets its contract. The image's length, section by section.
use mathlib.Core.Path.{◌≡◌}
use native.Mathlib.Omega.{arith}
use borrow.Author.Rules.{rules}
use lib.ListN.{length}
use Rattle.net_sheet.proofs.Images.{image-length}
use Rattle.net_sheet.proofs.write.sheet_size.Goals as goal

pub returns : goal.returns
returns c =
    let n = c.args.net.now in
    let l : length n.label ≡ 4096 = search rules in
    let i = image-length n (omega arith) in
    (omega arith, omega arith)
