-- `cut_sheet::load::cut_from` meets its contract. Three stretches of the sheet, each loaded into its own list.
use native.Mathlib.Omega.{arith}
use Rattle.cut_sheet.proofs.Loads.{cut_from_is}
use Rattle.cut_sheet.proofs.load.cut_from.Goals as goal

pub returns : goal.returns
returns c =
    let t = c.args.s in
    cut_from_is c.args.sheet.now t.front t.middle t.labels _ _ c.no_cut-cut.result _ _ _ c.requires (omega arith) (omega arith) c.no_cut-cut.ensures c.load_bytes.ensures c.load_bytes-2.ensures c.load_bytes-3.ensures
