-- `net_sheet::load::load_nodes` meets its contract. Each of the six lists is filled so far from the sheet's records.
use mathlib.Core.Path.{◌∙◌}
use native.Mathlib.Omega.{arith}
use Rattle.net_sheet.proofs.Loads.{is_there, loaded_none, loaded_step}
use Rattle.net_sheet.proofs.load.load_nodes.Goals as goal

pub loop-i-init : goal.loop-i-init
loop-i-init c = loaded_none c.args.sheet.now c.args.net.now

pub loop-i-preserved : goal.loop-i-preserved
loop-i-preserved c =
    let s = c.args.sheet.now in
    loaded_step s c.loop-i.i _ _ _ c.loop-i.invariant (c.record_at-r.ensures ∙ is_there s c.loop-i.i (omega arith))
