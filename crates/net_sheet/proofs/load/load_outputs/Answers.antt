-- `net_sheet::load::load_outputs` meets its contract. The list is filled so far from the sheet.
use Rattle.base.proofs.Fill.{fill_none, fill_step}
use Rattle.net_sheet.proofs.load.load_outputs.Goals as goal

pub loop-j-init : goal.loop-j-init
loop-j-init c = fill_none _ _

pub loop-j-preserved : goal.loop-j-preserved
loop-j-preserved c = fill_step _ _ _ _ _ c.loop-j.invariant c.le16.ensures
