-- `labels::open_spot` meets its contract. The definition, call by call.
use Rattle.net_sheet.specs.Image.{net_letter}
use Rattle.cut_sheet.specs.Image.{cut_letter}
use Rattle.labels.specs.Spots.{sheet_spot, net_end, open_spot}
use Rattle.labels.proofs.Spots.{or_first}
use Rattle.labels.proofs.open_spot.Goals as goal

pub returns : goal.returns
unfolding open_spot
returns c = rw (c.unwrap_or.ensures, c.or.ensures, c.net_end.ensures, c.sheet_spot-in_net.ensures, c.sheet_spot-in_cut.ensures) (or_first (sheet_spot cut_letter c.args.cut.now c.args.node) (sheet_spot net_letter c.args.net.now c.args.node) (net_end c.args.net.now))
