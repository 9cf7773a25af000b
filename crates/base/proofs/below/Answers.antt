-- `base::below` meets its contract. A value is below 2 ^ w where it has at most w bits.
use Rattle.base.proofs.Widths.{below_counted}
use Rattle.base.proofs.below.Goals as goal

pub returns : goal.returns
returns c = below_counted c.args.x c.args.w c.ranges.x.fits
