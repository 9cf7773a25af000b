-- `spots::try_puts` meets its contract: the put rules on what was begun.
use Rattle.spots.specs.Rounds.{puts_on}
use Rattle.spots.proofs.try_puts.Goals as goal

pub returns : goal.returns
unfolding puts_on
returns c =
    let b = c.begin.ensures in
    rw (← b.0, ← b.1) c.put_rules.ensures
