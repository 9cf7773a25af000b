-- `puts::put_asked` meets its contract: the pass over the nodes it needs, and then its test.
use Rattle.puts.proofs.Tries.{asked_in}
use Rattle.puts.proofs.put_asked.Goals as goal

pub returns-then-q-lt512 : goal.returns-then-q-lt512
returns-then-q-lt512 c =
    let e = c.evaluate.ensures in
    asked_in _ _ _ _ _ _ _ _ _ _ c.if-q-lt512.true c.needed_for-n.ensures e.0 e.1 c.put_ready.ensures
