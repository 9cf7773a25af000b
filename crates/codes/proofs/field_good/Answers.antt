-- `codes::field_good` meets its contract. By whether the field is used.
use Rattle.codes.proofs.field_good.Goals as goal

pub returns-then-used : goal.returns-then-used
returns-then-used c = rw c.if-used.true c.operand_good.ensures

pub returns-else-used : goal.returns-else-used
returns-else-used c = rw c.if-used.false
