-- `codes::fields_good` meets its contract. The definition's four tests, in its order.
use Rattle.codes.specs.Records.{fields_good}
use Rattle.codes.proofs.fields_good.Goals as goal

pub returns : goal.returns
unfolding fields_good
returns c =
    rw (c.field_good.ensures, c.field_good-2.ensures, c.field_good-3.ensures, c.uses_k.ensures)
