-- `codes::record_good` meets its contract. The definition's tests in its order, each behind the row that was found.
use borrow.Author.Tests.{lt-ltb, le-ltb}
use native.Mathlib.Omega.{arith}
use Rattle.codes.specs.Rows.{place_of}
use Rattle.codes.specs.Records.{record_good}
use Rattle.codes.proofs.record_good.Goals as goal

pub returns-in_default : goal.returns-in_default
unfolding record_good
returns-in_default c = rw (le-ltb (place_of c.args.r.code) 19 (omega (arith, c.in_default.ensures)))

pub returns : goal.returns
unfolding record_good
returns c =
    let e = c.in-Some.ensures in
    rw (lt-ltb (place_of c.args.r.code) 19 e.0, ← e.1, ← c.fields_good.ensures, ← c.width_at.ensures, ← c.width_at-2.ensures, ← c.width_at-3.ensures, ← c.widths_good.ensures)
