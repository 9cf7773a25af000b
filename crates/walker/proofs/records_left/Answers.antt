-- `walker::records_left` meets its contract. The sections are those of the net sheet's check 2; where it fails there are no records.
use mathlib.Core.Path.{◌≡◌, sym, ◌∙◌}
use native.Mathlib.Omega.{arith}
use Rattle.walker.specs.Walking.{record_count}
use Rattle.walker.proofs.Stands.{count-none, count-some}
use Rattle.walker.proofs.records_left.Goals as goal

pub returns-in_default : goal.returns-in_default
returns-in_default c =
    let e : record_count c.args.sheet.now ≡ 0 = count-none c.args.sheet.now (sym c.in_default.is ∙ c.net_sections.ensures) in
    rw e (omega arith)

pub returns : goal.returns
returns c = rw (count-some c.args.sheet.now _ (sym c.in-Some.is ∙ c.net_sections.ensures)) c.saturating_sub.ensures
