-- `net_sheet::read::net_sections` meets its contract. The rules that both sheets share, and then the net sheet's own two.
use mathlib.Core.Path.{sym, ◌∙◌}
use Rattle.layout.proofs.Found.{answered_some}
use Rattle.net_sheet.specs.Image.{net_letter}
use Rattle.net_sheet.proofs.Trailers.{sections_none, sections_tested}
use Rattle.net_sheet.proofs.read.net_sections.Goals as goal

pub returns-in_err-s : goal.returns-in_err-s
returns-in_err-s c =
    let s = c.args.sheet.now in
    c.from_residual.ensures ∙ sections_none s (sym (c.in_err-s.was {u = tt}) ∙ c.find_sections.ensures)

pub returns : goal.returns
returns c =
    let s = c.args.sheet.now in
    c.then_some.ensures ∙ sections_tested s _ (answered_some net_letter s _ (sym (c.in_ok-s.was {u = tt}) ∙ c.find_sections.ensures))
