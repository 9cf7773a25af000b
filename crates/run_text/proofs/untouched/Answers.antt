-- `run_text::untouched` meets its contract: `all` finds a byte that is not the filler, or none.
use Rattle.std.proofs.Common.{◌≡◌, rules}
use borrow.Author.Tests.{tests}
use Rattle.std.proofs.lemmas.Iterator.{YieldsList-from_slice, cases_from_all}
use Rattle.run_text.proofs.Laws as laws
use Rattle.run_text.proofs.untouched.Goals as goal

pub returns : goal.returns
returns c =
    laws.are-all c.args.filler c.args.a.now c.all.result (cases_from_all _ _ c.all.result (λ x. x ≡ c.args.filler) (λ x. ¬ (x ≡ c.args.filler)) c.all.ensures.ran (YieldsList-from_slice c.args.a.now cc) (λ x q k. search (rules, tests)) (λ x q k. search (rules, tests)))
