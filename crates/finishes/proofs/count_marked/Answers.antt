-- `finishes::count_marked` meets its contract.
use Rattle.std.proofs.Common.{◌≡◌, length, min, take, count_by, ◌∙◌, arith, rules}
use Rattle.finishes.proofs.Turns.{counted}
use Rattle.finishes.proofs.count_marked.Goals as goal

pub returns : goal.returns
returns c =
    let fin = c.args.fin.now in
    let n = min c.args.n 32 in
    let e : c.count.result ≡ count_by (λ x. x) (take n fin) = search rules in
    let h : length fin ≡ 64 = search rules in
    e ∙ counted fin n (omega arith)
