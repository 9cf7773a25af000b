-- `puts::put` meets its contract. Its stores are those of the definition.
use Rattle.std.proofs.Common.{ap}
use Rattle.puts.specs.Puts.{mk_pass, rules_of}
use Rattle.puts.proofs.Tries.{put_stores}
use Rattle.puts.proofs.put.Goals as goal

pub returns : goal.returns
returns c =
    let a = c.args in
    let e = c.push.ensures in
    let N = a.network.now in (
      λ seen fired. put_stores (rules_of a.plan.now N) a.q (mk_pass seen fired N.cells N.used N.flag a.found.now.vals a.found.now.mets) _ _ _ c.requires (ap (λ n. n.cells) e) (ap (λ n. n.used) e) (ap (λ n. n.flag) e),
      ap (λ n. n.held) e,
      ap (λ n. n.count) e,
    )
