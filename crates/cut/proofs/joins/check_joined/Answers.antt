-- `cut::joins::check_joined` meets its contract. A turn marks the part at an end of a queue, and a part is marked exactly where it is at an end of some queue.
use Rattle.std.proofs.Common.{◌≡◌, false, not, ◌||◌, eqb, get_or, replicate, take, ◌++◌, set, true, refl, sym, ap, ◌∙◌, arith}
use Rattle.std.proofs.lemmas.Iterator.{YieldsList-from_slice}
use Rattle.std.proofs.lemmas.Iterator.Consumers.{YieldsList-from_chain, YieldsList-end}
use lib.ListN.{length-replicate}
use Rattle.base.proofs.First.{lowest-same}
use Rattle.queues.specs.Lists.{some}
use Rattle.cut.specs.Pass.{ended}
use Rattle.cut.proofs.Positions.{position_taken}
use Rattle.cut.proofs.Ends.{end-turn, ended_at}
use Rattle.cut.proofs.joins.check_joined.Goals as goal

pub loop-p-init : goal.loop-p-init
unfolding ended
loop-p-init c = refl

pub loop-p-preserved : goal.loop-p-preserved
loop-p-preserved c = ap (λ l. set l c.in-Some.p.now true) c.loop-p.invariant ∙ sym (end-turn c.loop-p.yielded c.in-Some.p _)

pub returns : goal.returns
returns c =
    let r = c.args.queues.now in
    let l = c.loop-p in
    let t = YieldsList-end (YieldsList-from_chain {s = c.into_iter-p-iterator.result} (YieldsList-from_slice (take r.count r.from) cc) (YieldsList-from_slice (take r.count r.into) cc) (cc) (cc)) l.yielded _ l.yielded_by _ _ c.in-None.is c.next.ensures.steps in
    let m : l.joined ≡ ended (take r.count r.from ++ take r.count r.into) (replicate 256 false) = l.invariant ∙ ap (λ ps. ended ps (replicate 256 false)) t.0 in
    c.first_alone.ensures
    ∙ position_taken not false (λ p. get_or l.joined p false) l.joined r.parts (omega (arith, c.requires.1)) (λ p h. refl)
    ∙ lowest-same (λ p. get_or l.joined p false) (λ p. some r.count (λ q. eqb (get_or r.from q 0) p || eqb (get_or r.into q 0) p)) r.parts
    (λ p h. ap (λ k. get_or k p false) m ∙ ended_at r.from r.into r.count 256 p (omega arith) (omega arith) (rw (length-replicate 256 false) (omega (arith, c.requires.1))))
