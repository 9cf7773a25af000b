-- The promises determine which bytes of which sheet are handed back, and the spot where they stand: stated of the contracts as the source has them.
use mathlib.Core.Path.{sym, ◌∙◌}
use borrow.Fn.Kinds.{Dens, ended_of, res_t}
use contract.Lifetimes.{Lfts}
use denote.Triple.Clauses.{AtExit}
use Rattle.base.specs.Promises.{OneResult}
use Rattle.labels.specs.Meaning.{Promised}
use Rattle.labels.specs.Promises.{OneSeen}
use Rattle.labels.proofs.label.Kinds as label-kinds
use Rattle.labels.proofs.label.Reads as label
use Rattle.labels.proofs.label_spot.Kinds as label-spot-kinds
use Rattle.labels.proofs.label_spot.Reads as label-spot

pub label-spot-one : OneResult 2 label-spot-kinds.ps label-spot-kinds.r label-spot.Post
label-spot-one κs a r r' x x' p q = p ∙ sym q

pub label-one : OneSeen 1 label-kinds.ps label-kinds.r label.Post (λ κs r. (r.ref_ptr, r.now))
label-one κs a r r' x x' p q =
    let b = p.0 ∙ sym q.0 in
    let f = p.1 ∙ sym q.1 in
    let g = p.2 ∙ sym q.2 in
    λ i. ((f i, g i), b i)

-- what the theorems on the label take is what the contract says
pub label_promised : (κs : Lfts 1) (a : Dens κs label-kinds.ps) (r : (res_t label-kinds.r κs).Denot) (x : AtExit (ended_of 1 label-kinds.ps label-kinds.r) κs) → label.Post κs a r x → Promised a.0 a.1.0 a.1.1.0 r
label_promised κs a r x p = p
