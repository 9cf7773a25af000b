-- Each promise determines its result and the network that it leaves: stated of the contracts as the source has them.
use mathlib.Core.Path.{sym, ◌∙◌, ap}
use Rattle.base.specs.Promises.{OneResult, OneOutcome}
use Rattle.lanes.specs.declared.Network.{Network}
use Rattle.refusals.proofs.Numbers.{answer-one, given-one}
use Rattle.moves.proofs.DrainedFromResultU32Refusal.from.Kinds as drained-kinds
use Rattle.moves.proofs.DrainedFromResultU32Refusal.from.Reads as drained
use Rattle.moves.proofs.ToldFromResultU32Refusal.from.Kinds as told-kinds
use Rattle.moves.proofs.ToldFromResultU32Refusal.from.Reads as told
use Rattle.moves.proofs.feed.Kinds as feed-kinds
use Rattle.moves.proofs.feed.Reads as feed
use Rattle.moves.proofs.drain.Kinds as drain-kinds
use Rattle.moves.proofs.drain.Reads as drain
use Rattle.moves.proofs.tokens.Kinds as tokens-kinds
use Rattle.moves.proofs.tokens.Reads as tokens
use Rattle.moves.proofs.finished.Kinds as finished-kinds
use Rattle.moves.proofs.finished.Reads as finished

pub feed_one : OneOutcome {A = Network} 2 feed-kinds.ps feed-kinds.r feed.Post (λ κs x. x.1.0.now)
feed_one κs a r r' x x' p q = (answer-one r r' (p.0 ∙ sym q.0), p.1 ∙ sym q.1)

pub drain_one : OneOutcome {A = Network} 2 drain-kinds.ps drain-kinds.r drain.Post (λ κs x. x.1.0.now)
drain_one κs a r r' x x' p q =
    let e = p.0 ∙ sym q.0 in
    (given-one r r' (ap (λ d. d.answer) e) (ap (λ d. d.value) e), p.1 ∙ sym q.1)

pub tokens_one : OneResult 2 tokens-kinds.ps tokens-kinds.r tokens.Post
tokens_one κs a r r' x x' p q =
    let e = p ∙ sym q in
    given-one r r' (ap (λ t. t.answer) e) (ap (λ t. t.value) e)

pub finished_one : OneResult 2 finished-kinds.ps finished-kinds.r finished.Post
finished_one κs a r r' x x' p q =
    let e = p ∙ sym q in
    given-one r r' (ap (λ t. t.answer) e) (ap (λ t. t.value) e)

pub drained_from_one : OneResult 0 drained-kinds.ps drained-kinds.r drained.Post
drained_from_one κs a r r' x x' p q = p ∙ sym q

pub told_from_one : OneResult 0 told-kinds.ps told-kinds.r told.Post
told_from_one κs a r r' x x' p q = p ∙ sym q
