-- Each promise determines its result and the network that it leaves: stated of the contracts as the source has them.
use mathlib.Core.Path.{sym, ◌∙◌}
use Rattle.base.specs.Promises.{OneResult, OneOutcome}
use Rattle.lanes.specs.declared.Network.{Network}
use Rattle.network.proofs.cwazi_open.Kinds as open-kinds
use Rattle.network.proofs.cwazi_open.Reads as open-reads
use Rattle.network.proofs.cwazi_feed.Kinds as feed-kinds
use Rattle.network.proofs.cwazi_feed.Reads as feed
use Rattle.network.proofs.cwazi_drain.Kinds as drain-kinds
use Rattle.network.proofs.cwazi_drain.Reads as drain
use Rattle.network.proofs.cwazi_tokens.Kinds as tokens-kinds
use Rattle.network.proofs.cwazi_tokens.Reads as tokens
use Rattle.network.proofs.cwazi_finished.Kinds as finished-kinds
use Rattle.network.proofs.cwazi_finished.Reads as finished

pub cwazi_open_one : OneResult 2 open-kinds.ps open-kinds.r open-reads.Post
cwazi_open_one κs a r r' x x' p q = p ∙ sym q

pub cwazi_feed_one : OneOutcome {A = Network} 2 feed-kinds.ps feed-kinds.r feed.Post (λ κs x. x.1.0.now)
cwazi_feed_one κs a r r' x x' p q = (p.0 ∙ sym q.0, p.1 ∙ sym q.1)

pub cwazi_drain_one : OneOutcome {A = Network} 2 drain-kinds.ps drain-kinds.r drain.Post (λ κs x. x.1.0.now)
cwazi_drain_one κs a r r' x x' p q = (p.0 ∙ sym q.0, p.1 ∙ sym q.1)

pub cwazi_tokens_one : OneResult 2 tokens-kinds.ps tokens-kinds.r tokens.Post
cwazi_tokens_one κs a r r' x x' p q = p.0 ∙ sym q.0

pub cwazi_finished_one : OneResult 2 finished-kinds.ps finished-kinds.r finished.Post
cwazi_finished_one κs a r r' x x' p q = p.0 ∙ sym q.0
