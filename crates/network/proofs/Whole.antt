-- A network that earlier calls gave is where the definitions on arrays mean the outline's words.
use mathlib.Core.Path.{◌≡◌, ◌∙◌, ap}
use Prim.Native.Nat.{ℕ}
use Rattle.plans.specs.declared.Plan.{Plan}
use Rattle.lanes.specs.declared.Network.{Network}
use Rattle.moves.specs.declared.Drained.{Drained}
use Rattle.moves.specs.declared.Told.{Told}
use Rattle.moves.specs.Moves.{Fed, Took, tokens_on, finished_on}
use Rattle.moves.proofs.Feeding.{feed_means}
use Rattle.moves.proofs.Draining.{drain_means}
use Rattle.moves.proofs.Telling.{tokens_means, finished_means}
use Rattle.network.specs.Calls.{FeedCall, DrainCall, TokensCall, FinishedCall}

pub feed-whole : (P : Plan) (L : Network) (j x r : ℕ) (M : Network) → Fed P L j x r M → FeedCall P L j x r M
feed-whole P L j x r M e = (e.0, e.1, λ G. let t = feed_means P L G j x in (e.0 ∙ t.0, e.1 ∙ t.1))

pub drain-whole : (P : Plan) (L : Network) (j : ℕ) (r : Drained) (M : Network) → Took P L j r M → DrainCall P L j r M
drain-whole P L j r M e =
    (e.0, e.1, λ G. let t = drain_means P L G j in (ap (λ a. a.answer) e.0 ∙ t.answer_is, ap (λ a. a.value) e.0 ∙ t.value-is, e.1 ∙ t.left_is))

pub tokens_whole : (P : Plan) (L : Network) (q : ℕ) (r : Told) → r ≡ tokens_on P L q → TokensCall P L q r
tokens_whole P L q r e = (e, λ G. e ∙ tokens_means P L G q)

pub finished_whole : (P : Plan) (L : Network) (p : ℕ) (r : Told) → r ≡ finished_on P L p → FinishedCall P L p r
finished_whole P L p r e = (e, λ G. e ∙ finished_means P L G p)
