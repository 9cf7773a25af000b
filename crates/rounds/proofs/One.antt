-- Each promise determines its result and the network that it leaves: stated of the contracts as the source has them.
use mathlib.Core.Path.{sym, ◌∙◌}
use Rattle.base.specs.Promises.{OneResult, OneOutcome}
use Rattle.lanes.specs.declared.Network.{Network}
use Rattle.refusals.proofs.Numbers.{answer-one}
use Rattle.rounds.proofs.fire.Kinds as fire-kinds
use Rattle.rounds.proofs.fire.Reads as fire
use Rattle.rounds.proofs.ready.Kinds as ready-kinds
use Rattle.rounds.proofs.ready.Reads as ready
use Rattle.rounds.proofs.round.Kinds as round-kinds
use Rattle.rounds.proofs.round.Reads as round
use Rattle.rounds.proofs.run.Kinds as run-kinds
use Rattle.rounds.proofs.run.Reads as run

pub fire_one : OneOutcome {A = Network} 2 fire-kinds.ps fire-kinds.r fire.Post (λ κs x. x.1.0.now)
fire_one κs a r r' x x' p q = (answer-one r r' (p.0 ∙ sym q.0), p.1 ∙ sym q.1)

pub round_one : OneOutcome {A = Network} 2 round-kinds.ps round-kinds.r round.Post (λ κs x. x.1.0.now)
round_one κs a r r' x x' p q = (p.0 ∙ sym q.0, p.1 ∙ sym q.1)

pub run_one : OneOutcome {A = Network} 2 run-kinds.ps run-kinds.r run.Post (λ κs x. x.1.0.now)
run_one κs a r r' x x' p q = (p.0 ∙ sym q.0, p.1 ∙ sym q.1)

pub ready_one : OneResult 2 ready-kinds.ps ready-kinds.r ready.Post
ready_one κs a r r' x x' p q = answer-one r r' (p ∙ sym q)
