-- `queues::find_queues` meets its contract. The tests of the code are those of the definition.
use Rattle.std.proofs.Common.{◌≡◌, ℕ, ◌≤◌, true, ◌&&◌, leb, sym, ◌∙◌, arith, leb-true}
use Rattle.base.proofs.Tests.{and_left, and_right}
use Rattle.queues.specs.Found.{queues_found}
use Rattle.queues.proofs.Taken.{all_taken}
use Rattle.queues.proofs.find_queues.Goals as goal
use Rattle.queues.proofs.find_queues.Goals.{then-net+else-parts_fit, else-net}

nodes_few : (n m : ℕ) → (leb n 1024 && leb m 64) ≡ true → n ≤ 1024
nodes_few n m e = leb-true n 1024 (and_left (leb n 1024) (leb m 64) e)

outputs_few : (n m : ℕ) → (leb n 1024 && leb m 64) ≡ true → m ≤ 64
outputs_few n m e = leb-true m 64 (and_right (leb n 1024) (leb m 64) e)

pub invariant_of-number_queues-clause-fits : goal.invariant_of-number_queues-clause-fits
invariant_of-number_queues-clause-fits c =
    let n = c.args.net.now in
    let l = nodes_few n.nodes n.outputs c.if-net.true in
    record { nodes = l; parts = sym (all_taken (λ p. leb p 31) c.args.part.now n.nodes (omega arith)) ∙ sym c.parts_fit.ensures ∙ c.if-parts_fit.true }

pub invariant_of-number_queues-clause-outputs_few : goal.invariant_of-number_queues-clause-outputs_few
invariant_of-number_queues-clause-outputs_few c = let n = c.args.net.now in outputs_few n.nodes n.outputs c.if-net.true

pub returns-then-parts_fit : goal.returns-then-parts_fit
unfolding queues_found
returns-then-parts_fit c =
    let n = c.args.net.now in
    let l = nodes_few n.nodes n.outputs c.if-net.true in
    rw (c.if-net.true, sym (all_taken (λ p. leb p 31) c.args.part.now n.nodes (omega arith)) ∙ sym c.parts_fit.ensures ∙ c.if-parts_fit.true) c.number_queues.ensures

pub returns : goal.returns
unfolding queues_found
returns c =
    let n = c.args.net.now in
    elim c.if-net.branch [
      | then-net+else-parts_fit w ↦
          let l = nodes_few n.nodes n.outputs w.if-net.true in
          rw (w.if-net.true, sym (all_taken (λ p. leb p 31) c.args.part.now n.nodes (omega arith)) ∙ sym w.parts_fit.ensures ∙ w.if-parts_fit.false) c.no_queues.ensures
      | else-net w ↦ rw w.if-net.false c.no_queues.ensures
    ]
