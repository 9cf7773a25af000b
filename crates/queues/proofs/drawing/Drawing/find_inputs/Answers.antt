-- `queues::drawing::Drawing::find_inputs` meets its contract. A turn finds the queue of an IN, or none; its place is how many were found before.
use Rattle.std.proofs.Common.{true, false, ap, ◌∙◌, arith, eq-eqb, ne_eqb}
use Rattle.codes.specs.Rows.{is_in}
use Rattle.netlist.specs.Netlists.{record_of}
use Rattle.queues.specs.Queues.{input_at}
use Rattle.queues.proofs.Listed.{ones-few}
use Rattle.queues.proofs.Puts.{inputs_start, inputs_turn}
use Rattle.queues.proofs.drawing.Drawing.find_inputs.Goals as goal
use Rattle.queues.proofs.drawing.Drawing.find_inputs.Goals.{then-self-i-eq-IN, else-self-i-eq-IN}

pub loop-i-init : goal.loop-i-init
loop-i-init c = inputs_start c.args.self.now.net.now c.args.self.now.part.now _

pub overflow_cast-queues : goal.overflow_cast-queues
overflow_cast-queues c =
    let l = c.loop-i in
    let b = ones-few l.i (λ j. is_in (record_of c.args.self.now.net.now j).code) (input_at c.args.self.now.part.now) in
    let e = ap (λ s. s.count) l.invariant in
    omega (arith, b, e, c.args.self.now.fits.nodes, c.requires)

pub put-requires : goal.put-requires
put-requires c =
    let l = c.loop-i in
    let b = ones-few l.i (λ j. is_in (record_of c.args.self.now.net.now j).code) (input_at c.args.self.now.part.now) in
    let e = ap (λ s. s.count) l.invariant in
    omega (arith, b, e, c.args.self.now.fits.nodes, c.requires)

pub loop-i-preserved : goal.loop-i-preserved
loop-i-preserved c =
    let l = c.loop-i in
    let n = c.args.self.now.net.now in
    let part = c.args.self.now.part.now in
    elim c.if-self-i-eq-IN.branch [
      | then-self-i-eq-IN w ↦ inputs_turn n part _ l.i l.queues _ true c.requires l.invariant (eq-eqb _ _ w.if-self-i-eq-IN.true) (w.queues-is ∙ w.put.ensures)
      | else-self-i-eq-IN w ↦ inputs_turn n part _ l.i l.queues _ false c.requires l.invariant (ne_eqb _ _ w.if-self-i-eq-IN.false) w.queues-is
    ]
