-- `queues::drawing::Drawing::number_queues` meets its contract. What the passes leave is the definition.
use Rattle.std.proofs.Common.{◌≡◌, ◌+◌, length, suc, ap, ◌∙◌, arith}
use Rattle.queues.specs.Queues.{inputs_of}
use Rattle.queues.specs.Found.{no_queues}
use Rattle.queues.proofs.Taken.{largest_taken}
use Rattle.queues.proofs.Whole.{whole_is}
use Rattle.queues.proofs.drawing.Drawing.number_queues.Goals as goal

pub find_inputs-requires : goal.find_inputs-requires
unfolding no_queues
find_inputs-requires c = ap (λ s. s.count) c.no_queues-queues.ensures

pub find_channels-uses-requires : goal.find_channels-uses-requires
unfolding no_queues
find_channels-uses-requires c =
    let z : c.no_queues-queues.result.count ≡ 0 = ap (λ s. s.count) c.no_queues-queues.ensures in
    let e : c.find_inputs.new.queues.count ≡ c.no_queues-queues.result.count + length (inputs_of c.args.self.now.net.now c.args.self.now.part.now) = ap (λ s. s.count) c.find_inputs.ensures in
    omega arith

pub returns : goal.returns
returns c =
    let n = c.args.self.now.net.now in
    let part = c.args.self.now.part.now in
    let m = c.count_parts.ensures ∙ ap suc (largest_taken part n.nodes c.args.self.now.all_have_parts) in
    whole_is n part c.count_parts.result c.find_inputs.new.queues c.find_channels-uses.new.queues c.find_outputs.new.queues c.map_operands.new.queues m
    (rw (← c.no_queues-queues.ensures) c.find_inputs.ensures)
    c.find_channels-uses.ensures.0
    c.find_outputs.ensures
    c.map_operands.ensures
