-- `stepper::cwazi_steps` meets its contract: what is promised of the netlist without its labels holds of the netlist.
use Rattle.stepper.proofs.Whole.{steps_whole}
use Rattle.stepper.proofs.cwazi_steps.Goals as goal

pub returns : goal.returns
returns c =
    let a = c.args in
    rw c.answer.ensures (steps_whole a.net.now a.regs.now c.args.cycles a.ins.now a.outs.now _ _ _ c.steps.ensures)
