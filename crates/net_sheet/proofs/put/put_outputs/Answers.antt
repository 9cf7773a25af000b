-- `net_sheet::put::put_outputs` meets its contract. The image is the old one with the outputs so far as one stretch.
use mathlib.Core.Path.{refl, ◌∙◌}
use Rattle.layout.proofs.Puts.{put-none, put_step}
use Rattle.net_sheet.proofs.put.put_outputs.Goals as goal

pub loop-j-init : goal.loop-j-init
loop-j-init c = put-none _ 2 (λ m. refl) c.args.image.now c.args.at c.args.net.now.outputs c.requires.1

pub loop-j-preserved : goal.loop-j-preserved
loop-j-preserved c =
    let v = c.loop-j in
    c.put_bytes.ensures
    ∙ put_step _ 2 (λ m. refl) c.args.image.now c.args.at c.args.net.now.outputs c.requires.1 v.j _ _ _ c.loop-j-test.true v.invariant refl c.to_le_bytes.ensures
