-- `net_sheet::put::put_records` meets its contract. The image is the old one with the records so far as one stretch.
use mathlib.Core.Path.{refl, ◌∙◌, ap}
use native.Mathlib.Omega.{arith}
use Rattle.layout.proofs.Puts.{put-none, put_step}
use Rattle.net_sheet.specs.Image.{record_bytes}
use Rattle.net_sheet.proofs.put.put_records.Goals as goal

pub loop-i-init : goal.loop-i-init
loop-i-init c = put-none _ 12 (λ m. refl) c.args.image.now 0 c.args.net.now.nodes (omega arith)

pub loop-i-preserved : goal.loop-i-preserved
loop-i-preserved c =
    let v = c.loop-i in
    c.put_bytes.ensures
    ∙ put_step _ 12 (λ m. refl) c.args.image.now 0 c.args.net.now.nodes (omega arith) v.i _ _ _ c.loop-i-test.true v.invariant (omega arith) (c.record_bytes-bytes.ensures ∙ ap record_bytes c.record_of.ensures)
