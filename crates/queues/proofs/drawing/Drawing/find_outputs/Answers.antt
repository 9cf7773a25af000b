-- `queues::drawing::Drawing::find_outputs` meets its contract. A turn finds one queue.
use Rattle.std.proofs.Common.{◌≡◌, ℕ, List, refl, get_or, take, ◌∷◌, [], ap, ap₂, ◌∙◌, le_refl, arith}
use Rattle.std.specs.Option.{unwrap_or}
use Rattle.std.proofs.lemmas.List.{length-take}
use Rattle.std.proofs.lemmas.List.{get_or-take}
use Rattle.netlist.specs.Netlists.{output_of}
use Rattle.queues.specs.Queues.{Queue, output_at}
use Rattle.queues.specs.Pass.{put}
use Rattle.queues.proofs.Listed.{ones-all}
use Rattle.queues.proofs.Puts.{put_start, put_next}
use Rattle.queues.proofs.drawing.Drawing.find_outputs.Goals as goal

pub loop-x-init : goal.loop-x-init
loop-x-init c = put_start (λ m. output_at c.args.self.now.part.now (output_of c.args.self.now.net.now m) ∷ []) _

pub put-requires : goal.put-requires
put-requires c =
    let l = c.loop-x in
    let b = ones-all (λ m. output_at c.args.self.now.part.now (output_of c.args.self.now.net.now m)) l.x-index in
    let e = ap (λ s. s.count) l.invariant in
    omega (arith, b, e)

pub loop-x-preserved : goal.loop-x-preserved
loop-x-preserved c =
    let l = c.loop-x in
    let part = c.args.self.now.part.now in
    let g : ℕ → List Queue = λ m. output_at part (output_of c.args.self.now.net.now m) ∷ [] in
    let e : get_or (take c.args.self.now.net.now.outputs c.args.self.now.net.now.output) l.x-index 0 ≡ output_of c.args.self.now.net.now l.x-index = get_or-take c.args.self.now.net.now.outputs c.args.self.now.net.now.output l.x-index 0 (omega (arith, length-take c.args.self.now.net.now.outputs c.args.self.now.net.now.output)) in
    let p = c.unwrap_or-from.ensures ∙ ap (λ o. unwrap_or o 0) c.copied.ensures ∙ c.get.ensures.lookup.4 (le_refl _) 0 ∙ ap (λ x. get_or part x 0) e in
    put_next g (output_at part (output_of c.args.self.now.net.now l.x-index)) l.x-index _ l.queues _ l.invariant refl (c.put.ensures ∙ ap₂ (λ x y. put x y 32 l.queues) e p)
