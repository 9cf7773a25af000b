-- `queues::drawing::Drawing::find_channels` meets its contract. A turn finds the channels of one node, right behind those before.
use Rattle.std.proofs.Common.{◌≡◌, ◌+◌, length, sym, ap, ◌∙◌, arith, rules}
use Rattle.base.proofs.Fill.{fill_none, fill_step}
use Rattle.queues.specs.Queues.{part_of, channels_of, channels_to, parts_of}
use Rattle.queues.specs.Pass.{marks_of, put_all, marked, channels_by}
use Rattle.queues.proofs.Crossings.{below_32, by_is, told_is}
use Rattle.queues.proofs.Puts.{put_start, put_turn}
use Rattle.queues.proofs.Uses.{mark_of, first_set, no_marks, no_firsts}
use Rattle.queues.proofs.Whole.{all-parts, few, channels-few}
use Rattle.queues.proofs.drawing.Drawing.find_channels.Goals as goal

pub loop-i-init : goal.loop-i-init
loop-i-init c = (c.mark_uses.ensures.0 ∙ ap (marked c.args.self.now.net.now c.args.self.now.part.now c.args.self.now.net.now.nodes) (no_marks 1024), c.mark_uses.ensures.1 ∙ no_firsts 1024 ∙ fill_none _ _, put_start (λ j. channels_of c.args.self.now.net.now c.args.self.now.part.now j (parts_of c.args.self.now.net.now c.args.self.now.part.now)) _)

pub overflow_cast-first : goal.overflow_cast-first
overflow_cast-first c =
    let l = c.loop-i in
    let k = channels-few c.args.self.now.net.now c.args.self.now.part.now c.args.self.now.fits l.i in
    let e = ap (λ s. s.count) l.invariant.2 in
    omega (arith, k, e, c.requires, c.args.self.now.fits.nodes)

pub number_node-requires : goal.number_node-requires
number_node-requires c =
    let l = c.loop-i in
    let k = channels-few c.args.self.now.net.now c.args.self.now.part.now c.args.self.now.fits l.i in
    let e = ap (λ s. s.count) l.invariant.2 in
    (omega (arith, c.args.self.now.fits.nodes), below_32 c.args.self.now.net.now c.args.self.now.part.now c.args.self.now.fits l.i (search rules), omega (arith, k, e, c.requires, c.args.self.now.fits.nodes))

pub loop-i-preserved : goal.loop-i-preserved
loop-i-preserved c =
    let l = c.loop-i in
    let n = c.args.self.now.net.now in
    let part = c.args.self.now.part.now in
    let v = l.invariant in
    let m = few n part c.args.self.now.fits in
    let w = first_set l.i l.queues.count l.uses in
    let k = ap (λ w. channels_by w (part_of part l.i) l.i 32) (sym (mark_of l.uses l.i)) ∙ by_is n part c.args.self.now.fits (marks_of l.uses) v.0 l.i 32 (search rules) (omega arith) ∙ all-parts n part l.i m in
    let e = ap (λ s. s.count) v.2 in (
      w.0 ∙ v.0,
      w.1 ∙ fill_step _ l.i _ _ _ v.1 (e ∙ ap (λ x. x + length (channels_to n part l.i)) c.requires),
      put_turn (λ j. channels_of n part j (parts_of n part)) l.i _ l.queues _ v.2 (c.number_node.ensures ∙ ap (λ qs. put_all qs l.queues) k),
    )

pub returns : goal.returns
returns c =
    let l = c.loop-i in
    let n = c.args.self.now.net.now in
    let part = c.args.self.now.part.now in
    let v = l.invariant in
    let e : l.i ≡ n.nodes = omega arith in
    let k = channels-few n part c.args.self.now.fits l.i in
    let z = ap (λ s. s.count) v.2 in
    (rw e at v.2, omega (arith, k, z, c.requires, c.args.self.now.fits.nodes), record { told = told_is n part c.args.self.now.fits (marks_of l.uses) v.0; first = rw e at v.1 })
