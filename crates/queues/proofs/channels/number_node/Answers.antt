-- `queues::channels::number_node` meets its contract. A turn goes to the next set bit of the word: no channel stands between, and one there.
use Rattle.std.proofs.Common.{◌≡◌, ℕ, ◌+◌, ◌-◌, List, sym, ap, ◌∙◌, div-one, arith, rules}
use lib.Count.{count_trailing_zeros}
use Rattle.queues.specs.Lists.{listed, one_if}
use Rattle.queues.specs.Queues.{Queue, channel}
use Rattle.queues.specs.Pass.{bit_of, others, put_all}
use Rattle.queues.proofs.Listed.{listed-skip, ones-few}
use Rattle.queues.proofs.Puts.{put_start, put_next}
use Rattle.queues.proofs.Words.{step, ended}
use Rattle.queues.proofs.channels.number_node.Goals as goal

-- the channel to part r
abbrev to_part : ℕ → ℕ → ℕ → Queue
to_part own i r = record { kind = channel; node = i; from = own; into = r }

abbrev to_parts : ℕ → ℕ → ℕ → ℕ → List Queue
to_parts word own i r = one_if (bit_of (others word own) r) (to_part own i r)

pub loop-rest-init : goal.loop-rest-init
loop-rest-init c =
    let o = c.others_of-rest in
    (search rules, rw (← o.ensures) (search rules), o.ensures ∙ sym (div-one _), put_start (to_parts c.args.word c.args.own c.args.i) _)

pub overflow_add-to : goal.overflow_add-to
overflow_add-to c =
    let l = c.loop-rest in
    let t = step _ l.p l.rest l.invariant.1 l.invariant.2 (omega (arith, c.loop-rest-test.true)) in
    omega (arith, t.within)

pub put-requires : goal.put-requires
put-requires c =
    let l = c.loop-rest in
    let b = ones-few l.p (λ r. bit_of (others c.args.word c.args.own) r) (to_part c.args.own c.args.i) in
    let e = ap (λ s. s.count) l.invariant.3 in
    omega (arith, b, e)

pub loop-rest-preserved : goal.loop-rest-preserved
loop-rest-preserved c =
    let l = c.loop-rest in
    let v = l.invariant in
    let w = c.args.word in
    let own = c.args.own in
    let t = step _ l.p l.rest v.1 v.2 (omega (arith, c.loop-rest-test.true)) in
    let to : ℕ = l.p + count_trailing_zeros 32 l.rest in
    let g : ℕ → List Queue = to_parts w own c.args.i in
    let skip : listed to g ≡ listed l.p g = listed-skip l.p (count_trailing_zeros 32 l.rest) g (λ j k. ap (λ y. one_if y (to_part own c.args.i (l.p + j))) (t.none j k)) in (
      omega (arith, t.within),
      v.1,
      t.next,
      put_next g (to_part own c.args.i to) to _ _ _ (v.3 ∙ ap (λ qs. put_all qs c.args.queues.now) (sym skip)) (ap (λ y. one_if y (to_part own c.args.i to)) t.here) c.put.ensures,
    )

pub returns : goal.returns
returns c =
    let l = c.loop-rest in
    let e : l.p + (32 - l.p) ≡ 32 = omega arith in
    let g : ℕ → List Queue = to_parts c.args.word c.args.own c.args.i in
    let none = ended (others c.args.word c.args.own) l.p l.rest l.invariant.2 c.loop-rest-test.false in
    let skip : listed 32 g ≡ listed l.p g = rw e at (listed-skip l.p (32 - l.p) g (λ j k. ap (λ y. one_if y (to_part c.args.own c.args.i (l.p + j))) (none j))) in
    l.invariant.3 ∙ ap (λ qs. put_all qs c.args.queues.now) (sym skip)
