-- `traces::block` meets its contract. A turn takes one byte; it ends past the last, or where no answer has room.
use mathlib.Core.Path.{◌≡◌, refl}
use native.Mathlib.Omega.{arith}
use lib.ListN.{length}
use Rattle.traces.proofs.Blocks.{block_start, block-next, block-end, room_test, no-room, no-byte}
use Rattle.traces.proofs.block.Goals as goal

pub loop-read-init : goal.loop-read-init
loop-read-init c = block_start c.args.plan.now c.args.network.now c.args.reading c.args.input.now c.args.out.now

pub returns-then-out-wrote-lt42 : goal.returns-then-out-wrote-lt42
returns-then-out-wrote-lt42 c =
    let a = c.args in
    let l = c.loop-read in
    let k = l.invariant in
    (block-end a.plan.now a.network.now a.reading a.input.now a.out.now l.network l.line l.out l.read l.wrote k (no-room _ l.wrote (length l.out) (omega (arith, c.if-out-wrote-lt42.true, k.1))), k.0, k.1)

pub loop-read-preserved : goal.loop-read-preserved
loop-read-preserved c =
    let a = c.args in
    let l = c.loop-read in
    let k = l.invariant in
    let s = c.byte-step in
    block-next a.plan.now a.network.now a.reading a.input.now a.out.now l.network l.line l.out l.read l.wrote _ s.result s.new.network s.new.out k c.loop-read-test.true (room_test l.wrote (length l.out) (omega (arith, c.if-out-wrote-lt42.false, k.1))) refl s.ensures.0 s.ensures.1

pub returns : goal.returns
returns c =
    let a = c.args in
    let l = c.loop-read in
    let k = l.invariant in
    let e : l.read ≡ length a.input.now = omega (arith, c.loop-read-test.false, k.0) in
    (rw (← e) (block-end a.plan.now a.network.now a.reading a.input.now a.out.now l.network l.line l.out l.read l.wrote k (no-byte l.read (length a.input.now) _ c.loop-read-test.false)), omega arith, k.1)
