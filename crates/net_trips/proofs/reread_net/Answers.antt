-- `net_trips::reread_net` meets its contract. What was read back is the netlist that was written; its values are of their types because it was handed over.
use mathlib.Core.Path.{◌≡◌, sym, ◌∙◌, ap}
use Prim.Native.Nat.{◌≤◌}
use native.Mathlib.Omega.{arith}
use borrow.Author.Rules.{rules}
use mir.Syntax.{w8, w16, w32}
use mir.Val.{Fits}
use lib.Seq.{length-take-le}
use lib.ListN.{length, get_or, take}
use Rattle.netlist.specs.Netlists.{no_net}
use Rattle.net_sheet.specs.Reading.{net_read}
use Rattle.net_sheet.specs.Writing.{net_wrote}
use Rattle.net_trips.specs.Typed.{Typed}
use Rattle.net_trips.proofs.Rereading.{reread-refused, wrote, reread-done}
use Rattle.net_trips.proofs.reread_net.Goals as goal

pub slice_bounds-read_net-end : goal.slice_bounds-read_net-end
slice_bounds-read_net-end c =
    let a = c.args in
    let old = a.image.now in
    let w = c.write_net-wrote in
    let size : w.result.length ≡ (net_wrote a.net.now (length old)).length = ap (λ x. x.length) w.ensures.0 in
    let e : (net_wrote a.net.now (length old)).answer ≡ 0 = ap (λ x. x.answer) (sym w.ensures.0) ∙ c.if-wrote-eq0.true in
    let d = wrote a.net.now old e in
    let h : w.result.length ≤ length w.new.image = omega (arith, d.size, d.room, w.auto.image) in
    h

pub slice_bounds-read_net-end-then-wrote-eq0 : goal.slice_bounds-read_net-end-then-wrote-eq0
slice_bounds-read_net-end-then-wrote-eq0 c =
    let a = c.args in
    let old = a.image.now in
    let w = c.write_net-wrote in
    let size : w.result.length ≡ (net_wrote a.net.now (length old)).length = ap (λ x. x.length) w.ensures.0 in
    let e : (net_wrote a.net.now (length old)).answer ≡ 0 = ap (λ x. x.answer) (sym w.ensures.0) ∙ c.if-wrote-eq0.true in
    let d = wrote a.net.now old e in
    let h : w.result.length ≤ length w.new.image = omega (arith, d.size, d.room, w.auto.image) in
    sym (length-take-le w.result.length w.new.image h)

pub returns-then-wrote-eq0 : goal.returns-then-wrote-eq0
returns-then-wrote-eq0 c =
    let t : Typed c.args.net.now = record {
      code = record { long = search rules; each = λ i. (let f : Fits w8 (get_or c.args.net.now.code i 0) = search rules in f.fits) };
      width = record { long = search rules; each = λ i. (let f : Fits w8 (get_or c.args.net.now.width i 0) = search rules in f.fits) };
      a = record { long = search rules; each = λ i. (let f : Fits w16 (get_or c.args.net.now.a i 0) = search rules in f.fits) };
      b = record { long = search rules; each = λ i. (let f : Fits w16 (get_or c.args.net.now.b i 0) = search rules in f.fits) };
      c = record { long = search rules; each = λ i. (let f : Fits w16 (get_or c.args.net.now.c i 0) = search rules in f.fits) };
      k = record { long = search rules; each = λ i. (let f : Fits w32 (get_or c.args.net.now.k i 0) = search rules in f.fits) };
      output = record { long = search rules; each = λ i. (let f : Fits w16 (get_or c.args.net.now.output i 0) = search rules in f.fits) };
      label = record { long = search rules; each = λ i. (let f : Fits w8 (get_or c.args.net.now.label i 0) = search rules in f.fits) };
    } in
    let a = c.args in
    let old = a.image.now in
    let w = c.write_net-wrote in
    let size : w.result.length ≡ (net_wrote a.net.now (length old)).length = ap (λ x. x.length) w.ensures.0 in
    let e : (net_wrote a.net.now (length old)).answer ≡ 0 = ap (λ x. x.answer) (sym w.ensures.0) ∙ c.if-wrote-eq0.true in
    let whole : w.result.length ≡ (net_wrote a.net.now (length old)).length = omega arith in (
      c.read_net.ensures
          ∙ ap (λ k. net_read (take k w.new.image)) whole
          ∙ ap (λ l. net_read (take (net_wrote a.net.now (length old)).length l)) w.ensures.1
          ∙ reread-done a.net.now old (t) e,
      w.ensures.1,
    )

pub returns-else-wrote-eq0 : goal.returns-else-wrote-eq0
returns-else-wrote-eq0 c =
    let a = c.args in
    let old = a.image.now in
    let w = c.write_net-wrote in (
      c.read_for_c.ensures ∙ (ap (λ x. record { answer = x.answer; place = x.place; net = no_net }) w.ensures.0 ∙ reread-refused a.net.now old (λ z. c.if-wrote-eq0.false (ap (λ x. x.answer) w.ensures.0 ∙ z))),
      w.ensures.1,
    )
