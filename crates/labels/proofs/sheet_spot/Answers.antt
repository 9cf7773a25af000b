-- `labels::sheet_spot` meets its contract. The sections that were found say where the labels section lies, and a text lies within its section.
use mathlib.Core.Path.{◌≡◌, sym, ◌∙◌, ap}
use mathlib.Core.Bool.{true, false}
use Prim.Native.Nat.{◌+◌}
use native.Mathlib.Omega.{arith}
use lib.Dec.{eqb}
use Rattle.cut_sheet.specs.Image.{cut_letter}
use Rattle.labels.specs.Spots.{moved, sheet_text, text_spot, where_label}
use Rattle.labels.proofs.Sections.{section_room, found_at, text-moved, text-room, text_some, text_none}
use Rattle.labels.proofs.sheet_spot.Goals as goal

pub overflow_add-at : goal.overflow_add-at
overflow_add-at c =
    let f = found_at c.args.letter c.args.sheet.now c.requires c.in_ok-s.s c.in_ok-s.ensures in
    let r = section_room c.args.letter c.args.sheet.now c.requires in
    omega (arith, f.at, r)

pub overflow_add-at-2 : goal.overflow_add-at-2
overflow_add-at-2 c =
    let f = found_at c.args.letter c.args.sheet.now c.requires c.in_ok-s.s c.in_ok-s.ensures in
    let r = section_room c.args.letter c.args.sheet.now c.requires in
    omega (arith, f.at, f.bytes, r)

pub slice_bounds-find_text-end : goal.slice_bounds-find_text-end
slice_bounds-find_text-end c =
    let f = found_at c.args.letter c.args.sheet.now c.requires c.in_ok-s.s c.in_ok-s.ensures in
    let r = section_room c.args.letter c.args.sheet.now c.requires in
    omega (arith, f.at, f.bytes, r)

pub returns-in_err-t : goal.returns-in_err-t
returns-in_err-t c =
    let s = c.args.sheet.now in
    let t = c.in_ok-s.s in
    let m = text-moved c.args.letter s c.requires t c.in_ok-s.ensures c.args.node in
    let f : (sheet_text s c.args.node).found ≡ false = ap (λ x. x.found) (sym m) ∙ text_none _ c.in_err-t.ensures in
    c.from_residual-in_err-t.ensures ∙ sym (rw f)

pub overflow_add-result : goal.overflow_add-result
overflow_add-result c =
    let s = c.args.sheet.now in
    let t = c.in_ok-s.s in
    let m = text-moved c.args.letter s c.requires t c.in_ok-s.ensures c.args.node in
    let q : moved (t.front + t.middle) (record { found = true; from = c.in_ok-t.t.from; length = c.in_ok-t.t.length }) ≡ sheet_text s c.args.node = ap (moved (t.front + t.middle)) (sym (text_some _ c.in_ok-t.t c.in_ok-t.ensures)) ∙ m in
    let e : t.front + t.middle + c.in_ok-t.t.from ≡ (sheet_text s c.args.node).from = ap (λ x. x.from) q in
    omega (arith, e, text-room c.args.letter s c.requires c.args.node)

pub returns : goal.returns
returns c =
    let s = c.args.sheet.now in
    let t = c.in_ok-s.s in
    let m = text-moved c.args.letter s c.requires t c.in_ok-s.ensures c.args.node in
    let q : moved (t.front + t.middle) (record { found = true; from = c.in_ok-t.t.from; length = c.in_ok-t.t.length }) ≡ sheet_text s c.args.node = ap (moved (t.front + t.middle)) (sym (text_some _ c.in_ok-t.t c.in_ok-t.ensures)) ∙ m in
    ap (λ x. where_label (text_spot (eqb c.args.letter cut_letter) x)) q
