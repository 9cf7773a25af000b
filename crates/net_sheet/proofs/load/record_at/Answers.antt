-- `net_sheet::load::record_at` meets its contract. Each field's bytes stand where the definition reads them, and the test says whether they are there.
use mathlib.Core.Path.{◌≡◌, sym}
use Prim.Native.Nat.{◌+◌, ◌*◌}
use native.Mathlib.Omega.{arith}
use Rattle.net_sheet.proofs.Loads.{is_there, not_there}
use Rattle.net_sheet.proofs.load.record_at.Goals as goal

pub returns-then-i-sheet : goal.returns-then-i-sheet
returns-then-i-sheet c =
    let s = c.args.sheet.now in
    let i = c.args.i in
    let e3 : i * 12 + 2 + 1 ≡ i * 12 + 3 = omega arith in
    let e5 : i * 12 + 4 + 1 ≡ i * 12 + 5 = omega arith in
    let e7 : i * 12 + 6 + 1 ≡ i * 12 + 7 = omega arith in
    let e9 : i * 12 + 8 + 1 ≡ i * 12 + 9 = omega arith in
    let e10 : i * 12 + 8 + 2 ≡ i * 12 + 10 = omega arith in
    let e11 : i * 12 + 8 + 3 ≡ i * 12 + 11 = omega arith in
    rw (is_there s i (omega (arith, c.if-i-sheet.true)), e3, e5, e7, e9, e10, e11, c.le16.ensures, c.le16-then-i-sheet.ensures, c.le16-then-i-sheet-2.ensures, c.le32.ensures)

pub returns-else-i-sheet : goal.returns-else-i-sheet
returns-else-i-sheet c = sym (not_there c.args.sheet.now c.args.i (omega (arith, c.if-i-sheet.false)))
