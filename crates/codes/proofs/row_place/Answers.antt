-- `codes::row_place` meets its contract. In each range the place is known from the law that was computed over all 256 codes.
use native.Mathlib.Omega.{arith}
use borrow.Author.Tests.{lt-ltb, le-ltb}
use mathlib.Core.Path.{refl}
use Rattle.codes.proofs.Places.{found, none}
use Rattle.codes.proofs.row_place.Goals as goal

pub returns-in-0-to-2 : goal.returns-in-0-to-2
returns-in-0-to-2 c =
    let code = c.args.code in
    found code _ (omega arith) (rw (lt-ltb code 0x03 (omega arith)) refl) (omega arith)

pub returns-in-16-to-19 : goal.returns-in-16-to-19
returns-in-16-to-19 c =
    let code = c.args.code in
    found code _ (omega arith) (rw (le-ltb code 0x03 (omega arith), le-ltb code 0x10 (omega arith), lt-ltb code 0x14 (omega arith)) refl) (omega arith)

pub returns-in-32-to-36 : goal.returns-in-32-to-36
returns-in-32-to-36 c =
    let code = c.args.code in
    found code _ (omega arith) (rw (le-ltb code 0x03 (omega arith), le-ltb code 0x10 (omega arith), le-ltb code 0x14 (omega arith), le-ltb code 0x20 (omega arith), lt-ltb code 0x25 (omega arith)) refl) (omega arith)

pub returns-in-48-to-49 : goal.returns-in-48-to-49
returns-in-48-to-49 c =
    let code = c.args.code in
    found code _ (omega arith) (rw (le-ltb code 0x03 (omega arith), le-ltb code 0x10 (omega arith), le-ltb code 0x14 (omega arith), le-ltb code 0x20 (omega arith), le-ltb code 0x25 (omega arith), le-ltb code 0x30 (omega arith), lt-ltb code 0x32 (omega arith)) refl) (omega arith)

pub returns-in-64-to-65 : goal.returns-in-64-to-65
returns-in-64-to-65 c =
    let code = c.args.code in
    found code _ (omega arith) (rw (le-ltb code 0x03 (omega arith), le-ltb code 0x10 (omega arith), le-ltb code 0x14 (omega arith), le-ltb code 0x20 (omega arith), le-ltb code 0x25 (omega arith), le-ltb code 0x30 (omega arith), le-ltb code 0x32 (omega arith), le-ltb code 0x40 (omega arith), lt-ltb code 0x42 (omega arith)) refl) (omega arith)

pub returns-in-80-to-82 : goal.returns-in-80-to-82
returns-in-80-to-82 c =
    let code = c.args.code in
    found code _ (omega arith) (rw (le-ltb code 0x03 (omega arith), le-ltb code 0x10 (omega arith), le-ltb code 0x14 (omega arith), le-ltb code 0x20 (omega arith), le-ltb code 0x25 (omega arith), le-ltb code 0x30 (omega arith), le-ltb code 0x32 (omega arith), le-ltb code 0x40 (omega arith), le-ltb code 0x42 (omega arith), le-ltb code 0x50 (omega arith), lt-ltb code 0x53 (omega arith)) refl) (omega arith)

pub returns-in_default : goal.returns-in_default
returns-in_default c =
    let code = c.args.code in
    none code (omega arith) (rw (le-ltb code 0x03 (omega arith), lt-ltb code 0x10 (omega arith)) refl)

pub returns-in_default-2 : goal.returns-in_default-2
returns-in_default-2 c =
    let code = c.args.code in
    none code (omega arith) (rw (le-ltb code 0x03 (omega arith), le-ltb code 0x10 (omega arith), le-ltb code 0x14 (omega arith), lt-ltb code 0x20 (omega arith)) refl)

pub returns-in_default-3 : goal.returns-in_default-3
returns-in_default-3 c =
    let code = c.args.code in
    none code (omega arith) (rw (le-ltb code 0x03 (omega arith), le-ltb code 0x10 (omega arith), le-ltb code 0x14 (omega arith), le-ltb code 0x20 (omega arith), le-ltb code 0x25 (omega arith), lt-ltb code 0x30 (omega arith)) refl)

pub returns-in_default-4 : goal.returns-in_default-4
returns-in_default-4 c =
    let code = c.args.code in
    none code (omega arith) (rw (le-ltb code 0x03 (omega arith), le-ltb code 0x10 (omega arith), le-ltb code 0x14 (omega arith), le-ltb code 0x20 (omega arith), le-ltb code 0x25 (omega arith), le-ltb code 0x30 (omega arith), le-ltb code 0x32 (omega arith), lt-ltb code 0x40 (omega arith)) refl)

pub returns-in_default-5 : goal.returns-in_default-5
returns-in_default-5 c =
    let code = c.args.code in
    none code (omega arith) (rw (le-ltb code 0x03 (omega arith), le-ltb code 0x10 (omega arith), le-ltb code 0x14 (omega arith), le-ltb code 0x20 (omega arith), le-ltb code 0x25 (omega arith), le-ltb code 0x30 (omega arith), le-ltb code 0x32 (omega arith), le-ltb code 0x40 (omega arith), le-ltb code 0x42 (omega arith), lt-ltb code 0x50 (omega arith)) refl)

pub returns-in_default-6 : goal.returns-in_default-6
returns-in_default-6 c =
    let code = c.args.code in
    none code (omega arith) (rw (le-ltb code 0x03 (omega arith), le-ltb code 0x10 (omega arith), le-ltb code 0x14 (omega arith), le-ltb code 0x20 (omega arith), le-ltb code 0x25 (omega arith), le-ltb code 0x30 (omega arith), le-ltb code 0x32 (omega arith), le-ltb code 0x40 (omega arith), le-ltb code 0x42 (omega arith), le-ltb code 0x50 (omega arith), le-ltb code 0x53 (omega arith)) refl)
