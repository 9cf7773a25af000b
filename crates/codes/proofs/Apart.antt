-- What a good record says, field by field.
use mathlib.Core.Path.{◌≡◌}
use mathlib.Core.Bool.{Bool, true, false, ◌&&◌, ◌||◌}
use mathlib.Core.List.{List}
use Prim.Native.Nat.{ℕ, ◌<◌, ◌≤◌}
use native.Mathlib.Omega.{arith}
use borrow.Author.Tests.{ltb-true, leb-true, eqb-true}
use lib.Dec.{eqb, ltb, leb}
use lib.ListN.{get_or}
use Rattle.base.proofs.Tests.{and_left, and_right}
use Rattle.codes.specs.declared.Record.{Record}
use Rattle.codes.specs.declared.Row.{Row}
use Rattle.codes.specs.Rows.{row_at, place_of}
use Rattle.codes.specs.Records.{field_good, fields_good, uses_k, widths_good, record_good}

pub record GoodRecord (widths : List ℕ) (nodes i : ℕ) (r : Record) : Type 0 where
  pub known : place_of r.code < 19
  pub width_low : 1 ≤ r.width
  pub width_high : r.width ≤ 32
  pub a_good : field_good (ltb 0 (row_at (place_of r.code)).operands) nodes i r.code r.a ≡ true
  pub b_good : field_good (ltb 1 (row_at (place_of r.code)).operands) nodes i r.code r.b ≡ true
  pub c_good : field_good (ltb 2 (row_at (place_of r.code)).operands) nodes i r.code r.c ≡ true
  pub widths_good_lem : widths_good (row_at (place_of r.code)).rule r.width (get_or widths r.a 0) (get_or widths r.b 0) (get_or widths r.c 0) r.k ≡ true

pub apart : (widths : List ℕ) (nodes i : ℕ) (r : Record) → record_good widths nodes i r ≡ true → GoodRecord widths nodes i r
unfolding record_good fields_good
apart widths nodes i r e =
    let row : Row = row_at (place_of r.code) in
    let fa : Bool = field_good (ltb 0 row.operands) nodes i r.code r.a in
    let fb : Bool = field_good (ltb 1 row.operands) nodes i r.code r.b in
    let fc : Bool = field_good (ltb 2 row.operands) nodes i r.code r.c in
    let fk : Bool = uses_k row.rule || eqb r.k 0 in
    let known : Bool = ltb (place_of r.code) 19 in
    let x : Bool = leb 1 r.width in
    let y : Bool = leb r.width 32 in
    let wide : Bool = widths_good row.rule r.width (get_or widths r.a 0) (get_or widths r.b 0) (get_or widths r.c 0) r.k in
    let front : (known && (x && y) && (fa && fb && fc && fk)) ≡ true = and_left (known && (x && y) && (fa && fb && fc && fk)) wide e in
    let f : (fa && fb && fc && fk) ≡ true = and_right (known && (x && y)) (fa && fb && fc && fk) front in
    let w : (x && y) ≡ true = and_right known (x && y) (and_left (known && (x && y)) (fa && fb && fc && fk) front) in
    let abc : (fa && fb && fc) ≡ true = and_left (fa && fb && fc) fk f in
    let ab : (fa && fb) ≡ true = and_left (fa && fb) fc abc in
    record {
      known = ltb-true (place_of r.code) 19 (and_left known (x && y) (and_left (known && (x && y)) (fa && fb && fc && fk) front));
      width_low = leb-true 1 r.width (and_left x y w);
      width_high = leb-true r.width 32 (and_right x y w);
      a_good = and_left fa fb ab;
      b_good = and_right fa fb ab;
      c_good = and_right (fa && fb) fc abc;
      widths_good_lem = and_right (known && (x && y) && (fa && fb && fc && fk)) wide e;
    }

-- a good field names a node, an unused one node 0
pub field_below : (used : Bool) (nodes i code x : ℕ) → 0 < nodes → field_good used nodes i code x ≡ true → x < nodes
field_below true nodes i code x h e = ltb-true x nodes (and_left (ltb x nodes) (eqb code 0x02 || ltb x i) e)
field_below false nodes i code x h e =
    let z : x ≡ 0 = eqb-true x 0 e in
    omega arith
