-- The packed counts are the table's, computed once over all 256 code bytes.
use mathlib.Core.Path.{◌≡◌}
use mathlib.Core.Bool.{Bool}
use Prim.Native.Nat.{ℕ, ◌*◌, ◌/◌, ◌%◌, ◌^◌, ◌<◌}
use lib.Dec.{eqb, eqb→eq}
use Rattle.base.proofs.Tests.{below}
use Rattle.codes.specs.Rows.{rows, place, count_of}
use Rattle.codes.specs.Packed.{counts_at}

abbrev pub unpacked : ℕ → ℕ
unpacked c = counts_at (c / 32) / 2 ^ (c % 32 * 2) % 4

abbrev same : ℕ → Bool
same c = eqb (unpacked c) (count_of c)

pub counts : (c : ℕ) → c < 256 → unpacked c ≡ count_of c
unfolding rows place
counts c h = eqb→eq (unpacked c) (count_of c) (below same 256 tt c h)
