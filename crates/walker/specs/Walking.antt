-- What a walker that carries a net sheet and a record number stands at, and what is left of the sheet (outline, "The net sheet").
use Rattle.std.specs.Prelude.{cond, ◌&&◌, List, ℕ, ◌+◌, ◌-◌, ◌*◌, ◌/◌, ◌^◌, min, leb, length}
use Rattle.codes.specs.declared.Record.{Record}
use Rattle.layout.specs.Trailer.{front_bytes}
use Rattle.net_sheet.specs.Reading.{record_at, no_record, long_enough, net_trailer_good}

-- the record of a number, read where the sheet has its 12 bytes, else zeros
unfoldable pub stands_at : List ℕ → ℕ → Record
stands_at s i = cond (leb (i * 12 + 12) (length s)) (record_at s i) no_record

-- how many records the sheet has: those of 12 bytes before the outputs, and none where the trailer breaks its rules
unfoldable pub record_count : List ℕ → ℕ
record_count s = cond (long_enough s && net_trailer_good s) (front_bytes s / 12) 0

-- how many stand from a number on, its own record too; none past the last
abbrev pub left_from : List ℕ → ℕ → ℕ
left_from s i = record_count s - i

-- the number after a number of 64 bits; the largest stays
abbrev pub after : ℕ → ℕ
after i = min (i + 1) (2 ^ 64 - 1)
