-- The refusals of the cut sheet's reader and writer, exactly.
use Rattle.std.specs.Prelude.{◌≡◌, false, ◌⊎◌, ◌↔◌, List, ℕ, ◌<◌, length}
use Rattle.base.specs.Checks.{answered, found_by, AllGood, ExactAt}
use Rattle.std.specs.Prelude.{Some}
use Rattle.layout.specs.Trailer.{trailer_good, label_bytes}
use Rattle.netlist.specs.declared.Netlist.{Netlist}
use Rattle.netlist.specs.Checks.{net_checks}
use Rattle.cut.specs.declared.Cut.{Cut}
use Rattle.cut_sheet.specs.Image.{cut_letter, cut_image}
use Rattle.cut_sheet.specs.Reading.{read_checks, read_verdict, cut_read}
use Rattle.cut_sheet.specs.Writing.{write_checks, write_verdict, cut_wrote}

-- For each number 3, 7, 8, 9, 10 and 11: the answer is that number, with the place p, if and only if all checks before are good and this one finds p.
abbrev pub ReadExact : Type 0
ReadExact = (n : Netlist) (s : List ℕ) (j p : ℕ) → j < 6 → ExactAt (read_checks n s) j p

-- what the reader gives back is that answer and that place
abbrev pub ReadAnswers : Type 0
ReadAnswers = (n : Netlist) (s : List ℕ) → answered (cut_read n s).answer (cut_read n s).place ≡ read_verdict n s

-- the same for the writer's 3, 7, 8 to 11 and 16
abbrev pub WriteExact : Type 0
WriteExact = (n : Netlist) (c : Cut) (room j p : ℕ) → j < 7 → ExactAt (write_checks n c room) j p

abbrev pub WriteAnswers : Type 0
WriteAnswers = (n : Netlist) (c : Cut) (room : ℕ) → answered (cut_wrote n c room).answer (cut_wrote n c room).place ≡ write_verdict n c room

-- A netlist that passed its own checks is never refused by 3.
abbrev pub NeverThree : Type 0
NeverThree =
    (n : Netlist)
    → AllGood (net_checks n)
    → ((s : List ℕ) → (cut_read n s).answer ≡ 3 → ⊥) × ((c : Cut) (room : ℕ) → (cut_wrote n c room).answer ≡ 3 → ⊥)

-- What check 7 finds, in the table's words: under 16 bytes, a wrong trailer, or over 4,096 label bytes. Place 0.
abbrev pub FrameMeans : Type 0
FrameMeans =
    (n : Netlist) (s : List ℕ) (p : ℕ)
    → (found_by (read_checks n s) 1 ≡ Some p) ↔ (((length s < 16) ⊎ ((trailer_good cut_letter s ≡ false) ⊎ (4096 < label_bytes s))) × (p ≡ 0))

-- and what the writer's 7 and 16 find
pub record WriteFinds (n : Netlist) (c : Cut) (room p : ℕ) : Type 0 where
  pub labels : (found_by (write_checks n c room) 1 ≡ Some p) ↔ ((4096 < c.labels) × (p ≡ 0))
  pub short : (found_by (write_checks n c room) 6 ≡ Some p) ↔ ((room < length (cut_image c)) × (p ≡ 0))

abbrev pub WriteMeans : Type 0
WriteMeans = (n : Netlist) (c : Cut) (room p : ℕ) → WriteFinds n c room p
