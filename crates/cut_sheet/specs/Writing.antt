-- What the cut sheet's writer gives (outline, "Numbers given back": writers check by 7's label bytes and 8 to 11, then 16).
use Rattle.std.specs.Prelude.{cond, List, [], ◌∷◌, ◌++◌, ℕ, eqb, leb, length, drop}
use Rattle.std.specs.Prelude.{Option}
use Rattle.base.specs.declared.Verdict.{Verdict}
use Rattle.base.specs.Checks.{whole, verdict}
use Rattle.layout.specs.declared.write.Wrote.{Wrote}
use Rattle.netlist.specs.declared.Netlist.{Netlist}
use Rattle.cut.specs.declared.Cut.{Cut}
use Rattle.cut.specs.Checks.{cut_checks}
use Rattle.cut_sheet.specs.Image.{cut_image}

-- the checks for a lent image of so many bytes; 16: the sheet has room
abbrev pub write_checks : Netlist → Cut → ℕ → List (ℕ × Option ℕ)
write_checks n c room = cut_checks n c ++ ((16, whole (leb (length (cut_image c)) room)) ∷ [])

abbrev pub write_verdict : Netlist → Cut → ℕ → Verdict
write_verdict n c room = verdict (write_checks n c room)

unfoldable pub cut_wrote : Netlist → Cut → ℕ → Wrote
cut_wrote n c room =
    record {
      answer = (write_verdict n c room).answer;
      place = (write_verdict n c room).place;
      length = cond (eqb (write_verdict n c room).answer 0) (length (cut_image c)) 0;
    }

-- the image afterwards: the sheet, and behind it what it held; on a refusal all that it held
unfoldable pub cut_written : Netlist → Cut → List ℕ → List ℕ
cut_written n c old = cond (eqb (write_verdict n c (length old)).answer 0) (cut_image c ++ drop (length (cut_image c)) old) old
