-- What the net sheet's writer gives (outline, "Numbers given back": writers check by 3 to 6, then 16).
use Rattle.std.specs.Prelude.{cond, List, [], ◌∷◌, ◌++◌, ℕ, eqb, leb, length, drop}
use Rattle.std.specs.Prelude.{Option}
use Rattle.base.specs.declared.Verdict.{Verdict}
use Rattle.base.specs.Checks.{whole, verdict}
use Rattle.netlist.specs.declared.Netlist.{Netlist}
use Rattle.netlist.specs.Checks.{net_checks}
use Rattle.layout.specs.declared.write.Wrote.{Wrote}
use Rattle.net_sheet.specs.Image.{net_image}

-- the checks for a lent image of so many bytes; 16: the sheet has room
abbrev pub write_checks : Netlist → ℕ → List (ℕ × Option ℕ)
write_checks n room = net_checks n ++ ((16, whole (leb (length (net_image n)) room)) ∷ [])

abbrev pub write_verdict : Netlist → ℕ → Verdict
write_verdict n room = verdict (write_checks n room)

unfoldable pub net_wrote : Netlist → ℕ → Wrote
net_wrote n room =
    record {
      answer = (write_verdict n room).answer;
      place = (write_verdict n room).place;
      length = cond (eqb (write_verdict n room).answer 0) (length (net_image n)) 0;
    }

-- the image afterwards: the sheet, and behind it what it held; on a refusal all that it held
unfoldable pub net_written : Netlist → List ℕ → List ℕ
net_written n old = cond (eqb (write_verdict n (length old)).answer 0) (net_image n ++ drop (length (net_image n)) old) old
