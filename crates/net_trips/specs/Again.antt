-- A sheet read and written again, and a netlist written and read again.
use Rattle.std.specs.Prelude.{cond, ◌&&◌, List, ◌++◌, ℕ, eqb, leb, length, drop}
use Rattle.netlist.specs.declared.Netlist.{Netlist}
use Rattle.netlist.specs.Netlists.{no_net}
use Rattle.layout.specs.declared.write.Wrote.{Wrote}
use Rattle.layout.specs.Write.{wrote_as}
use Rattle.net_sheet.specs.declared.read.NetRead.{NetRead}
use Rattle.net_sheet.specs.Reading.{sheet_verdict}
use Rattle.net_sheet.specs.Writing.{write_verdict}
use Rattle.net_trips.specs.Trips.{trimmed}

-- the same bytes, or the reader's refusal, or 16
unfoldable pub copied : List ℕ → ℕ → Wrote
copied s room =
    cond (eqb (sheet_verdict s).answer 0)
    (cond (leb (length s) room) (wrote_as 0 0 (length s)) (wrote_as 16 0 0))
    (wrote_as (sheet_verdict s).answer (sheet_verdict s).place 0)

unfoldable pub copied_into : List ℕ → List ℕ → List ℕ
copied_into s old = cond (eqb (sheet_verdict s).answer 0 && leb (length s) (length old)) (s ++ drop (length s) old) old

-- the same netlist, or the writer's refusal
unfoldable pub reread : Netlist → ℕ → NetRead
reread n room =
    cond (eqb (write_verdict n room).answer 0)
    (record { answer = 0; place = 0; net = trimmed n })
    (record { answer = (write_verdict n room).answer; place = (write_verdict n room).place; net = no_net })
