-- A sheet read and written again, and a cut written and read again.
use Rattle.std.specs.Prelude.{◌≡◌, cond, ◌&&◌, List, ◌++◌, ℕ, eqb, leb, length, drop}
use Rattle.base.specs.Checks.{AllGood}
use Rattle.layout.specs.declared.write.Wrote.{Wrote}
use Rattle.layout.specs.Write.{wrote_as}
use Rattle.netlist.specs.declared.Netlist.{Netlist}
use Rattle.netlist.specs.Checks.{net_checks}
use Rattle.queues.specs.Found.{found, no_queues}
use Rattle.cut.specs.declared.Cut.{Cut}
use Rattle.cut.specs.Cuts.{no_cut}
use Rattle.cut_sheet.specs.declared.read.CutRead.{CutRead}
use Rattle.cut_sheet.specs.Reading.{read_verdict}
use Rattle.cut_sheet.specs.Writing.{write_verdict}
use Rattle.cut_trips.specs.Typed.{Typed}
use Rattle.cut_trips.specs.Trips.{trimmed, read_of, Clean}

-- the same bytes, or the reader's refusal, or 16
unfoldable pub copied : Netlist → List ℕ → ℕ → Wrote
copied n s room =
    cond (eqb (read_verdict n s).answer 0)
    (cond (leb (length s) room) (wrote_as 0 0 (length s)) (wrote_as 16 0 0))
    (wrote_as (read_verdict n s).answer (read_verdict n s).place 0)

unfoldable pub copied_into : Netlist → List ℕ → List ℕ → List ℕ
copied_into n s old = cond (eqb (read_verdict n s).answer 0 && leb (length s) (length old)) (s ++ drop (length s) old) old

-- what the checks say of the cut with zeros past its counts, or the writer's refusal
unfoldable pub reread : Netlist → Cut → ℕ → CutRead
reread n c room =
    cond (eqb (write_verdict n c room).answer 0)
    (read_of n (trimmed c))
    (record { answer = (write_verdict n c room).answer; place = (write_verdict n c room).place; cut = no_cut; queues = no_queues })

-- For a netlist that passed the checks 3 to 6 that is the same cut with its queues; for a cut with zeros past its counts it is so whatever the netlist.
abbrev pub RereadSame : Type 0
RereadSame =
    (n : Netlist) (c : Cut) (room : ℕ)
    → AllGood (net_checks n)
    → Typed c
    → (write_verdict n c room).answer ≡ 0
    → reread n c room ≡ record { answer = 0; place = 0; cut = trimmed c; queues = found n c.part }

abbrev pub RereadClean : Type 0
RereadClean =
    (n : Netlist) (c : Cut) (room : ℕ)
    → Typed c
    → Clean c
    → (write_verdict n c room).answer ≡ 0
    → reread n c room ≡ record { answer = 0; place = 0; cut = c; queues = found n c.part }
