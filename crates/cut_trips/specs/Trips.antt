-- The round trips of a cut sheet.
use Rattle.std.specs.Prelude.{◌≡◌, cond, List, ◌++◌, ℕ, ◌≤◌, eqb, length, drop}
use Rattle.base.specs.Arrays.{Bytes, cleared, ZerosFrom}
use Rattle.base.specs.Checks.{AllGood}
use Rattle.netlist.specs.declared.Netlist.{Netlist}
use Rattle.netlist.specs.Checks.{net_checks}
use Rattle.queues.specs.Found.{found, no_queues}
use Rattle.cut.specs.declared.Cut.{Cut}
use Rattle.cut.specs.Cuts.{no_cut}
use Rattle.cut.specs.Checks.{cut_checks, cut_verdict}
use Rattle.cut_sheet.specs.declared.read.CutRead.{CutRead}
use Rattle.cut_sheet.specs.Image.{cut_image}
use Rattle.cut_sheet.specs.Reading.{cut_read}
use Rattle.cut_sheet.specs.Writing.{cut_wrote, cut_written}
use Rattle.cut_trips.specs.Typed.{Typed}

-- For every sheet that the reader accepts, the writer accepts the cut; given room it writes exactly that sheet, byte for byte, and gives its length.
abbrev pub WriteAfterRead : Type 0
WriteAfterRead =
    (n : Netlist) (s old : List ℕ)
    → Bytes s
    → (cut_read n s).answer ≡ 0
    → length s ≤ length old
    → (cut_wrote n (cut_read n s).cut (length old) ≡ record { answer = 0; place = 0; length = length s })
    × (cut_written n (cut_read n s).cut old ≡ s ++ drop (length s) old)

-- a cut with zeros past its counts
unfoldable pub trimmed : Cut → Cut
trimmed c =
    record {
      nodes = c.nodes;
      part = cleared 1024 c.nodes c.part;
      queues = c.queues;
      depth = cleared 512 c.queues c.depth;
      labels = c.labels;
      label = cleared 4096 c.labels c.label;
    }

-- what reading a sheet that says this cut gives, its frame being good
unfoldable pub read_of : Netlist → Cut → CutRead
read_of n c =
    record {
      answer = (cut_verdict n c).answer;
      place = (cut_verdict n c).place;
      cut = cond (eqb (cut_verdict n c).answer 0) c no_cut;
      queues = cond (eqb (cut_verdict n c).answer 0) (found n c.part) no_queues;
    }

-- For every cut that the writer accepts, reading the image gives what the checks say of the cut with zeros past its counts. An output of a netlist that
-- passed no checks may name a number past the nodes, and what stands there in the array of part numbers is not in the sheet.
abbrev pub ReadAfterWriteAny : Type 0
ReadAfterWriteAny = (n : Netlist) (c : Cut) → Typed c → (cut_verdict n c).answer ≡ 0 → cut_read n (cut_image c) ≡ read_of n (trimmed c)

-- For every netlist that passed the checks 3 to 6 it gives 0, the same cut, what stands past its counts left out, and that cut's queues.
abbrev pub ReadAfterWrite : Type 0
ReadAfterWrite =
    (n : Netlist) (c : Cut)
    → AllGood (net_checks n)
    → Typed c
    → (cut_verdict n c).answer ≡ 0
    → cut_read n (cut_image c) ≡ record { answer = 0; place = 0; cut = trimmed c; queues = found n c.part }

-- everything past a count is zero
pub record Clean (c : Cut) : Type 0 where
  pub part : ZerosFrom c.nodes c.part
  pub depth : ZerosFrom c.queues c.depth
  pub label : ZerosFrom c.labels c.label

-- For such a cut it is the very same, whatever the netlist.
abbrev pub ReadAfterWriteClean : Type 0
ReadAfterWriteClean =
    (n : Netlist) (c : Cut)
    → Typed c
    → Clean c
    → (cut_verdict n c).answer ≡ 0
    → cut_read n (cut_image c) ≡ record { answer = 0; place = 0; cut = c; queues = found n c.part }

-- And what the reader gives is such a cut, on a refusal too.
abbrev pub ReadIsClean : Type 0
ReadIsClean = (n : Netlist) (s : List ℕ) → Bytes s → Typed (cut_read n s).cut × Clean (cut_read n s).cut

-- A cut that the reader gives with 0 passes the checks 3 and 7 to 11, and the queues are that cut's: they are what later calls make their promises for.
abbrev pub ReadIsAccepted : Type 0
ReadIsAccepted =
    (n : Netlist) (s : List ℕ)
    → (cut_read n s).answer ≡ 0
    → AllGood (cut_checks n (cut_read n s).cut) × ((cut_read n s).queues ≡ found n (cut_read n s).cut.part)
