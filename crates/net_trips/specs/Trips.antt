-- The round trips of a net sheet.
use Rattle.std.specs.Prelude.{◌≡◌, List, ◌++◌, ℕ, ◌≤◌, length, drop}
use Rattle.base.specs.Arrays.{Bytes, cleared, ZerosFrom}
use Rattle.base.specs.Checks.{verdict, AllGood}
use Rattle.netlist.specs.declared.Netlist.{Netlist}
use Rattle.netlist.specs.Checks.{net_checks}
use Rattle.net_sheet.specs.Image.{net_image}
use Rattle.net_sheet.specs.Reading.{net_read}
use Rattle.net_sheet.specs.Writing.{net_wrote, net_written}
use Rattle.net_trips.specs.Typed.{Typed}

-- For every sheet that the reader accepts, the writer accepts the netlist; given room it writes exactly that sheet, byte for byte, and gives its length.
abbrev pub WriteAfterRead : Type 0
WriteAfterRead =
    (s old : List ℕ)
    → Bytes s
    → (net_read s).answer ≡ 0
    → length s ≤ length old
    → (net_wrote (net_read s).net (length old) ≡ record { answer = 0; place = 0; length = length s })
    × (net_written (net_read s).net old ≡ s ++ drop (length s) old)

-- a netlist with zeros past its counts
unfoldable pub trimmed : Netlist → Netlist
trimmed n =
    record {
      nodes = n.nodes;
      code = cleared 1024 n.nodes n.code;
      width = cleared 1024 n.nodes n.width;
      a = cleared 1024 n.nodes n.a;
      b = cleared 1024 n.nodes n.b;
      c = cleared 1024 n.nodes n.c;
      k = cleared 1024 n.nodes n.k;
      outputs = n.outputs;
      output = cleared 64 n.outputs n.output;
      labels = n.labels;
      label = cleared 4096 n.labels n.label;
    }

-- For every netlist that the writer accepts, reading the image gives 0 and the same netlist, what stands past its counts left out.
abbrev pub ReadAfterWrite : Type 0
ReadAfterWrite =
    (n : Netlist)
    → Typed n
    → (verdict (net_checks n)).answer ≡ 0
    → net_read (net_image n) ≡ record { answer = 0; place = 0; net = trimmed n }

-- everything past a count is zero
pub record Clean (n : Netlist) : Type 0 where
  pub code : ZerosFrom n.nodes n.code
  pub width : ZerosFrom n.nodes n.width
  pub a : ZerosFrom n.nodes n.a
  pub b : ZerosFrom n.nodes n.b
  pub c : ZerosFrom n.nodes n.c
  pub k : ZerosFrom n.nodes n.k
  pub output : ZerosFrom n.outputs n.output
  pub label : ZerosFrom n.labels n.label

-- For such a netlist it is the very same.
abbrev pub ReadAfterWriteClean : Type 0
ReadAfterWriteClean =
    (n : Netlist)
    → Typed n
    → Clean n
    → (verdict (net_checks n)).answer ≡ 0
    → net_read (net_image n) ≡ record { answer = 0; place = 0; net = n }

-- And what the reader gives is such a netlist, on a refusal too.
abbrev pub ReadIsClean : Type 0
ReadIsClean = (s : List ℕ) → Bytes s → Typed (net_read s).net × Clean (net_read s).net

-- A netlist that the reader gives with 0 passes the checks 3 to 6: it is one of those that later calls make their promises for.
abbrev pub ReadIsAccepted : Type 0
ReadIsAccepted = (s : List ℕ) → (net_read s).answer ≡ 0 → AllGood (net_checks (net_read s).net)
