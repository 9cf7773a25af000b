-- What a net sheet says, and the checks 1 to 6 on it (outline, "The net sheet" and "Numbers given back").
use Rattle.std.specs.Prelude.{Bool, cond, ◌&&◌, List, ◌∷◌, ℕ, ◌+◌, ◌*◌, ◌/◌, ◌%◌, eqb, leb, length, get_or, replicate}
use Rattle.base.specs.Bytes.{two_at, four_at}
use Rattle.base.specs.Lists.{fill}
use Rattle.std.specs.Prelude.{Option, Some, None, Result, Ok, Err}
use Rattle.base.specs.declared.Verdict.{Verdict}
use Rattle.base.specs.Checks.{whole, verdict}
use Rattle.codes.specs.declared.Record.{Record}
use Rattle.layout.specs.declared.trailer.Sections.{Sections}
use Rattle.layout.specs.Trailer.{trailer_good, front_bytes, middle_bytes, label_bytes}
use Rattle.netlist.specs.declared.Netlist.{Netlist}
use Rattle.netlist.specs.Netlists.{no_net}
use Rattle.netlist.specs.Checks.{net_checks}
use Rattle.net_sheet.specs.declared.read.NetRead.{NetRead}
use Rattle.net_sheet.specs.Image.{net_letter}

-- record i, which stands from byte 12 i on
abbrev pub record_at : List ℕ → ℕ → Record
record_at s i =
    record {
      code = get_or s (i * 12) 0;
      width = get_or s (i * 12 + 1) 0;
      a = two_at s (i * 12 + 2);
      b = two_at s (i * 12 + 4);
      c = two_at s (i * 12 + 6);
      k = four_at s (i * 12 + 8);
    }

abbrev pub no_record : Record
no_record = record { code = 0; width = 0; a = 0; b = 0; c = 0; k = 0 }

-- the record of a number, read where the sheet has its 12 bytes, else zeros
unfoldable pub record_there : List ℕ → ℕ → Record
record_there s i = cond (leb (i * 12 + 12) (length s)) (record_at s i) no_record

-- The netlist of a sheet whose sections have so many bytes: each list has its entries from the sheet, and zeros behind them.
unfoldable pub net_from : List ℕ → ℕ → ℕ → ℕ → Netlist
net_from s front middle labels =
    record {
      nodes = front / 12;
      code = fill (λ i. (record_at s i).code) (front / 12) (replicate 1024 0);
      width = fill (λ i. (record_at s i).width) (front / 12) (replicate 1024 0);
      a = fill (λ i. (record_at s i).a) (front / 12) (replicate 1024 0);
      b = fill (λ i. (record_at s i).b) (front / 12) (replicate 1024 0);
      c = fill (λ i. (record_at s i).c) (front / 12) (replicate 1024 0);
      k = fill (λ i. (record_at s i).k) (front / 12) (replicate 1024 0);
      outputs = middle / 2;
      output = fill (λ j. two_at s (front + j * 2)) (middle / 2) (replicate 64 0);
      labels = labels;
      label = fill (λ j. get_or s (front + middle + j) 0) labels (replicate 4096 0);
    }

-- the netlist that the layout says, by the sections that the trailer points to
abbrev pub net_of : List ℕ → Netlist
net_of s = net_from s (front_bytes s) (middle_bytes s) (label_bytes s)

-- 1: the sheet has 16 bytes
abbrev pub long_enough : List ℕ → Bool
long_enough s = leb 16 (length s)

-- 2: the trailer's rules; outputs fill an even number of bytes and records a multiple of 12
abbrev pub net_trailer_good : List ℕ → Bool
net_trailer_good s = trailer_good net_letter s && eqb (middle_bytes s % 2) 0 && eqb (front_bytes s % 12) 0

-- the sections of a sheet whose trailer keeps to these rules
unfoldable pub net_sections : List ℕ → Option Sections
net_sections s = cond (long_enough s && net_trailer_good s) (Some (record { front = front_bytes s; middle = middle_bytes s; labels = label_bytes s })) None

abbrev pub sheet_checks : List ℕ → List (ℕ × Option ℕ)
sheet_checks s = (1, whole (long_enough s)) ∷ (2, whole (net_trailer_good s)) ∷ net_checks (net_of s)

abbrev pub sheet_verdict : List ℕ → Verdict
sheet_verdict s = verdict (sheet_checks s)

-- what reading gives: the netlist where all checks are good, else zeros
unfoldable pub net_read : List ℕ → NetRead
net_read s =
    record {
      answer = (sheet_verdict s).answer;
      place = (sheet_verdict s).place;
      net = cond (eqb (sheet_verdict s).answer 0) (net_of s) no_net;
    }

-- the same of a reader's result: the netlist, or what refuses
abbrev pub read_for_c : Result Netlist Verdict → NetRead
read_for_c (Ok n) = record { answer = 0; place = 0; net = n }
read_for_c (Err v) = record { answer = v.answer; place = v.place; net = no_net }
