-- What a cut sheet says, and the checks 7 to 11 on it (outline, "The cut sheet" and "Numbers given back").
use Rattle.std.specs.Prelude.{Bool, cond, ◌&&◌, List, ◌∷◌, ℕ, ◌+◌, eqb, leb, length, get_or, replicate}
use Rattle.base.specs.Lists.{fill}
use Rattle.std.specs.Prelude.{Option, Result, Ok, Err}
use Rattle.base.specs.declared.Verdict.{Verdict}
use Rattle.base.specs.Checks.{whole, verdict}
use Rattle.layout.specs.Trailer.{trailer_good, front_bytes, middle_bytes, label_bytes}
use Rattle.netlist.specs.declared.Netlist.{Netlist}
use Rattle.netlist.specs.Checks.{numbers_good}
use Rattle.queues.specs.Found.{found, no_queues}
use Rattle.queues.specs.declared.Queues.{Queues}
use Rattle.cut.specs.declared.Cut.{Cut}
use Rattle.cut.specs.Cuts.{no_cut}
use Rattle.cut.specs.Checks.{labels_few, part_checks}
use Rattle.cut_sheet.specs.declared.read.CutRead.{CutRead}
use Rattle.cut_sheet.specs.Image.{cut_letter}

-- The cut of a sheet whose sections have so many bytes: each list has its entries from the sheet, and zeros behind them.
unfoldable pub cut_from : List ℕ → ℕ → ℕ → ℕ → Cut
cut_from s front middle labels =
    record {
      nodes = front;
      part = fill (λ i. get_or s i 0) front (replicate 1024 0);
      queues = middle;
      depth = fill (λ q. get_or s (front + q) 0) middle (replicate 512 0);
      labels = labels;
      label = fill (λ j. get_or s (front + middle + j) 0) labels (replicate 4096 0);
    }

-- the cut that the layout says, by the sections that the trailer points to
abbrev pub cut_of : List ℕ → Cut
cut_of s = cut_from s (front_bytes s) (middle_bytes s) (label_bytes s)

-- 7: the sheet has 16 bytes, its trailer keeps the rules, and it has at most 4,096 label bytes
abbrev pub frame_good : List ℕ → Bool
frame_good s = leb 16 (length s) && trailer_good cut_letter s && labels_few (label_bytes s)

abbrev pub read_checks : Netlist → List ℕ → List (ℕ × Option ℕ)
read_checks n s = (3, whole (numbers_good n)) ∷ (7, whole (frame_good s)) ∷ part_checks n (cut_of s)

abbrev pub read_verdict : Netlist → List ℕ → Verdict
read_verdict n s = verdict (read_checks n s)

-- what reading gives: the cut and its queues where all checks are good, else zeros
unfoldable pub cut_read : Netlist → List ℕ → CutRead
cut_read n s =
    record {
      answer = (read_verdict n s).answer;
      place = (read_verdict n s).place;
      cut = cond (eqb (read_verdict n s).answer 0) (cut_of s) no_cut;
      queues = cond (eqb (read_verdict n s).answer 0) (found n (cut_of s).part) no_queues;
    }

-- the same of a reader's result: the cut and its queues, or what refuses
abbrev pub read_for_c : Result (Cut × Queues) Verdict → CutRead
read_for_c (Ok p) = record { answer = 0; place = 0; cut = p.0; queues = p.1 }
read_for_c (Err v) = record { answer = v.answer; place = v.place; cut = no_cut; queues = no_queues }
