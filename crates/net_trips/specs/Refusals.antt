-- The refusals of the net sheet's reader and writer, exactly.
use Rattle.std.specs.Prelude.{◌≡◌, false, ◌↔◌, List, ℕ, ◌<◌, ltb, length}
use Rattle.base.specs.Checks.{answered, found_by, ExactAt, Lowest}
use Rattle.std.specs.Prelude.{Some}
use Rattle.codes.specs.Records.{record_good}
use Rattle.layout.specs.Labels.{BadEntry}
use Rattle.netlist.specs.declared.Netlist.{Netlist}
use Rattle.netlist.specs.Netlists.{record_of, output_of, labels_of}
use Rattle.netlist.specs.Checks.{numbers_good}
use Rattle.net_sheet.specs.Reading.{net_of, net_trailer_good, sheet_checks, sheet_verdict, net_read}
use Rattle.net_sheet.specs.Writing.{write_checks, write_verdict, net_wrote}

-- For each number 1 to 6, check j having the number 1 + j: the answer is that number, with the place p, if and only if all checks before are good and this one finds p.
abbrev pub ReadExact : Type 0
ReadExact = (s : List ℕ) (j p : ℕ) → j < 6 → ExactAt (sheet_checks s) j p

-- what the reader gives back is that answer and that place
abbrev pub ReadAnswers : Type 0
ReadAnswers = (s : List ℕ) → answered (net_read s).answer (net_read s).place ≡ sheet_verdict s

-- the same for the writer's 3, 4, 5, 6 and 16
abbrev pub WriteExact : Type 0
WriteExact = (n : Netlist) (room j p : ℕ) → j < 5 → ExactAt (write_checks n room) j p

abbrev pub WriteAnswers : Type 0
WriteAnswers = (n : Netlist) (room : ℕ) → answered (net_wrote n room).answer (net_wrote n room).place ≡ write_verdict n room

-- What each check finds, in the table's words. 1: under 16 bytes. 2: the trailer breaks its rules. 3: a number outside its range. Place 0.
-- 4: the lowest record that breaks its rule. 5: the lowest output that names no node. 6: the first label entry that breaks its rule.
pub record ReadFinds (s : List ℕ) (p : ℕ) : Type 0 where
  pub short : (found_by (sheet_checks s) 0 ≡ Some p) ↔ ((length s < 16) × (p ≡ 0))
  pub trailer : (found_by (sheet_checks s) 1 ≡ Some p) ↔ ((net_trailer_good s ≡ false) × (p ≡ 0))
  pub numbers : (found_by (sheet_checks s) 2 ≡ Some p) ↔ ((numbers_good (net_of s) ≡ false) × (p ≡ 0))
  pub records : (found_by (sheet_checks s) 3 ≡ Some p) ↔ Lowest (λ i. record_good (net_of s).width (net_of s).nodes i (record_of (net_of s) i)) (net_of s).nodes p
  pub outputs : (found_by (sheet_checks s) 4 ≡ Some p) ↔ Lowest (λ j. ltb (output_of (net_of s) j) (net_of s).nodes) (net_of s).outputs p
  pub labels : (found_by (sheet_checks s) 5 ≡ Some p) ↔ BadEntry (net_of s).nodes (labels_of (net_of s)) p

abbrev pub ReadMeans : Type 0
ReadMeans = (s : List ℕ) (p : ℕ) → ReadFinds s p
