-- The exact refusals, from the shared laws on lists of checks, on first-bad searches and on label entries.
use mathlib.Core.Path.{refl}
use Prim.Native.Nat.{ℕ}
use borrow.Author.Tests.{leb-false, lt-leb}
use lib.Dec.{ltb, lit≤}
use lib.ListN.{length}
use Rattle.base.specs.Checks.{Rising}
use Rattle.base.proofs.Exact.{exact}
use Rattle.base.proofs.First.{lowest-bad}
use Rattle.base.proofs.Verdicts.{whole-bad}
use Rattle.codes.specs.Records.{record_good}
use Rattle.layout.proofs.Meaning.{label-bad}
use Rattle.netlist.specs.declared.Netlist.{Netlist}
use Rattle.netlist.specs.Netlists.{record_of, output_of, labels_of}
use Rattle.netlist.specs.Checks.{numbers_good}
use Rattle.net_sheet.specs.Reading.{net_of, long_enough, net_trailer_good, sheet_checks, net_read}
use Rattle.net_sheet.specs.Writing.{write_checks, net_wrote}
use Rattle.net_sheet.proofs.Verdicts.{rising}
use Rattle.net_trips.specs.Refusals.{ReadExact, ReadAnswers, ReadMeans, WriteExact, WriteAnswers}

pub read-exact : ReadExact
read-exact s j p h = exact (sheet_checks s) (lit≤ tt, (lit≤ tt, rising (net_of s))) j p h

pub read_answers : ReadAnswers
unfolding net_read
read_answers s = refl

pub write_rising : (n : Netlist) (room : ℕ) → Rising 1 (write_checks n room)
write_rising n room = (lit≤ tt, (lit≤ tt, (lit≤ tt, (lit≤ tt, (lit≤ tt, tt)))))

pub write_exact : WriteExact
write_exact n room j p h = exact (write_checks n room) (write_rising n room) j p h

pub write_answers : WriteAnswers
unfolding net_wrote
write_answers n room = refl

pub read_means : ReadMeans
read_means s p =
    let short = whole-bad (long_enough s) p in
    record {
      short = (λ e. let f = short.0 e in (leb-false 16 (length s) f.0, f.1), λ f. short.1 (lt-leb 16 (length s) f.0, f.1));
      trailer = whole-bad (net_trailer_good s) p;
      numbers = whole-bad (numbers_good (net_of s)) p;
      records = lowest-bad (λ i. record_good (net_of s).width (net_of s).nodes i (record_of (net_of s) i)) (net_of s).nodes p;
      outputs = lowest-bad (λ j. ltb (output_of (net_of s) j) (net_of s).nodes) (net_of s).outputs p;
      labels = label-bad (net_of s).nodes (labels_of (net_of s)) p;
    }
