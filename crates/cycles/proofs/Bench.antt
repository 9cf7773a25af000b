-- The bench net: one run goes with its streams, and that run computes.
use mathlib.Core.Path.{◌≡◌, refl}
use mathlib.Core.List.{[], ◌∷◌}
use lib.Dec.{lit<}
use Rattle.base.specs.Checks.{AllGood, first_bad}
use Rattle.codes.specs.Rows.{rows, place}
use Rattle.codes.specs.Records.{fields_good, record_good}
use Rattle.layout.specs.Labels.{labels_from}
use Rattle.netlist.specs.Checks.{net_checks}
use Rattle.values.specs.Values.{constant_of, one_of, two_of, compared_of, shifted_of, wired_of, code_of, value_of}
use Rattle.cycles.specs.Netlists.{drawing}
use Rattle.cycles.specs.Bench.{bench, stream, three_of, BenchHolds}
use Rattle.cycles.proofs.Accepted.{ordered}
use Rattle.cycles.proofs.Exists.{settle, solution, run, runs}
use Rattle.cycles.proofs.Unique.{one-run}

bench-good : AllGood (net_checks bench)
unfolding first_bad rows place fields_good record_good labels_from
bench-good = (refl, (refl, (refl, (refl, tt))))

computed : (three_of (run (drawing bench) stream) 2 ≡ 15 ∷ 9 ∷ 10 ∷ []) × (three_of (run (drawing bench) stream) 3 ≡ 250 ∷ 240 ∷ 246 ∷ [])
unfolding rows place constant_of one_of two_of compared_of shifted_of wired_of code_of value_of settle solution run
computed = (refl, refl)

pub bench-holds : BenchHolds
bench-holds v h =
    let D = drawing bench in
    let O = ordered bench bench-good in
    let same = one-run D O stream v (run D stream) h (runs D O stream) in
    rw (same 0 2 (lit< tt), same 1 2 (lit< tt), same 2 2 (lit< tt), same 0 3 (lit< tt), same 1 3 (lit< tt), same 2 3 (lit< tt)) computed
