-- A drawing has one meaning, from the laws on solutions, runs and widths.
use mathlib.Core.Path.{refl}
use Rattle.cycles.specs.Meaning.{EachCycle, EachRun}
use Rattle.cycles.specs.Netlists.{drawing}
use Rattle.cycles.proofs.Accepted.{ordered}
use Rattle.cycles.proofs.Unique.{one_solution, one-run}
use Rattle.cycles.proofs.Exists.{solution, solves, run, runs}
use Rattle.cycles.proofs.Below.{solves-below, runs-below}

pub each_cycle : EachCycle
each_cycle n g given =
    let D = drawing n in
    let O = ordered n g in
    record {
      values = solution D given;
      solve = solves D O given;
      only = λ v h. one_solution D O given given v (solution D given) (λ i k. refl) h (solves D O given);
      below = λ b. solves-below n given (solution D given) (solves D O given) b;
    }

pub each-run : EachRun
each-run n g s =
    let D = drawing n in
    let O = ordered n g in
    record {
      values = run D s;
      runs = runs D O s;
      only = λ v h. one-run D O s v (run D s) h (runs D O s);
      below = λ b m. runs-below n g s (run D s) b (runs D O s) m;
    }
