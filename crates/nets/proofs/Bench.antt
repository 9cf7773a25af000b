-- The bench example's network computes what the outline says.
use mathlib.Core.Path.{refl}
use Rattle.codes.specs.Rows.{rows, place}
use Rattle.values.specs.Values.{constant_of, one_of, two_of, compared_of, shifted_of, wired_of, code_of, value_of}
use Rattle.queues.specs.Lists.{listed, some, largest}
use Rattle.queues.specs.Queues.{queues_of}
use Rattle.nets.specs.Lists.{tab}
use Rattle.nets.specs.State.{fresh, view, eval, met, present, needs_met}
use Rattle.nets.specs.Actions.{room, tests, ready, done, step, play}
use Rattle.nets.specs.Rounds.{rule_count, rule, in_order, fired_by, run}
use Rattle.nets.specs.Orders.{asked, counted, tried, order}
use Rattle.nets.specs.Bench.{BenchRules}

pub bench-rules : BenchRules
unfolding rows place constant_of one_of two_of compared_of shifted_of wired_of code_of value_of listed some largest queues_of tab fresh view eval met present needs_met room tests ready done step play rule_count rule in_order fired_by run asked counted tried order
bench-rules =
    record {
      sizes = (refl, refl, refl);
      at_first = refl;
      six = refl;
      gives = (refl, refl);
      stops = (refl, refl);
      orders = (refl, refl, refl);
    }
