-- The bench example passes its checks, so demand 3 speaks of it.
use mathlib.Core.Path.{refl}
use Rattle.base.specs.Checks.{AllGood, first_bad}
use Rattle.codes.specs.Rows.{rows, place}
use Rattle.codes.specs.Records.{fields_good, record_good}
use Rattle.layout.specs.Labels.{labels_from}
use Rattle.netlist.specs.Checks.{net_checks}
use Rattle.cycles.specs.Bench.{bench}
use Rattle.queues.specs.Lists.{listed, some, largest}
use Rattle.queues.specs.Queues.{queues_of}
use Rattle.cut.specs.Checks.{cut_checks}
use Rattle.nets.specs.Bench.{bench_cut, bench_net}
use Rattle.demand.specs.Demands.{Demand3}
use Rattle.demand.proofs.Demands.{demand_3}

net_good : AllGood (net_checks bench)
unfolding first_bad rows place fields_good record_good labels_from
net_good = (refl, (refl, (refl, (refl, tt))))

cut_good : AllGood (cut_checks bench bench_cut)
unfolding first_bad rows place labels_from listed some largest queues_of
cut_good = (refl, (refl, (refl, (refl, (refl, (refl, tt))))))

pub bench-demand : Demand3 bench bench_net
bench-demand = demand_3 bench bench_cut net_good cut_good 4000000000
