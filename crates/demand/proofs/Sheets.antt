-- Demand 3 of a netlist and a cut is that of the sheets that say them, and of every network that is given.
use Rattle.net_sheet.specs.Reading.{net_of}
use Rattle.cut_sheet.specs.Reading.{cut_of}
use Rattle.opens.proofs.Fresh.{net-passed, cut_passed}
use Rattle.demand.specs.Sheets.{EachOpened, EachGiven}
use Rattle.demand.proofs.Demands.{demand_3}

pub each-opened : EachOpened
each-opened net cut limit z = demand_3 (net_of net) (cut_of cut) (net-passed net cut limit z) (cut_passed net cut limit z) limit

pub each-given : EachGiven
each-given P L G = record { demand = demand_3 G.n G.c G.net_good G.cut_good G.limit; state_is = G.reached.is }
