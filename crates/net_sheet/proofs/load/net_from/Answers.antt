-- `net_sheet::load::net_from` meets its contract. The three loads together leave the netlist of the sheet.
use native.Mathlib.Omega.{arith}
use Rattle.net_sheet.proofs.Loads.{net_from_is}
use Rattle.net_sheet.proofs.load.net_from.Goals as goal

pub returns : goal.returns
returns c =
    let s = c.args.s in
    net_from_is c.args.sheet.now s.front s.middle s.labels _ _ _ _ _ _ _ c.requires
    c.no_net-net.ensures c.load_nodes.ensures c.min-nodes.ensures c.load_outputs.ensures c.min-outputs.ensures c.load_bytes.ensures (omega arith)
