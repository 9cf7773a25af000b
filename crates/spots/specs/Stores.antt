-- The arrays of a network that earlier calls gave: its plan is that of a netlist and a cut that pass their checks, as opening makes it of two sheets, and they hold
-- a state that actions reach.
use Rattle.std.specs.Prelude.{◌≡◌, Bool, List, ℕ, ◌^◌, ◌<◌}
use Rattle.base.specs.Checks.{AllGood}
use Rattle.netlist.specs.declared.Netlist.{Netlist}
use Rattle.netlist.specs.Checks.{net_checks}
use Rattle.queues.specs.Found.{found}
use Rattle.cut.specs.declared.Cut.{Cut}
use Rattle.cut.specs.Checks.{cut_checks}
use Rattle.nets.specs.Net.{Net}
use Rattle.nets.specs.State.{State}
use Rattle.nets.specs.Networks.{network_of}
use Rattle.nets.specs.Stored.{cells_of, used_of, flags_of, held_of, counts_of}
use Rattle.nets.specs.Kept.{Reached}
use Rattle.plans.specs.declared.Plan.{Plan}
use Rattle.plans.specs.Plans.{plan_of}
use Rattle.lanes.specs.declared.Network.{Network}

-- a network from its arrays, and the one that holds a state
abbrev pub net_in : List ℕ → List ℕ → List Bool → List ℕ → List ℕ → Network
net_in cells used flag held count = record { cells = cells; used = used; flag = flag; held = held; count = count }

abbrev pub store_of : State → Network
store_of s = net_in (cells_of s) (used_of s) (flags_of s) (held_of s) (counts_of s)

-- The plan P and the arrays L are those of a drawing n cut by c with a cycle limit, in the state s.
pub record Given (P : Plan) (L : Network) : Type 0 where
  pub n : Netlist
  pub c : Cut
  pub limit : ℕ
  pub s : State
  pub net_good : AllGood (net_checks n)
  pub cut_good : AllGood (cut_checks n c)
  pub small : limit < 2 ^ 32
  pub reached : Reached (network_of n c limit) s
  pub plan : P ≡ plan_of n c (found n c.part) limit
  pub holds : L ≡ store_of s

-- its network of parts and queues
abbrev pub net_of : {P : Plan} {L : Network} → Given P L → Net
net_of G = network_of G.n G.c G.limit
