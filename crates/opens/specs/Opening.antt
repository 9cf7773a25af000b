-- Opening a network: the checks 1 to 11 on the two sheets and 15 on the cycle limit, and what is opened where all are good (outline, "Numbers given back" and
-- "Rules of the network").
use Rattle.std.specs.Prelude.{Bool, false, cond, ◌&&◌, List, [], ◌∷◌, ◌++◌, ℕ, eqb, leb, replicate}
use Rattle.std.specs.Prelude.{Option}
use Rattle.base.specs.declared.Verdict.{Verdict}
use Rattle.base.specs.Checks.{whole, verdict}
use Rattle.netlist.specs.declared.Netlist.{Netlist}
use Rattle.net_sheet.specs.Reading.{net_of, sheet_checks}
use Rattle.queues.specs.Found.{found}
use Rattle.cut.specs.Checks.{part_checks}
use Rattle.cut_sheet.specs.Reading.{cut_of, frame_good}
use Rattle.cycles.specs.Steps.{first_registers}
use Rattle.plans.specs.declared.Plan.{Plan}
use Rattle.plans.specs.Plans.{plan_of}
use Rattle.lanes.specs.declared.Network.{Network}
use Rattle.opens.specs.declared.Opened.{Opened}

-- 15: the cycle limit is 1 to 4,000,000,000
abbrev pub limit_good : ℕ → Bool
limit_good limit = leb 1 limit && leb limit 4000000000

abbrev pub limit_checks : ℕ → List (ℕ × Option ℕ)
limit_checks limit = (15, whole (limit_good limit)) ∷ []

-- the cut sheet's 7 to 11, for a netlist
abbrev pub cut_sheet_checks : Netlist → List ℕ → List (ℕ × Option ℕ)
cut_sheet_checks n s = (7, whole (frame_good s)) ∷ part_checks n (cut_of s)

-- All checks, in the order of their numbers: 1 to 6 on the net sheet, 7 to 11 on the cut sheet for the netlist that the net sheet says, 15 on the limit.
abbrev pub open_checks : List ℕ → List ℕ → ℕ → List (ℕ × Option ℕ)
open_checks net cut limit = sheet_checks net ++ cut_sheet_checks (net_of net) cut ++ limit_checks limit

abbrev pub open_verdict : List ℕ → List ℕ → ℕ → Verdict
open_verdict net cut limit = verdict (open_checks net cut limit)

-- a fresh network: flags off, counts 0, registers at first values, queues empty and every one of the 8,192 places zero
unfoldable pub fresh_network : Netlist → Network
fresh_network n =
    record {
      cells = replicate 8192 0;
      used = replicate 512 0;
      flag = replicate 512 false;
      held = first_registers n;
      count = replicate 32 0;
    }

-- zeros alone
unfoldable pub no_plan : Plan
no_plan =
    record {
      limit = 0;
      nodes = 0;
      parts = 0;
      inputs = 0;
      channels = 0;
      outputs = 0;
      queues = 0;
      rules = 0;
      code = replicate 1024 0;
      width = replicate 1024 0;
      join = replicate 1024 0;
      k = replicate 1024 0;
      ra = replicate 1024 0;
      rb = replicate 1024 0;
      rc = replicate 1024 0;
      part = replicate 1024 0;
      node = replicate 512 0;
      from = replicate 512 0;
      into = replicate 512 0;
      depth = replicate 512 0;
    }

unfoldable pub no_network : Network
no_network =
    record {
      cells = replicate 8192 0;
      used = replicate 512 0;
      flag = replicate 512 false;
      held = replicate 1024 0;
      count = replicate 32 0;
    }

-- the plan of a netlist and the cut that a sheet says
abbrev pub plan_from : Netlist → List ℕ → ℕ → Plan
plan_from n cut limit = plan_of n (cut_of cut) (found n (cut_of cut).part) limit

-- what checks answer, with a plan and a network where all are good; zeros on a refusal
unfoldable pub opened_by : List (ℕ × Option ℕ) → Plan → Network → Opened
opened_by cs plan network =
    record {
      answer = (verdict cs).answer;
      place = (verdict cs).place;
      plan = cond (eqb (verdict cs).answer 0) plan no_plan;
      network = cond (eqb (verdict cs).answer 0) network no_network;
    }

-- what opening gives
unfoldable pub opened : List ℕ → List ℕ → ℕ → Opened
opened net cut limit = opened_by (open_checks net cut limit) (plan_from (net_of net) cut limit) (fresh_network (net_of net))
