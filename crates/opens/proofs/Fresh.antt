-- Where opening refuses nothing, both sheets passed their checks, and its arrays hold the fresh state.
use mathlib.Core.Path.{◌≡◌, refl, ◌∙◌, ap}
use mathlib.Core.Bool.{◌&&◌}
use mathlib.Core.List.{List, ◌++◌}
use Prim.Native.Nat.{ℕ, ◌<◌, ◌≤◌, ◌^◌}
use native.Mathlib.Omega.{arith}
use borrow.Author.Tests.{leb-true}
use lib.Dec.{leb}
use lib.ListN.{length}
use Rattle.base.specs.Checks.{whole, AllGood}
use Rattle.base.proofs.Tests.{and_right}
use Rattle.base.proofs.Verdicts.{good-apart, whole-good}
use Rattle.layout.specs.Trailer.{trailer_good, label_bytes}
use Rattle.netlist.specs.declared.Netlist.{Netlist}
use Rattle.netlist.specs.Checks.{net_checks}
use Rattle.net_sheet.specs.Reading.{net_of, sheet_checks}
use Rattle.queues.specs.Found.{found}
use Rattle.cut.specs.declared.Cut.{Cut}
use Rattle.cut.specs.Checks.{cut_checks, labels_few}
use Rattle.cut_sheet.specs.Image.{cut_letter}
use Rattle.cut_sheet.specs.Reading.{cut_from, cut_of, frame_good}
use Rattle.nets.specs.State.{fresh}
use Rattle.nets.specs.Rounds.{rule_count}
use Rattle.nets.specs.Networks.{network_of}
use Rattle.nets.proofs.Stores.{fresh_cells, fresh-used, fresh-flags, fresh-held, fresh-counts}
use Rattle.nets.proofs.Kept.{reaching}
use Rattle.nets.proofs.Goods.{few, few-queues, queues_are}
use Rattle.plans.specs.Plans.{plan_of}
use Rattle.spots.specs.Stores.{store_of, Given}
use Rattle.opens.specs.Opening.{limit_good, limit_checks, cut_sheet_checks, open_checks, fresh_network, plan_from, opened}
use Rattle.opens.specs.Meaning.{net_for, OpenedFresh, OpenGiven, CountedAs, RulesCounted}
use Rattle.opens.proofs.Answers.{opened_as, by_good}
use Rattle.opens.proofs.Refusals.{open_done}

-- a fresh network's arrays hold the fresh state
pub fresh_holds : (n : Netlist) (c : Cut) (limit : ℕ) → AllGood (net_checks n) → fresh_network n ≡ store_of (fresh (network_of n c limit))
unfolding fresh_network
fresh_holds n c limit g =
    let N = network_of n c limit in
    rw (fresh_cells N, fresh-used N, fresh-flags N, fresh-held n g c limit, fresh-counts N)

module _ (s t : List ℕ) (limit : ℕ) (z : (opened s t limit).answer ≡ 0) where
  all : AllGood (open_checks s t limit)
  all = (open_done s t limit).0 z

  pub opened_is : opened s t limit ≡ opened_as (plan_from (net_of s) t limit) (fresh_network (net_of s))
  unfolding opened
  opened_is = by_good (plan_from (net_of s) t limit) (fresh_network (net_of s)) (open_checks s t limit) all

  net-apart : AllGood (sheet_checks s) × AllGood (cut_sheet_checks (net_of s) t ++ limit_checks limit)
  net-apart = good-apart (sheet_checks s) (cut_sheet_checks (net_of s) t ++ limit_checks limit) all

  cut_apart : AllGood (cut_sheet_checks (net_of s) t) × AllGood (limit_checks limit)
  cut_apart = good-apart (cut_sheet_checks (net_of s) t) (limit_checks limit) net-apart.1

  pub net-passed : AllGood (net_checks (net_of s))
  net-passed = net-apart.0.1.1

  pub cut_passed : AllGood (cut_checks (net_of s) (cut_of t))
  unfolding cut_from
  cut_passed =
      let frame = whole-good (frame_good t) cut_apart.0.0 in
      let few-labels = and_right (leb 16 (length t) && trailer_good cut_letter t) (labels_few (label_bytes t)) frame in
      (net-passed.0, (ap whole few-labels, cut_apart.0.1))

  pub limit-small : limit < 2 ^ 32
  limit-small =
      let h : limit ≤ 4000000000 = leb-true limit 4000000000 (and_right (leb 1 limit) (leb limit 4000000000) (whole-good (limit_good limit) cut_apart.1.0)) in
      omega arith

  -- what later calls ask for, its fields written out
  abbrev pub given : Given (opened s t limit).plan (opened s t limit).network
  given =
      record {
        n = net_of s;
        c = cut_of t;
        limit = limit;
        s = fresh (net_for s t limit);
        net_good = net-passed;
        cut_good = cut_passed;
        small = limit-small;
        reached = (reaching (net_for s t limit)).at_first;
        plan = ap (λ r. r.plan) opened_is;
        holds = ap (λ r. r.network) opened_is ∙ fresh_holds (net_of s) (cut_of t) limit net-passed;
      }

  fresh-given : OpenedFresh s t limit
  fresh-given = record { given = given; net_is = refl; cut_is = refl; limit_is = refl; state_is = refl }

  rules_are : (plan_from (net_of s) t limit).rules ≡ rule_count (net_for s t limit)
  unfolding plan_of found rule_count
  rules_are =
      let q = few-queues (net_of s) (cut_of t) net-passed cut_passed in
      let p = few (net_of s) (cut_of t) net-passed cut_passed in
      let e = queues_are (net_of s) (cut_of t) limit in
      omega arith

  counted : CountedAs s t limit
  unfolding plan_of found
  counted =
      record {
        nodes = ap (λ r. r.plan.nodes) opened_is;
        parts = ap (λ r. r.plan.parts) opened_is;
        queues = ap (λ r. r.plan.queues) opened_is;
        rules = ap (λ r. r.plan.rules) opened_is ∙ rules_are;
      }

pub open_given : OpenGiven
open_given s t limit z = fresh-given s t limit z

pub rules-counted : RulesCounted
rules-counted s t limit z = counted s t limit z
