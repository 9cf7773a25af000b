-- What opening answers, sheet by sheet: where a sheet's checks are good those behind it answer, and else its own reader did.
use mathlib.Core.Path.{◌≡◌, sym, ◌∙◌, ap}
use mathlib.Core.Bool.{true, false}
use mathlib.Core.List.{List, [], ◌∷◌, ◌++◌}
use Prim.Native.Nat.{ℕ}
use native.Mathlib.Omega.{arith}
use borrow.Author.Tests.{ne_eqb}
use lib.Dec.{lit<, lit≤}
use Rattle.std.specs.Prelude.{Option}
use Rattle.base.specs.declared.Verdict.{Verdict}
use Rattle.base.specs.Checks.{whole, verdict, answered, AllGood}
use Rattle.base.proofs.Verdicts.{all-good, good-all, verdict-bad, verdict-more, verdict-kept}
use Rattle.netlist.specs.declared.Netlist.{Netlist}
use Rattle.netlist.specs.Checks.{numbers_good}
use Rattle.net_sheet.specs.declared.read.NetRead.{NetRead}
use Rattle.net_sheet.specs.Reading.{net_of, sheet_checks, sheet_verdict, net_read}
use Rattle.net_sheet.proofs.Verdicts.{rising, read_done}
use Rattle.queues.specs.Found.{found}
use Rattle.cut_sheet.specs.declared.read.CutRead.{CutRead}
use Rattle.cut_sheet.specs.Reading.{cut_of, read_checks, read_verdict, cut_read}
use Rattle.cut_sheet.proofs.Verdicts as cuts
use Rattle.plans.specs.declared.Plan.{Plan}
use Rattle.plans.specs.Plans.{plan_of}
use Rattle.lanes.specs.declared.Network.{Network}
use Rattle.opens.specs.declared.Opened.{Opened}
use Rattle.opens.specs.Opening.{limit_good, limit_checks, cut_sheet_checks, open_checks, no_plan, no_network, fresh_network, plan_from, opened_by, opened}

-- a refusal, and what is opened
abbrev pub refused_as : ℕ → ℕ → Opened
refused_as answer place = record { answer = answer; place = place; plan = no_plan; network = no_network }

abbrev pub opened_as : Plan → Network → Opened
opened_as plan network = record { answer = 0; place = 0; plan = plan; network = network }

-- ---- any checks

module _ (P : Plan) (L : Network) where
  pub by_bad : (cs : List (ℕ × Option ℕ)) (v : Verdict) → verdict cs ≡ v → (v.answer ≡ 0 → ⊥) → opened_by cs P L ≡ refused_as v.answer v.place
  unfolding opened_by
  by_bad cs v e h = rw (e, ne_eqb v.answer 0 h)

  pub by_good : (cs : List (ℕ × Option ℕ)) → AllGood cs → opened_by cs P L ≡ opened_as P L
  unfolding opened_by
  by_good cs g = rw (all-good cs g)

  pub by_more : (cs ds : List (ℕ × Option ℕ)) → AllGood cs → opened_by (cs ++ ds) P L ≡ opened_by ds P L
  unfolding opened_by
  by_more cs ds g = rw (verdict-more cs ds g)

-- ---- a netlist that was read, a cut sheet and a limit

module _ (n : Netlist) (s : List ℕ) (limit : ℕ) (r : CutRead) (e : r ≡ cut_read n s) where
  abbrev here : Opened
  here = opened_by (read_checks n s ++ limit_checks limit) (plan_from n s limit) (fresh_network n)

  cut_verdict_lem : read_verdict n s ≡ answered r.answer r.place
  unfolding cut_read
  cut_verdict_lem = rw e

  pub cut_bad : (r.answer ≡ 0 → ⊥) → here ≡ refused_as r.answer r.place
  cut_bad h =
      by_bad (plan_from n s limit) (fresh_network n) (read_checks n s ++ limit_checks limit) (answered r.answer r.place)
      (verdict-kept (read_checks n s) (limit_checks limit) (λ z. h (sym (ap (λ v. v.answer) cut_verdict_lem) ∙ z)) ∙ cut_verdict_lem) h

  module _ (z : r.answer ≡ 0) where
    good_cut : AllGood (read_checks n s)
    good_cut = cuts.read-good n s (ap (λ v. v.answer) cut_verdict_lem ∙ z)

    cut_is : r ≡ record { answer = 0; place = 0; cut = cut_of s; queues = found n (cut_of s).part }
    cut_is = e ∙ cuts.read_done n s (ap (λ v. v.answer) cut_verdict_lem ∙ z)

    pub limit-bad : limit_good limit ≡ false → here ≡ refused_as 15 0
    limit-bad h =
        by_more (plan_from n s limit) (fresh_network n) (read_checks n s) (limit_checks limit) good_cut
        ∙ by_bad (plan_from n s limit) (fresh_network n) (limit_checks limit) (answered 15 0) (verdict-bad 15 0 (whole (limit_good limit)) [] (ap whole h)) (λ y. omega arith)

    pub all_done : limit_good limit ≡ true → here ≡ opened_as (plan_of n r.cut r.queues limit) (fresh_network n)
    all_done h =
        by_more (plan_from n s limit) (fresh_network n) (read_checks n s) (limit_checks limit) good_cut
        ∙ by_good (plan_from n s limit) (fresh_network n) (limit_checks limit) (ap whole h, tt)
        ∙ ap (λ (x : CutRead). opened_as (plan_of n x.cut x.queues limit) (fresh_network n)) (sym cut_is)

-- ---- both sheets and a limit

module _ (s t : List ℕ) (limit : ℕ) (r : NetRead) (e : r ≡ net_read s) where
  net-verdict : sheet_verdict s ≡ answered r.answer r.place
  unfolding net_read
  net-verdict = rw e

  pub net-bad : (r.answer ≡ 0 → ⊥) → opened s t limit ≡ refused_as r.answer r.place
  unfolding opened
  net-bad h =
      by_bad (plan_from (net_of s) t limit) (fresh_network (net_of s)) (open_checks s t limit) (answered r.answer r.place)
      (verdict-kept (sheet_checks s) (cut_sheet_checks (net_of s) t ++ limit_checks limit) (λ z. h (sym (ap (λ v. v.answer) net-verdict) ∙ z)) ∙ net-verdict) h

  pub net-done : r.answer ≡ 0 → opened s t limit ≡ opened_by (read_checks r.net t ++ limit_checks limit) (plan_from r.net t limit) (fresh_network r.net)
  unfolding opened
  net-done z =
      let n : Netlist = net_of s in
      let P : Plan = plan_from n t limit in
      let L : Network = fresh_network n in
      let g : AllGood (sheet_checks s) = good-all 1 (sheet_checks s) (lit< tt) (lit≤ tt, (lit≤ tt, rising n)) (ap (λ v. v.answer) net-verdict ∙ z) in
      let is : r ≡ record { answer = r.answer; place = r.place; net = n } = e ∙ read_done s (answered r.answer r.place) net-verdict z in
      by_more P L (sheet_checks s) (cut_sheet_checks n t ++ limit_checks limit) g
      ∙ sym (by_more P L ((3, whole (numbers_good n)) ∷ []) (cut_sheet_checks n t ++ limit_checks limit) (g.1.1.0, tt))
      ∙ ap (λ (x : NetRead). opened_by (read_checks x.net t ++ limit_checks limit) (plan_from x.net t limit) (fresh_network x.net)) (sym is)
