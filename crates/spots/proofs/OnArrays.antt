-- A round on the arrays of a state that is kept leaves the arrays of the state after the network's round, and counts its firings.
use mathlib.Core.Path.{◌≡◌, refl, sym, ◌∙◌, ap, ap₂, subst}
use mathlib.Core.Bool.{Bool, true, false}
use mathlib.Core.List.{List}
use Prim.Native.Nat.{ℕ, zero, suc, ◌+◌, ◌-◌, ◌^◌, ◌<◌, min}
use native.Mathlib.Omega.{arith}
use native.Mathlib.Nat.{zero-add}
use lib.ListN.{get_or, replicate, length-set, length-replicate}
use lib.Seq.{get_or-set_same, get_or-set_other}
use Rattle.base.specs.Checks.{AllGood}
use Rattle.base.specs.Lists.{fill}
use Rattle.base.proofs.Arrays.{zeros_at}
use Rattle.netlist.specs.declared.Netlist.{Netlist}
use Rattle.netlist.specs.Checks.{net_checks}
use Rattle.queues.specs.Found.{found}
use Rattle.cut.specs.declared.Cut.{Cut}
use Rattle.cut.specs.Checks.{cut_checks}
use Rattle.nets.specs.Net.{Net}
use Rattle.nets.specs.State.{State}
use Rattle.nets.specs.Rounds.{round_fires, after_round}
use Rattle.nets.specs.Stored.{cells_of, used_of, flags_of, held_of, counts_of}
use Rattle.nets.specs.Networks.{network_of}
use Rattle.nets.specs.Kept.{Kept}
use Rattle.nets.proofs.Goods.{few-queues, queues_are}
use Rattle.evals.specs.Passes.{tokens_in, tokens_there, fields_of}
use Rattle.finishes.specs.Finishes.{next_held, next_count, used_after, cells_after, flags_after, finished, finishing}
use Rattle.plans.specs.declared.Plan.{Plan}
use Rattle.plans.specs.Plans.{nowhere, plan_of}
use Rattle.puts.specs.Puts.{channels_end, rules_of, Pass, mk_plan, mk_pass, puts_done}
use Rattle.lanes.specs.declared.Network.{Network}
use Rattle.spots.specs.Stores.{net_in, store_of}
use Rattle.spots.specs.Rounds.{no_vals, no_mets, first_pass, puts_on, finished_on, all_puts, round_on, fired_on}
use Rattle.spots.proofs.Loading.{Blank, holds-first}
use Rattle.spots.proofs.Putting.{Holds}
use Rattle.spots.proofs.Phases.{asked}
use Rattle.spots.proofs.Rounding.{RoundDone, round-done}

off_at : (m p : ℕ) → get_or (replicate m false) p false ≡ false
off_at zero p = refl
off_at (suc m) zero = refl
off_at (suc m) (suc p) = off_at m p

blank : Blank no_vals no_mets
blank =
    record {
      long_vals = length-replicate {A = ℕ} 2048 0;
      long_mets = length-set (replicate 2048 false) nowhere true ∙ length-replicate {A = Bool} 2048 false;
      no_token = λ q u. zeros_at 2048 (1024 + q);
      none_there = λ q u. get_or-set_other (replicate 2048 false) nowhere (1024 + q) true false (λ z. omega arith) ∙ off_at 2048 (1024 + q);
      none = get_or-set_same (replicate 2048 false) nowhere true false (rw (length-replicate {A = Bool} 2048 false) (omega arith));
    }

module _ (n : Netlist) (c : Cut) (g : AllGood (net_checks n)) (h : AllGood (cut_checks n c)) (limit : ℕ) (small : limit < 2 ^ 32) (s : State) (K : Kept n (network_of n c limit) s) where
  abbrev net : Net
  net = network_of n c limit

  abbrev P : Plan
  P = plan_of n c (found n c.part) limit

  abbrev S : Pass
  S = mk_pass 0 0 (cells_of s) (used_of s) (flags_of s) (tokens_in (cells_of s) net.queues no_vals) (tokens_there (used_of s) net.queues no_mets)

  whole : min net.queues 512 ≡ net.queues
  whole = omega (arith, few-queues n c g h)

  abbrev done : RoundDone n c g h limit small s K S (holds-first n c g h limit s K no_vals no_mets blank)
  done = round-done n c g h limit small s K S (holds-first n c g h limit s K no_vals no_mets blank)

  channels-end : channels_end P ≡ net.queues - net.outs
  unfolding plan_of found
  channels-end = let e = queues_are n c limit in let f = few-queues n c g h in omega arith

  first_is : first_pass P.queues (cells_of s) (used_of s) (flags_of s) ≡ S
  unfolding plan_of found
  first_is = ap (λ m. mk_pass 0 0 (cells_of s) (used_of s) (flags_of s) (tokens_in (cells_of s) m no_vals) (tokens_there (used_of s) m no_mets)) whole

  -- what rules start from, and what they ask
  pub first_holds : Holds n c g h limit s 0 (first_pass P.queues (cells_of s) (used_of s) (flags_of s))
  first_holds = subst (λ T. Holds n c g h limit s 0 T) (sym first_is) (holds-first n c g h limit s K no_vals no_mets blank)

  pub rules_are : rules_of P (store_of s) ≡ asked n c g h limit s
  unfolding plan_of found
  rules_are = ap (λ e. mk_plan (fields_of P) (held_of s) P.node P.from P.depth (counts_of s) limit e n.nodes) channels-end

  puts_are : all_puts P (store_of s) ≡ puts_done (asked n c g h limit s) net.ins net.queues n.nodes S
  unfolding puts_on plan_of found
  puts_are =
      ap₂ (λ e T. puts_done (mk_plan (fields_of P) (held_of s) P.node P.from P.depth (counts_of s) limit e n.nodes) net.ins net.queues n.nodes T) channels-end first_is

  -- the arrays after a round, by what its put rules leave
  abbrev marks : Pass → List Bool
  marks T = finishing P.from P.into T.flag T.used (counts_of s) limit net.queues 0 net.parts

  abbrev left : Pass → Network
  left T =
      record {
        cells = cells_after P.into (marks T) (min net.queues 512) T.used T.cells;
        used = used_after P.into (marks T) (min net.queues 512) T.used;
        flag = flags_after P.from (marks T) (min net.queues 512) T.flag;
        held = fill (next_held P.code P.ra P.part T.vals (marks T) (held_of s)) (min n.nodes 1024) (held_of s);
        count = fill (next_count (marks T) (counts_of s)) (min net.parts 32) (counts_of s);
      }

  left_is : round_on P (store_of s) ≡ left (all_puts P (store_of s))
  unfolding round_on finished_on plan_of found
  left_is = refl

  pub stores : (a b d e : List ℕ) (f i : List Bool) (j k l m : List ℕ) → a ≡ b → d ≡ e → f ≡ i → j ≡ k → l ≡ m → net_in a d f j l ≡ net_in b e i k m
  stores a b d e f i j k l m v w x y z = ap₂ (λ a d. net_in a d f j l) v w ∙ ap₂ (λ f j. net_in b e f j l) x y ∙ ap (net_in b e i k) z

  pub round_is : round_on P (store_of s) ≡ store_of (after_round net s)
  round_is = left_is ∙ ap left puts_are ∙ stores _ _ _ _ _ _ _ _ _ _ done.cells done.used done.flag done.held done.count

  pub fired_is : fired_on P (store_of s) ≡ round_fires net s
  unfolding fired_on plan_of found
  fired_is = ap (λ T. T.fired + finished (marks T) (min net.parts 32)) puts_are ∙ done.fired ∙ zero-add (round_fires net s)
