-- Every state that actions reach is kept: it fits its network, and its values their widths. Runs and orders are plays, so they reach such states too.
use mathlib.Core.Path.{refl, sym, ap, ◌∙◌, subst}
use mathlib.Core.Bool.{false≢true}
use mathlib.Core.List.{List, [], ◌∷◌, ◌++◌}
use Prim.Native.Nat.{ℕ, ◌<◌, ◌^◌}
use Rattle.base.specs.Checks.{AllGood}
use Rattle.netlist.specs.declared.Netlist.{Netlist}
use Rattle.netlist.specs.Checks.{net_checks}
use Rattle.cycles.specs.Netlists.{width_of}
use Rattle.queues.specs.Lists.{listed}
use Rattle.cut.specs.declared.Cut.{Cut}
use Rattle.cut.specs.Checks.{cut_checks}
use Rattle.nets.specs.Net.{Net}
use Rattle.nets.specs.State.{State, fresh}
use Rattle.nets.specs.Actions.{Action, step, play}
use Rattle.nets.specs.Rounds.{run}
use Rattle.nets.specs.Orders.{asked}
use Rattle.nets.specs.Networks.{network_of}
use Rattle.nets.specs.Kept.{Reached, Reaching, Kept, FreshIsKept, StepsAreKept, PlaysAreKept, ReachedIsKept}
use Rattle.nets.proofs.Bounded.{Bounded, fresh_ok, step_ok}
use Rattle.nets.proofs.Fits.{Fits, fits_fresh, fits-step}
use Rattle.nets.proofs.Goods.{good}
use Rattle.nets.proofs.Rounds.{play_append, play-one, rounds, run_plays}
use Rattle.nets.proofs.Orders.{order_plays}
use Rattle.nets.proofs.Widths.{is_register, register_is, keeps_widths}

module _ (n : Netlist) (c : Cut) (g : AllGood (net_checks n)) (h : AllGood (cut_checks n c)) (limit : ℕ) where
  abbrev net : Net
  net = network_of n c limit

  abbrev InWidth : ℕ → ℕ → Type 0
  InWidth i x = x < 2 ^ width_of n i

  both : (s : State) → Fits net s → Bounded net InWidth s → Kept n net s
  both s F B =
      record {
        fits = F.fits;
        empty = F.empty;
        off = F.off;
        tokens = B.tokens;
        regs = B.regs;
        other = λ i e. F.other i (λ l k a o. false≢true (sym (e l) ∙ is_register n i k a o));
        counts = F.counts;
        idle = F.idle;
      }

  apart_fits : (s : State) → Kept n net s → Fits net s
  apart_fits s K = record { fits = K.fits; empty = K.empty; off = K.off; other = λ i e. K.other i (λ l. register_is n i (e l)); counts = K.counts; idle = K.idle }

  keep_one : (s : State) (a : Action) → Kept n net s → Kept n net (step net s a)
  keep_one s a K =
      both (step net s a) (fits-step net (good n c g h limit) s (apart_fits s K) a)
      (step_ok net (good n c g h limit) InWidth (keeps_widths n g c limit) s (record { tokens = K.tokens; regs = K.regs }) a)

  keep_all : (s : State) (xs : List Action) → Kept n net s → Kept n net (play net s xs)
  unfolding play
  keep_all s [] K = K
  keep_all s (a ∷ xs) K = keep_all (step net s a) xs (keep_one s a K)

pub fresh_is_kept : FreshIsKept
fresh_is_kept n c g h limit =
    both n c g h limit (fresh (network_of n c limit)) (fits_fresh (network_of n c limit))
    (fresh_ok (network_of n c limit) (λ i x. x < 2 ^ width_of n i) (keeps_widths n g c limit))

pub steps_are_kept : StepsAreKept
steps_are_kept n c g h limit = keep_one n c g h limit

pub plays_are_kept : PlaysAreKept
plays_are_kept n c g h limit = keep_all n c g h limit

pub reached_is_kept : ReachedIsKept
reached_is_kept n c g h limit s R =
    let N : Net = network_of n c limit in
    subst (λ x. Kept n N x) (sym R.is) (plays_are_kept n c g h limit (fresh N) R.actions (fresh_is_kept n c g h limit))

-- ---- reached states

module _ (N : Net) where
  reached-play : (s : State) → Reached N s → (xs : List Action) → Reached N (play N s xs)
  reached-play s R xs = record { actions = R.actions ++ xs; is = ap (λ x. play N x xs) R.is ∙ sym (play_append N (fresh N) R.actions xs) }

  pub reaching : Reaching N
  unfolding play
  reaching =
      record {
        at_first = record { actions = []; is = refl };
        more = reached-play;
        one = λ s R a. subst (Reached N) (play-one N s a) (reached-play s R (a ∷ []));
        runs = λ s R k. subst (Reached N) (sym (run_plays N s k).0) (reached-play s R (rounds N (run N s k).rounds));
        orders = λ s R e k. subst (Reached N) (sym (order_plays N s e k)) (reached-play s R (listed k (λ j. asked N (e j))));
      }
