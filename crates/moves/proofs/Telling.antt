-- What is told is the state's: there are at most 512 queues and 32 parts, so the places that are read are all theirs.
use mathlib.Core.Path.{◌≡◌, refl, ap, ap₂, ◌∙◌}
use mathlib.Core.Bool.{Bool, true, false}
use Prim.Native.Nat.{ℕ, ◌<◌, min}
use native.Mathlib.Omega.{arith}
use borrow.Author.Tests.{ltb-true}
use lib.Dec.{ltb}
use lib.ListN.{length, get_or}
use Rattle.base.specs.Checks.{AllGood}
use Rattle.netlist.specs.declared.Netlist.{Netlist}
use Rattle.netlist.specs.Checks.{net_checks}
use Rattle.queues.specs.Found.{found}
use Rattle.cut.specs.declared.Cut.{Cut}
use Rattle.cut.specs.Checks.{cut_checks}
use Rattle.nets.specs.State.{State}
use Rattle.nets.specs.Networks.{network_of}
use Rattle.nets.specs.Stored.{used_of, counts_of}
use Rattle.nets.proofs.Goods.{few, few-queues}
use Rattle.nets.proofs.Stores.{used_at, count_at}
use Rattle.plans.specs.declared.Plan.{Plan}
use Rattle.plans.specs.Plans.{plan_of}
use Rattle.spots.specs.Stores.{store_of}
use Rattle.moves.specs.Moves.{told, tokens_on, finished_on}
use Rattle.moves.specs.Meaning.{TokensMeans, FinishedMeans}

-- the number matters only where there is what was asked for
told_same : (b : Bool) (x y : ℕ) → (b ≡ true → x ≡ y) → told b x ≡ told b y
unfolding told
told_same true x y f = ap (told true) (f refl)
told_same false x y f = refl

module _ (n : Netlist) (c : Cut) (g : AllGood (net_checks n)) (h : AllGood (cut_checks n c)) (limit : ℕ) (s : State) where
  abbrev P : Plan
  P = plan_of n c (found n c.part) limit

  queues-all : min P.queues 512 ≡ (network_of n c limit).queues
  unfolding plan_of found
  queues-all = let f = few-queues n c g h in omega arith

  parts_all : min P.parts 32 ≡ (network_of n c limit).parts
  unfolding plan_of found
  parts_all = let f = few n c g h in omega arith

  pub tokens_are : (q : ℕ) → tokens_on P (store_of s) q ≡ told (ltb q (network_of n c limit).queues) (length (s.queue q))
  tokens_are q =
      rw queues-all
      (told_same (ltb q (network_of n c limit).queues) (get_or (used_of s) q 0) (length (s.queue q))
      (λ b. let l : q < (network_of n c limit).queues = ltb-true q (network_of n c limit).queues b in used_at s q (omega (arith, few-queues n c g h))))

  pub finished_are : (p : ℕ) → finished_on P (store_of s) p ≡ told (ltb p (network_of n c limit).parts) (s.count p)
  finished_are p =
      rw parts_all
      (told_same (ltb p (network_of n c limit).parts) (get_or (counts_of s) p 0) (s.count p)
      (λ b. let l : p < (network_of n c limit).parts = ltb-true p (network_of n c limit).parts b in count_at s p (omega (arith, few n c g h))))

pub tokens_means : TokensMeans
tokens_means P L G q = ap₂ (λ P L. tokens_on P L q) G.plan G.holds ∙ tokens_are G.n G.c G.net_good G.cut_good G.limit G.s q

pub finished_means : FinishedMeans
finished_means P L G p = ap₂ (λ P L. finished_on P L p) G.plan G.holds ∙ finished_are G.n G.c G.net_good G.cut_good G.limit G.s p
