-- A round in one pass, turn by turn: a node is worked out, its put rules are tried, and what was worked out stays right. Each turn is one law, for a loop's invariant.
use mathlib.Core.Path.{◌≡◌, sym, ap, ◌∙◌, subst}
use mathlib.Core.Logic.{◌≢◌, inl, by_cases}
use mathlib.Core.Bool.{Bool, cond, not, ◌&&◌}
use Prim.Native.Nat.{ℕ, suc, ◌≤◌, ◌<◌}
use native.Mathlib.Omega.{arith}
use native.Mathlib.Nat.{not-suc-le-zero}
use native.Mathlib.Decide.{ℕ_discrete}
use borrow.Author.Tests.{eq-eqb, ne_eqb}
use lib.Dec.{ltb}
use Rattle.base.specs.Checks.{AllGood}
use Rattle.netlist.specs.declared.Netlist.{Netlist}
use Rattle.netlist.specs.Checks.{net_checks}
use Rattle.cut.specs.declared.Cut.{Cut}
use Rattle.cut.specs.Checks.{cut_checks}
use Rattle.nets.specs.Lists.{at}
use Rattle.nets.specs.Net.{Net, Good}
use Rattle.nets.specs.State.{State, present, needs_met}
use Rattle.nets.specs.Actions.{put, finish, room, ready, step}
use Rattle.nets.specs.Networks.{network_of}
use Rattle.nets.specs.Passed.{value_by, met_by}
use Rattle.nets.proofs.Goods.{good}
use Rattle.nets.proofs.OnePass.{Alike, put-tried, apart-present, finish-tried}
use Rattle.nets.proofs.Passed.{next-value, next-met}
use Rattle.nets.proofs.Ready.{put_ready_is}

-- w and t hold the values and the met needs of the first i nodes, each in its own part
pub record Right (N : Net) (i : ℕ) (s : State) (w : ℕ → ℕ) (t : ℕ → Bool) : Type 0 where
  pub value : (a : ℕ) → a < i → w a ≡ present N s (N.part a) a
  pub needs : (a : ℕ) → a < i → t a ≡ needs_met N s (N.part a) a

pub right-none : (N : Net) (s : State) (w : ℕ → ℕ) (t : ℕ → Bool) → Right N 0 s w t
right-none N s w t = record { value = λ a l. absurd (not-suc-le-zero l); needs = λ a l. absurd (not-suc-le-zero l) }

-- a function changed at i, right at i and below
changed-right : {A : Type 0} (f right : ℕ → A) (i : ℕ) (x : A) → x ≡ right i → ((a : ℕ) → a < i → f a ≡ right a) → (a : ℕ) → a < suc i → at i x f a ≡ right a
changed-right f right i x e h a l =
    by_cases (ℕ_discrete a i)
    (λ d. ap (λ b. cond b x (f a)) (eq-eqb a i d) ∙ e ∙ ap right (sym d))
    (λ ne. ap (λ b. cond b x (f a)) (ne_eqb a i ne) ∙ h a (omega arith))

module _ (n : Netlist) (c : Cut) (g : AllGood (net_checks n)) (h : AllGood (cut_checks n c)) (limit : ℕ) (s : State) (i : ℕ) (w : ℕ → ℕ) (t : ℕ → Bool) (R : Right (network_of n c limit) i s w t) where
  abbrev net : Net
  net = network_of n c limit

  -- one node more is worked out: its operands stand before it
  pub right-node : i < n.nodes → Right net (suc i) s (at i (value_by n c.part s w i) w) (at i (met_by n c.part s t i) t)
  right-node l =
      record {
        value = changed-right w (λ a. present net s (net.part a) a) i (value_by n c.part s w i) (next-value n c g h limit s w i l (λ a _ u. R.value a u)) R.value;
        needs = changed-right t (λ a. needs_met net s (net.part a) a) i (met_by n c.part s t i) (next-met n c g h limit s t i l (λ a _ u. R.needs a u)) R.needs;
      }

  -- a put rule is tried: of a channel whose node is the last that was worked out or comes after it, or of an output
  pub right-put : i ≤ n.nodes → (q : ℕ) → net.from q < net.parts → (net.into q < net.parts → i ≤ suc (net.node q)) → Right net i (step net s (put q)) w t
  right-put b q l u =
      let G : Good net = good n c g h limit in
      let A : (a : ℕ) → a < i → Alike net s (step net s (put q)) a = λ a k.
      put-tried net G s q a (omega arith) l (λ e. let o : i ≤ suc (net.node q) = u (subst (λ x. x < net.parts) (sym e) (G.part_ok a (omega arith))) in omega arith) in
      record { value = λ a k. R.value a k ∙ (A a k).value; needs = λ a k. R.needs a k ∙ (A a k).needs }

  -- what the rule puts, and when it is ready
  pub put-value : (q : ℕ) → net.from q < net.parts → net.node q < i → present net s (net.from q) (net.node q) ≡ w (net.node q)
  put-value q l u = ap (λ p. present net s p (net.node q)) (sym ((good n c g h limit).put_part q l)) ∙ sym (R.value (net.node q) u)

  pub put_test_lem : (q : ℕ) → net.from q < net.parts → net.node q < i
      → ready net s (put q) ≡ (ltb (s.count (net.from q)) net.limit && (not (s.flag q) && (room net s q && t (net.node q))))
  put_test_lem q l u =
      put_ready_is net s q l
      ∙ ap (λ b. ltb (s.count (net.from q)) net.limit && (not (s.flag q) && (room net s q && b)))
      (ap (λ p. needs_met net s p (net.node q)) (sym ((good n c g h limit).put_part q l)) ∙ sym (R.needs (net.node q) u))

-- ---- Finish

-- w holds the values of part p's nodes
abbrev pub RightIn : Net → ℕ → State → (ℕ → ℕ) → Type 0
RightIn N p s w = (a : ℕ) → a < N.draw.nodes → N.part a ≡ p → w a ≡ present N s p a

pub right_in : (N : Net) (s : State) (w : ℕ → ℕ) (t : ℕ → Bool) → Right N N.draw.nodes s w t → (p : ℕ) → RightIn N p s w
right_in N s w t R p a l e = R.value a l ∙ ap (λ x. present N s x a) e

-- another part's Finish is tried
pub right-finish : (N : Net) → Good N → (s : State) (w : ℕ → ℕ) (k p : ℕ) → k ≢ p → RightIn N p s w → RightIn N p (step N s (finish k)) w
right-finish N G s w k p ne R a l e = R a l e ∙ apart-present N G s (step N s (finish k)) p (finish-tried N s k p ne) a (record { is_node = l; where_is = inl e })
