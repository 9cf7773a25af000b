-- What the checks 8 to 11 find: a count's test by itself, then the shared law on first-bad searches.
use mathlib.Core.Path.{◌≡◌, refl, sym, ◌∙◌, ap}
use mathlib.Core.Bool.{Bool, true, false, ◌&&◌, ◌||◌, or-true}
use mathlib.Core.List.{List}
use mathlib.Core.Logic.{◌⊎◌, inl, inr, ⊎_elim, ◌↔◌}
use Prim.Native.Nat.{ℕ, zero, suc, ◌<◌}
use native.Mathlib.Nat.{not-suc-le-zero, le_of_suc-le-suc, eq-or-lt_of_le}
use native.Mathlib.Omega.{arith}
use borrow.Author.Tests.{eqb-true, eq-eqb, leb-true, le-leb}
use lib.Dec.{eqb, leb}
use lib.ListN.{length}
use Rattle.base.specs.Checks.{whole, lowest, Lowest}
use Rattle.std.specs.Prelude.{Option}
use Rattle.std.specs.Prelude.{Some}
use Rattle.base.proofs.First.{lowest-bad}
use Rattle.base.proofs.Tests.{and_left, and_right, and_true}
use Rattle.layout.proofs.Meaning.{label-bad}
use Rattle.netlist.specs.declared.Netlist.{Netlist}
use Rattle.queues.specs.Lists.{some}
use Rattle.queues.specs.Queues.{Queue, part_of, parts_of, queue_at}
use Rattle.cut.specs.declared.Cut.{Cut}
use Rattle.cut.specs.Cuts.{depth_of, cut_labels}
use Rattle.cut.specs.Checks.{and_then, cut_queues, depth_good, joined}
use Rattle.cut_trips.specs.Finds.{QueuesCounted, LowestAlone, CutMeans}

wrong : {A : Type 0} → true ≡ false → A
wrong e = let z : ◌≡◌ {A = ℕ} 0 1 = cc in let y : ⊥ = omega arith in absurd y

-- a count that decides P, and entries behind it
counted : {P L : Type 0} (b : Bool) (d : Option ℕ) (p : ℕ) → (b ≡ true → P) → (P → b ≡ true) → (d ≡ Some p) ↔ L → (and_then (whole b) d ≡ Some p) ↔ (((P → ⊥) × (p ≡ 0)) ⊎ (P × L))
counted true d p to back s = (λ e. inr (to refl, s.0 e), λ h. ⊎_elim (λ a. absurd (a.0 (to refl))) (λ a. s.1 a.1) h)
counted false d p to back s = (λ e. inl (λ x. wrong (sym (back x)), cc), λ h. ⊎_elim (λ a. ap Some (sym a.1)) (λ a. wrong (sym (back a.0))) h)

-- some entry passes the test, or none does
some_on : (n : ℕ) (t : ℕ → Bool) (b : Bool) → t n ≡ b → (b || some n t) ≡ true → (some n t ≡ true → (k : ℕ) × (k < n) × (t k ≡ true)) → (k : ℕ) × (k < suc n) × (t k ≡ true)
some_on n t true q h more = (n, omega arith, q)
some_on n t false q h more = let r = more h in (r.0, omega (arith, r.1), r.2)

some-true : (n : ℕ) (t : ℕ → Bool) → some n t ≡ true → (k : ℕ) × (k < n) × (t k ≡ true)
unfolding some
some-true zero t e = wrong (sym e)
some-true (suc n) t e = some_on n t (t n) refl e (λ h. some-true n t h)

none_on : (n : ℕ) (t : ℕ → Bool) (b : Bool) → t n ≡ b → (b || some n t) ≡ false → (b ≡ false) × (some n t ≡ false)
none_on n t true q h = wrong h
none_on n t false q h = (refl, h)

some-false : (n : ℕ) (t : ℕ → Bool) → some n t ≡ false → (k : ℕ) → k < n → t k ≡ false
unfolding some
some-false zero t e k h = absurd (not-suc-le-zero h)
some-false (suc n) t e k h =
    let o = none_on n t (t n) refl e in
    ⊎_elim (λ (q : k ≡ n). rw q o.0) (λ (l : k < n). some-false n t o.1 k l) (eq-or-lt_of_le (le_of_suc-le-suc h))

some-none : (n : ℕ) (t : ℕ → Bool) → ((k : ℕ) → k < n → t k ≡ false) → some n t ≡ false
unfolding some
some-none zero t h = refl
some-none (suc n) t h = rw (h n (omega arith)) (some-none n t (λ k l. h k (omega arith)))

some-there : (n : ℕ) (t : ℕ → Bool) (k : ℕ) → k < n → t k ≡ true → (b : Bool) → some n t ≡ b → b ≡ true
some-there n t k h e true q = refl
some-there n t k h e false q = wrong (sym e ∙ some-false n t q k h)

-- a test of two ends
ends-true : (x y p : ℕ) (b : Bool) → eqb x p ≡ b → (b || eqb y p) ≡ true → (x ≡ p) ⊎ (y ≡ p)
ends-true x y p true q h = inl (eqb-true x p q)
ends-true x y p false q h = inr (eqb-true y p h)

ends_there : (x y p : ℕ) → (x ≡ p) ⊎ (y ≡ p) → (eqb x p || eqb y p) ≡ true
ends_there x y p h = ⊎_elim (λ e. rw (eq-eqb x p e)) (λ e. rw (eq-eqb y p e) (or-true (eqb x p))) h

false_when : (b : Bool) → (b ≡ true → ⊥) → b ≡ false
false_when true f = absurd (f refl)
false_when false f = refl

module _ (n : Netlist) (c : Cut) where
  abbrev qs : List Queue
  qs = cut_queues n c

  abbrev end : ℕ → ℕ → Bool
  end p q = eqb (queue_at qs q).from p || eqb (queue_at qs q).into p

  to_alone : (p : ℕ) → Lowest (joined qs) (parts_of n c.part) p → LowestAlone n c p
  to_alone p l =
      record {
        within = l.within;
        alone = λ q h j. wrong (sym (ends_there (queue_at qs q).from (queue_at qs q).into p j) ∙ some-false (length qs) (end p) l.bad q h);
        before = λ r h. let s = some-true (length qs) (end r) (l.before r h) in (s.0, s.1, ends-true (queue_at qs s.0).from (queue_at qs s.0).into r (eqb (queue_at qs s.0).from r) refl s.2);
      }

  from-alone : (p : ℕ) → LowestAlone n c p → Lowest (joined qs) (parts_of n c.part) p
  from-alone p l =
      record {
        within = l.within;
        bad = some-none (length qs) (end p) (λ q h. false_when (end p q) (λ e. l.alone q h (ends-true (queue_at qs q).from (queue_at qs q).into p (eqb (queue_at qs q).from p) refl e)));
        before = λ r h. let s = l.before r h in some-there (length qs) (end r) s.0 s.1 (ends_there (queue_at qs s.0).from (queue_at qs s.0).into r s.2) (joined qs r) refl;
      }

  queues-counted : (leb (length qs) 512 && eqb c.queues (length qs)) ≡ true → QueuesCounted n c
  queues-counted e = (leb-true (length qs) 512 (and_left (leb (length qs) 512) (eqb c.queues (length qs)) e), eqb-true c.queues (length qs) (and_right (leb (length qs) 512) (eqb c.queues (length qs)) e))

pub cut_means : CutMeans
cut_means n c p =
    let low = lowest-bad (joined (qs n c)) (parts_of n c.part) p in
    record {
      parts = counted (eqb c.nodes n.nodes) (lowest (λ i. leb (part_of c.part i) 31) n.nodes) p (eqb-true c.nodes n.nodes) (eq-eqb c.nodes n.nodes) (lowest-bad (λ i. leb (part_of c.part i) 31) n.nodes p);
      depths =
          counted (leb (length (qs n c)) 512 && eqb c.queues (length (qs n c))) (lowest (λ q. depth_good (depth_of c q)) (length (qs n c))) p (queues-counted n c)
          (λ h. and_true (leb (length (qs n c)) 512) (eqb c.queues (length (qs n c))) (le-leb (length (qs n c)) 512 h.0) (eq-eqb c.queues (length (qs n c)) h.1))
          (lowest-bad (λ q. depth_good (depth_of c q)) (length (qs n c)) p);
      joined = (λ e. to_alone n c p (low.0 e), λ a. low.1 (from-alone n c p a));
      labels = label-bad n.nodes (cut_labels c) p;
    }
