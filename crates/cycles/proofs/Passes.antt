-- One turn of each loop of a cycle; and a pass over values that hold the inputs and the registers already is the pass that reads them.
use mathlib.Core.Path.{◌≡◌, refl, ◌∙◌, ap}
use mathlib.Core.Bool.{Bool, true, false, cond}
use mathlib.Core.List.{List}
use Prim.Native.Nat.{ℕ, zero, suc, ◌+◌, ◌<◌, ◌≤◌}
use native.Mathlib.Numerals.{add-one}
use native.Mathlib.Omega.{arith}
use lib.ListN.{length, get_or, set, length-set}
use lib.Seq.{get_or-set_other}
use Rattle.codes.specs.Rows.{is_in, is_reg}
use Rattle.cycles.specs.Inputs.{ins_in}
use Rattle.cycles.specs.Pass.{Fields, node_in, node_now, evals, node_kept, computed, fill_from}

pub computed-none : (F : Fields) (vals : List ℕ) → vals ≡ computed F 0 vals
unfolding computed
computed-none F vals = refl

pub computed-step : (F : Fields) (i x : ℕ) (vals l : List ℕ) → l ≡ computed F i vals → x ≡ node_kept F l i → set l i x ≡ computed F (i + 1) vals
unfolding computed
computed-step F i x vals l e q = rw (add-one i, q, e)

pub evals-length : (F : Fields) (regs ins : List ℕ) (m n : ℕ) (vals : List ℕ) → length (evals F regs ins m n vals) ≡ length vals
unfolding evals
evals-length F regs ins m zero vals = refl
evals-length F regs ins m (suc n) vals = simp length-set (evals-length F regs ins m n vals)

evals-past : (F : Fields) (regs ins : List ℕ) (m n i : ℕ) (vals : List ℕ) → n ≤ i → get_or (evals F regs ins m n vals) i 0 ≡ get_or vals i 0
unfolding evals
evals-past F regs ins m zero i vals h = refl
evals-past F regs ins m (suc n) i vals h =
    get_or-set_other (evals F regs ins m n vals) n i (node_now F regs ins (m + ins_in F.code n) (evals F regs ins m n vals) n) 0 (omega arith)
    ∙ evals-past F regs ins m n i vals (omega arith)

-- a node that keeps its value has it from the inputs or the registers
kept_on : (x y r o : ℕ) (s t : Bool) → (s ≡ true → x ≡ y) → (t ≡ true → x ≡ r) → cond s x (cond t x o) ≡ cond s y (cond t r o)
kept_on x y r o true t h g = h refl
kept_on x y r o false true h g = g refl
kept_on x y r o false false h g = refl

-- the pass over values that hold the inputs and the registers already
pub computed_is : (F : Fields) (regs ins : List ℕ) (m n : ℕ) (vals : List ℕ)
    → ((i : ℕ) → i < n → is_in (get_or F.code i 0) ≡ true → get_or vals i 0 ≡ get_or ins (m + ins_in F.code i) 0)
    → ((i : ℕ) → i < n → is_reg (get_or F.code i 0) ≡ true → get_or vals i 0 ≡ get_or regs i 0)
    → computed F n vals ≡ evals F regs ins m n vals
unfolding computed evals node_kept node_now
computed_is F regs ins m zero vals h g = refl
computed_is F regs ins m (suc n) vals h g =
    let E : List ℕ = evals F regs ins m n vals in
    let p = evals-past F regs ins m n n vals (omega arith) in
    rw (computed_is F regs ins m n vals (λ i l. h i (omega arith)) (λ i l. g i (omega arith)))
    (ap (λ x. set E n x)
    (kept_on (get_or E n 0) (get_or ins (m + ins_in F.code n) 0) (get_or regs n 0) (node_in F E n) (is_in (get_or F.code n 0)) (is_reg (get_or F.code n 0))
    (λ e. p ∙ h n (omega arith) e)
    (λ e. p ∙ g n (omega arith) e)))

pub from-none : (m : ℕ) (f : ℕ → ℕ) (xs : List ℕ) → xs ≡ fill_from m f 0 xs
unfolding fill_from
from-none m f xs = refl

pub from_step : (m : ℕ) (f : ℕ → ℕ) (i v : ℕ) (xs l : List ℕ) → l ≡ fill_from m f i xs → v ≡ f i → set l (m + i) v ≡ fill_from m f (i + 1) xs
unfolding fill_from
from_step m f i v xs l e h = rw (add-one i, e, h)
