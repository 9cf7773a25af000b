-- What the reader and the writer give, from the verdict.
use mathlib.Core.Path.{◌≡◌, refl, sym, ◌∙◌, ap}
use mathlib.Core.Bool.{Bool, true, false, cond}
use mathlib.Core.List.{List, []}
use Prim.Native.Nat.{ℕ, ◌≤◌, ◌<◌}
use borrow.Author.Tests.{eqb-true, eqb-false, ne_eqb, le-leb, lt-leb}
use native.Mathlib.Omega.{arith}
use lib.Dec.{eqb, lit<, lit≤}
use Rattle.std.specs.Prelude.{Ok, Err}
use lib.ListN.{length}
use Rattle.base.specs.declared.Verdict.{Verdict}
use Rattle.base.specs.Checks.{verdict, whole, answered, AllGood, Rising}
use Rattle.base.specs.Lists.{patch}
use Rattle.base.proofs.Patch.{patch-front}
use Rattle.base.proofs.Verdicts.{all-good, good-all, verdict-good, verdict-bad, verdict-done, verdict-more, verdict-kept}
use Rattle.netlist.specs.declared.Netlist.{Netlist}
use Rattle.queues.specs.Found.{found, no_queues}
use Rattle.queues.specs.declared.Queues.{Queues}
use Rattle.cut.specs.declared.Cut.{Cut}
use Rattle.cut.specs.Cuts.{no_cut}
use Rattle.cut.specs.Checks.{cut_checks, checked_by, checked, settled}
use Rattle.cut.proofs.Within.{rising, rising-parts}
use Rattle.cut_sheet.specs.Image.{cut_image}
use Rattle.cut_sheet.specs.Reading.{cut_of, read_checks, read_verdict, cut_read}
use Rattle.cut_sheet.specs.Writing.{write_verdict, cut_wrote, cut_written}

-- what a sheet that is answered 0 passed
pub read-rising : (n : Netlist) (s : List ℕ) → Rising 3 (read_checks n s)
read-rising n s = (lit≤ tt, (lit≤ tt, rising-parts n (cut_of s)))

pub read-good : (n : Netlist) (s : List ℕ) → (read_verdict n s).answer ≡ 0 → AllGood (read_checks n s)
read-good n s e = good-all 3 (read_checks n s) (lit< tt) (read-rising n s) e

-- the reader's answers
pub read_done : (n : Netlist) (s : List ℕ) → (read_verdict n s).answer ≡ 0 → cut_read n s ≡ record { answer = 0; place = 0; cut = cut_of s; queues = found n (cut_of s).part }
unfolding cut_read
read_done n s e = rw (all-good (read_checks n s) (read-good n s e))

pub read-refused : (n : Netlist) (s : List ℕ) (v : Verdict) → read_verdict n s ≡ v → (v.answer ≡ 0 → ⊥) → cut_read n s ≡ record { answer = v.answer; place = v.place; cut = no_cut; queues = no_queues }
unfolding cut_read
read-refused n s v e h = rw (e, ne_eqb v.answer 0 h)

-- a cut that is answered 0 passed them all
pub cut_good : (n : Netlist) (c : Cut) → (verdict (cut_checks n c)).answer ≡ 0 → AllGood (cut_checks n c)
cut_good n c e = good-all 3 (cut_checks n c) (lit< tt) (rising n c) e

-- what the checks give, refused or not
bad_on : (v w : Verdict) (q : Queues) (b : Bool) → eqb v.answer 0 ≡ b → Err w ≡ cond b (Ok q) (Err v) → (v ≡ w) × (w.answer ≡ 0 → ⊥)
bad_on v w q true e h = let z : ◌≡◌ {A = ℕ} 0 1 = cc in let y : ⊥ = omega arith in absurd y
bad_on v w q false e h =
    let same : w ≡ v = cc in
    (sym same, λ z. eqb-false v.answer 0 e (ap (λ x. x.answer) (sym same) ∙ z))

pub checked-bad : (n : Netlist) (c : Cut) (v : Verdict) → Err v ≡ settled (checked n c) → (verdict (cut_checks n c) ≡ v) × (v.answer ≡ 0 → ⊥)
unfolding checked_by
checked-bad n c v h = bad_on (verdict (cut_checks n c)) v _ (eqb (verdict (cut_checks n c)).answer 0) refl h

good_on : (v : Verdict) (q f r : Queues) (b : Bool) → eqb v.answer 0 ≡ b → Ok q ≡ cond b (Ok (cond b f r)) (Err v) → (q ≡ f) × (v.answer ≡ 0)
good_on v q f r true e h = (cc, eqb-true v.answer 0 e)
good_on v q f r false e h = let z : ◌≡◌ {A = ℕ} 0 1 = cc in let y : ⊥ = omega arith in absurd y

pub checked-good : (n : Netlist) (c : Cut) (q : Queues) → Ok q ≡ settled (checked n c) → (q ≡ found n c.part) × AllGood (cut_checks n c)
unfolding checked_by
checked-good n c q h =
    let g = good_on (verdict (cut_checks n c)) q (found n c.part) no_queues (eqb (verdict (cut_checks n c)).answer 0) refl h in
    (g.0, cut_good n c g.1)

-- the writer's answers: refused by the cut, refused for want of room, done
pub write_kept : (n : Netlist) (c : Cut) (room : ℕ) (v : Verdict) → verdict (cut_checks n c) ≡ v → (v.answer ≡ 0 → ⊥) → write_verdict n c room ≡ v
write_kept n c room v e h = verdict-kept (cut_checks n c) _ (λ z. h (sym (ap (λ w. w.answer) e) ∙ z)) ∙ e

pub write_short : (n : Netlist) (c : Cut) (room : ℕ) → AllGood (cut_checks n c) → room < length (cut_image c) → write_verdict n c room ≡ answered 16 0
write_short n c room g h = verdict-more (cut_checks n c) _ g ∙ verdict-bad 16 0 _ [] (ap whole (lt-leb (length (cut_image c)) room h))

pub write_done : (n : Netlist) (c : Cut) (room : ℕ) → AllGood (cut_checks n c) → length (cut_image c) ≤ room → write_verdict n c room ≡ answered 0 0
write_done n c room g h = verdict-more (cut_checks n c) _ g ∙ verdict-good 16 _ [] (ap whole (le-leb (length (cut_image c)) room h)) ∙ verdict-done

pub wrote-refused : (n : Netlist) (c : Cut) (old : List ℕ) (v : Verdict) → write_verdict n c (length old) ≡ v → (v.answer ≡ 0 → ⊥) → (cut_wrote n c (length old) ≡ record { answer = v.answer; place = v.place; length = 0 }) × (cut_written n c old ≡ old)
unfolding cut_wrote cut_written
wrote-refused n c old v e h = (rw (e, ne_eqb v.answer 0 h), rw (e, ne_eqb v.answer 0 h))

pub wrote-done : (n : Netlist) (c : Cut) (old : List ℕ) → write_verdict n c (length old) ≡ answered 0 0 → (cut_wrote n c (length old) ≡ record { answer = 0; place = 0; length = length (cut_image c) }) × (cut_written n c old ≡ patch old 0 (cut_image c))
unfolding cut_wrote cut_written
wrote-done n c old e = (rw e, rw e (sym (patch-front old (cut_image c))))
