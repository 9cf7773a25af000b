-- What the reader and the writer give, from the verdict.
use mathlib.Core.Path.{◌≡◌, sym, ◌∙◌, ap}
use mathlib.Core.List.{List, []}
use Prim.Native.Nat.{ℕ, ◌≤◌, ◌<◌}
use borrow.Author.Tests.{eq-eqb, ne_eqb, le-leb, lt-leb}
use lib.Dec.{lit<, lit≤}
use lib.ListN.{length}
use Rattle.base.specs.declared.Verdict.{Verdict}
use Rattle.base.specs.Checks.{verdict, whole, answered, AllGood, Rising}
use Rattle.base.specs.Lists.{patch}
use Rattle.base.proofs.Patch.{patch-front}
use Rattle.base.proofs.Verdicts.{good-all, verdict-good, verdict-bad, verdict-done, verdict-more, verdict-kept, whole-good}
use Rattle.netlist.specs.declared.Netlist.{Netlist}
use Rattle.netlist.specs.Netlists.{no_net}
use Rattle.netlist.specs.Checks.{net_checks, numbers_good}
use Rattle.netlist.proofs.Numbers.{Within, within}
use Rattle.net_sheet.specs.Image.{net_image}
use Rattle.net_sheet.specs.Reading.{net_of, sheet_verdict, net_read}
use Rattle.net_sheet.specs.Writing.{write_verdict, net_wrote, net_written}

-- the reader's answers
pub read_done : (s : List ℕ) (v : Verdict) → sheet_verdict s ≡ v → v.answer ≡ 0 → net_read s ≡ record { answer = v.answer; place = v.place; net = net_of s }
unfolding net_read
read_done s v e h = rw (e, eq-eqb v.answer 0 h)

pub read-refused : (s : List ℕ) (v : Verdict) → sheet_verdict s ≡ v → (v.answer ≡ 0 → ⊥) → net_read s ≡ record { answer = v.answer; place = v.place; net = no_net }
unfolding net_read
read-refused s v e h = rw (e, ne_eqb v.answer 0 h)

-- the checks of a netlist stand in the order of their numbers, from 3 on; so do the reader's and the writer's
pub rising : (n : Netlist) → Rising 3 (net_checks n)
rising n = (lit≤ tt, (lit≤ tt, (lit≤ tt, (lit≤ tt, tt))))

-- a netlist that is answered 0 passed them all
pub net_good : (n : Netlist) → (verdict (net_checks n)).answer ≡ 0 → AllGood (net_checks n)
net_good n e = good-all 3 (net_checks n) (lit< tt) (rising n) e

-- where they are all good the counts are within their numbers
pub net-within : (n : Netlist) → AllGood (net_checks n) → Within n
net-within n g = within n (whole-good (numbers_good n) g.0)

-- the writer's answers: refused by the netlist, refused for want of room, done
pub write_kept : (n : Netlist) (room : ℕ) (v : Verdict) → verdict (net_checks n) ≡ v → (v.answer ≡ 0 → ⊥) → write_verdict n room ≡ v
write_kept n room v e h = verdict-kept (net_checks n) _ (λ z. h (sym (ap (λ w. w.answer) e) ∙ z)) ∙ e

pub write_short : (n : Netlist) (room : ℕ) → AllGood (net_checks n) → room < length (net_image n) → write_verdict n room ≡ answered 16 0
write_short n room g h = verdict-more (net_checks n) _ g ∙ verdict-bad 16 0 _ [] (ap whole (lt-leb (length (net_image n)) room h))

pub write_done : (n : Netlist) (room : ℕ) → AllGood (net_checks n) → length (net_image n) ≤ room → write_verdict n room ≡ answered 0 0
write_done n room g h = verdict-more (net_checks n) _ g ∙ verdict-good 16 _ [] (ap whole (le-leb (length (net_image n)) room h)) ∙ verdict-done

pub wrote-refused : (n : Netlist) (old : List ℕ) (v : Verdict) → write_verdict n (length old) ≡ v → (v.answer ≡ 0 → ⊥) → (net_wrote n (length old) ≡ record { answer = v.answer; place = v.place; length = 0 }) × (net_written n old ≡ old)
unfolding net_wrote net_written
wrote-refused n old v e h = (rw (e, ne_eqb v.answer 0 h), rw (e, ne_eqb v.answer 0 h))

pub wrote-done : (n : Netlist) (old : List ℕ) → write_verdict n (length old) ≡ answered 0 0 → (net_wrote n (length old) ≡ record { answer = 0; place = 0; length = length (net_image n) }) × (net_written n old ≡ patch old 0 (net_image n))
unfolding net_wrote net_written
wrote-done n old e = (rw e, rw e (sym (patch-front old (net_image n))))
