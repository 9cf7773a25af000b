-- The exact refusals, from the shared laws on lists of checks.
use mathlib.Core.Path.{◌≡◌, refl, ap}
use mathlib.Core.Bool.{Bool, true, false, ◌&&◌}
use mathlib.Core.Logic.{◌⊎◌, inl, inr, ⊎_elim, ◌↔◌}
use mathlib.Core.List.{List}
use Prim.Native.Nat.{ℕ}
use native.Mathlib.Omega.{arith}
use borrow.Author.Tests.{leb-false, lt-leb}
use lib.Dec.{leb, lit<, lit≤}
use lib.ListN.{length}
use Rattle.base.specs.Checks.{answered, whole, Rising}
use Rattle.std.specs.Prelude.{Some}
use Rattle.base.proofs.Exact.{exact}
use Rattle.base.proofs.Verdicts.{whole-good, whole-bad}
use Rattle.layout.specs.Trailer.{trailer_good, label_bytes}
use Rattle.netlist.specs.declared.Netlist.{Netlist}
use Rattle.netlist.specs.Checks.{numbers_good}
use Rattle.cut.specs.declared.Cut.{Cut}
use Rattle.cut.specs.Checks.{labels_few}
use Rattle.cut.proofs.Within.{rising-parts}
use Rattle.cut_sheet.specs.Image.{cut_letter, cut_image}
use Rattle.cut_sheet.specs.Reading.{cut_of, frame_good, read_checks, read_verdict, cut_read}
use Rattle.cut_sheet.specs.Writing.{write_checks, write_verdict, cut_wrote}
use Rattle.cut_trips.specs.Refusals.{ReadExact, ReadAnswers, WriteExact, WriteAnswers, NeverThree, FrameMeans, WriteMeans}

read-rising : (n : Netlist) (s : List ℕ) → Rising 1 (read_checks n s)
read-rising n s = (lit≤ tt, (lit≤ tt, rising-parts n (cut_of s)))

pub read-exact : ReadExact
read-exact n s j p h = exact (read_checks n s) (read-rising n s) j p h

pub read_answers : ReadAnswers
unfolding cut_read
read_answers n s = refl

pub write_rising : (n : Netlist) (c : Cut) (room : ℕ) → Rising 1 (write_checks n c room)
write_rising n c room = (lit≤ tt, (lit≤ tt, (lit≤ tt, (lit≤ tt, (lit≤ tt, (lit≤ tt, (lit≤ tt, tt)))))))

pub write_exact : WriteExact
write_exact n c room j p h = exact (write_checks n c room) (write_rising n c room) j p h

pub write_answers : WriteAnswers
unfolding cut_wrote
write_answers n c room = refl

-- a first check of a whole that is good does not answer
not_first : (b : Bool) (p : ℕ) → b ≡ true → whole b ≡ Some p → ⊥
not_first b p t e =
    let f = ((whole-bad b p).0 e).0 in
    let z : ◌≡◌ {A = ℕ} 0 1 = cc in
    omega arith

pub never_three : NeverThree
unfolding cut_read cut_wrote
never_three n g =
    let good = whole-good (numbers_good n) g.0 in (
      λ s e. not_first (numbers_good n) (read_verdict n s).place good ((read-exact n s 0 (read_verdict n s).place (lit< tt)).0 (ap (λ k. answered k (read_verdict n s).place) e)).1,
      λ c room e. not_first (numbers_good n) (write_verdict n c room).place good ((write_exact n c room 0 (write_verdict n c room).place (lit< tt)).0 (ap (λ k. answered k (write_verdict n c room).place) e)).1,
    )

apart : {c : Bool} → ◌≡◌ {A = Bool} true false → c ≡ false
apart e =
    let z : ◌≡◌ {A = ℕ} 0 1 = cc in
    let y : ⊥ = omega arith in
    absurd y

-- three tests joined fail exactly where one of them does
and_fails : (a b c : Bool) → ((a && b && c) ≡ false) ↔ ((a ≡ false) ⊎ ((b ≡ false) ⊎ (c ≡ false)))
and_fails true true c = (λ e. inr (inr e), ⊎_elim (λ z. apart z) (⊎_elim (λ z. apart z) (λ e. e)))
and_fails true false c = (λ e. inr (inl refl), λ e. refl)
and_fails false b c = (λ e. inl refl, λ e. refl)

pub frame_means : FrameMeans
frame_means n s p =
    let w = whole-bad (frame_good s) p in
    let a = and_fails (leb 16 (length s)) (trailer_good cut_letter s) (labels_few (label_bytes s)) in (
      λ e.
          let f = w.0 e in
          (⊎_elim (λ x. inl (leb-false 16 (length s) x)) (λ y. inr (⊎_elim (λ t. inl t) (λ l. inr (leb-false (label_bytes s) 4096 l)) y)) (a.0 f.0), f.1),
      λ f. w.1 (a.1 (⊎_elim (λ x. inl (lt-leb 16 (length s) x)) (λ y. inr (⊎_elim (λ t. inl t) (λ l. inr (lt-leb (label_bytes s) 4096 l)) y)) f.0), f.1),
    )

pub write_means : WriteMeans
write_means n c room p =
    let l = whole-bad (labels_few c.labels) p in
    let r = whole-bad (leb (length (cut_image c)) room) p in
    record {
      labels = (λ e. let f = l.0 e in (leb-false c.labels 4096 f.0, f.1), λ f. l.1 (lt-leb c.labels 4096 f.0, f.1));
      short = (λ e. let f = r.0 e in (leb-false (length (cut_image c)) room f.0, f.1), λ f. r.1 (lt-leb (length (cut_image c)) room f.0, f.1));
    }
