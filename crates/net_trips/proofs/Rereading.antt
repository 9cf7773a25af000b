-- What writing and then reading leaves, by cases: refused by the writer, or the same netlist.
use mathlib.Core.Path.{◌≡◌, ◌∙◌, ap}
use mathlib.Core.List.{List, [], ◌∷◌, ◌++◌}
use Prim.Native.Nat.{ℕ, ◌≤◌}
use borrow.Author.Tests.{leb-true, eq-eqb, ne_eqb}
use lib.Dec.{leb, lit<}
use lib.ListN.{length, take, drop}
use lib.Seq.{take-append_seam}
use Rattle.base.specs.Checks.{verdict, whole}
use Rattle.base.proofs.Verdicts.{all-good, good-all, good-apart, whole-good}
use Rattle.netlist.specs.declared.Netlist.{Netlist}
use Rattle.netlist.specs.Netlists.{no_net}
use Rattle.netlist.specs.Checks.{net_checks}
use Rattle.net_sheet.specs.Image.{net_image}
use Rattle.net_sheet.specs.Reading.{net_read}
use Rattle.net_sheet.specs.Writing.{write_checks, write_verdict, net_wrote, net_written}
use Rattle.net_trips.specs.Typed.{Typed}
use Rattle.net_trips.specs.Again.{reread}
use Rattle.net_trips.proofs.Refusals.{write_rising}
use Rattle.net_trips.proofs.Trips.{read_after_write}

module _ (n : Netlist) (old : List ℕ) where
  pub reread-refused : ((net_wrote n (length old)).answer ≡ 0 → ⊥) → record { answer = (net_wrote n (length old)).answer; place = (net_wrote n (length old)).place; net = no_net } ≡ reread n (length old)
  unfolding net_wrote reread
  reread-refused h = rw (ne_eqb (write_verdict n (length old)).answer 0 h)

  -- what the writer left where it was done
  pub record Done : Type 0 where
    pub net_good : (verdict (net_checks n)).answer ≡ 0
    pub size : (net_wrote n (length old)).length ≡ length (net_image n)
    pub room : length (net_image n) ≤ length old
    pub image : net_written n old ≡ net_image n ++ drop (length (net_image n)) old

  pub wrote : (net_wrote n (length old)).answer ≡ 0 → Done
  unfolding net_wrote net_written
  wrote e =
      let g = good-all 1 (write_checks n (length old)) (lit< tt) (write_rising n (length old)) e in
      let r = good-apart (net_checks n) ((16, whole (leb (length (net_image n)) (length old))) ∷ []) g in
      let fits = leb-true (length (net_image n)) (length old) (whole-good _ r.1.0) in
      let a = eq-eqb (write_verdict n (length old)).answer 0 e in
      record {
        net_good = ap (λ v. v.answer) (all-good (net_checks n) r.0);
        size = rw a;
        room = fits;
        image = rw a;
      }

  pub reread-done : Typed n → (net_wrote n (length old)).answer ≡ 0 → net_read (take (net_wrote n (length old)).length (net_written n old)) ≡ reread n (length old)
  unfolding net_wrote reread
  reread-done ty e =
      let d = wrote e in
      let a = eq-eqb (write_verdict n (length old)).answer 0 e in
      let front : take (net_wrote n (length old)).length (net_written n old) ≡ net_image n =
      ap (λ k. take k (net_written n old)) d.size ∙ ap (λ l. take (length (net_image n)) l) d.image ∙ take-append_seam (net_image n) (drop (length (net_image n)) old) in
      ap net_read front ∙ read_after_write n ty d.net_good ∙ rw a
