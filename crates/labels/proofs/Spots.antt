-- The label's spot by cases: sheets that are refused, a text in the cut sheet, a text in the net sheet, no text.
use mathlib.Core.Path.{◌≡◌, refl}
use mathlib.Core.Bool.{Bool, true, false, cond, ◌&&◌}
use mathlib.Core.List.{List}
use Prim.Native.Nat.{ℕ, ◌+◌, ◌≤◌}
use native.Mathlib.Omega.{arith}
use borrow.Author.Tests.{eq-eqb, ne_eqb, eqb-true}
use denote.Ref.{Bor}
use lib.Dec.{eqb}
use lib.ListN.{length}
use Rattle.std.specs.Prelude.{Some, None}
use Rattle.std.specs.Option.{unwrap_or, option_or}
use Rattle.base.proofs.Tests.{and_left, and_right}
use Rattle.net_sheet.specs.Image.{net_letter}
use Rattle.net_sheet.specs.Reading.{net_read}
use Rattle.cut_sheet.specs.Image.{cut_letter}
use Rattle.cut_sheet.specs.Reading.{cut_read}
use Rattle.labels.specs.declared.Spot.{Spot}
use Rattle.labels.specs.Spots.{opens, sheet_text, text_spot, sheet_spot, where_label, net_end, first_found, open_spot, spot_of, of_sheet}
use Rattle.labels.specs.Meaning.{nodes_of, LabelRefused, LabelWithin}
use Rattle.labels.proofs.Sections.{text-room}
use Rattle.labels.proofs.Opened.{Labelled, net_labelled, cut_labelled}

-- the first of two that is a label, and else the third
first_on : (p q d : Spot) (x y : Bool) → unwrap_or (option_or (cond x (Some p) None) (cond y (Some q) None)) d ≡ cond x p (cond y q d)
first_on p q d true true = refl
first_on p q d true false = refl
first_on p q d false true = refl
first_on p q d false false = refl

pub or_first : (p q d : Spot) → unwrap_or (option_or (where_label p) (where_label q)) d ≡ first_found p (first_found q d)
or_first p q d = first_on p q d p.found q.found

-- both readers answer 0, and so each sheet passed its checks
pub record Opened (net cut : List ℕ) : Type 0 where
  pub net_is : Labelled net_letter (nodes_of net) net
  pub cut_is : Labelled cut_letter (nodes_of net) cut

pub opened : (net cut : List ℕ) → opens net cut ≡ true → Opened net cut
opened net cut e =
    let x : Bool = eqb (net_read net).answer 0 in
    let y : Bool = eqb (cut_read (net_read net).net cut).answer 0 in
    record {
      net_is = net_labelled net (eqb-true (net_read net).answer 0 (and_left x y e));
      cut_is = cut_labelled (net_read net).net cut (eqb-true (cut_read (net_read net).net cut).answer 0 (and_right x y e));
    }

pub opens-both : (net cut : List ℕ) → (net_read net).answer ≡ 0 → (cut_read (net_read net).net cut).answer ≡ 0 → opens net cut ≡ true
opens-both net cut e f = rw (eq-eqb (net_read net).answer 0 e, eq-eqb (cut_read (net_read net).net cut).answer 0 f)

and_false : (b : Bool) → (b && false) ≡ false
and_false true = refl
and_false false = refl

module _ (net cut : List ℕ) (node : ℕ) where
  pub spot_open : opens net cut ≡ true → spot_of net cut node ≡ open_spot net cut node
  unfolding spot_of
  spot_open e = rw e

  pub spot-refused : opens net cut ≡ false → spot_of net cut node ≡ net_end net
  unfolding spot_of
  spot-refused e = rw e

  pub spot_no_net : ((net_read net).answer ≡ 0 → ⊥) → spot_of net cut node ≡ net_end net
  spot_no_net h = spot-refused (rw (ne_eqb (net_read net).answer 0 h))

  pub spot_no_cut : ((cut_read (net_read net).net cut).answer ≡ 0 → ⊥) → spot_of net cut node ≡ net_end net
  spot_no_cut h = spot-refused (rw (ne_eqb (cut_read (net_read net).net cut).answer 0 h) (and_false (eqb (net_read net).answer 0)))

  -- which of the three it is in sheets that open
  pub spot_in_cut : (sheet_text cut node).found ≡ true → open_spot net cut node ≡ text_spot true (sheet_text cut node)
  unfolding open_spot
  spot_in_cut e = rw e

  pub spot_in_net : (sheet_text cut node).found ≡ false → (sheet_text net node).found ≡ true → open_spot net cut node ≡ text_spot false (sheet_text net node)
  unfolding open_spot
  spot_in_net e f = rw (e, f)

  pub spot_in_none : (sheet_text cut node).found ≡ false → (sheet_text net node).found ≡ false → open_spot net cut node ≡ net_end net
  unfolding open_spot
  spot_in_none e f = rw (e, f)

  -- each of the three lies within its sheet
  abbrev Within : Spot → Type 0
  Within p = p.from + p.length ≤ length (of_sheet p net cut)

  end-within : Within (net_end net)
  end-within = omega arith

  open_within : Opened net cut → (x y : Bool) → Within (cond x (sheet_spot cut_letter cut node) (cond y (sheet_spot net_letter net node) (net_end net)))
  open_within o true y = text-room cut_letter cut o.cut_is.good node
  open_within o false true = text-room net_letter net o.net_is.good node
  open_within o false false = end-within

  within_on : (b : Bool) → opens net cut ≡ b → Within (cond b (open_spot net cut node) (net_end net))
  unfolding open_spot
  within_on true e = open_within (opened net cut e) (sheet_text cut node).found (sheet_text net node).found
  within_on false e = end-within

pub label-refused : LabelRefused
label-refused net cut node e = spot-refused net cut node e

pub label-within : LabelWithin
unfolding spot_of
label-within net cut node = within_on net cut node (opens net cut) refl

-- the same of a spot that was given, in the sheet that is lent for it
of_now : (b : Bool) (x y : Bor (List ℕ)) → (cond b x y).now ≡ cond b x.now y.now
of_now true x y = refl
of_now false x y = refl

pub within_sheet : (net cut sheet : Bor (List ℕ)) (node : ℕ) (p : Spot) → p ≡ spot_of net.now cut.now node → sheet ≡ of_sheet p net cut → p.from + p.length ≤ length sheet.now
within_sheet net cut sheet node p e h =
    let w : p.from + p.length ≤ length (of_sheet p net.now cut.now) = rw e (label-within net.now cut.now node) in
    rw (h, of_now p.cut cut net) w
