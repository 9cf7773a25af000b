-- A node's label over the entries of the sheets, from what a text that is found in a section of good entries means. An entry's node exists, so a number that is no node's has no entry.
use mathlib.Core.Path.{◌≡◌, refl, sym, ◌∙◌, ap}
use mathlib.Core.Bool.{Bool, true, false}
use mathlib.Core.List.{List, [], ◌∷◌}
use Prim.Native.Nat.{ℕ, zero, suc, ◌+◌, ◌≤◌}
use native.Mathlib.Omega.{arith}
use denote.Ref.{Bor}
use lib.ListN.{take, drop}
use lib.Seq.{take-take, drop-drop}
use Rattle.std.specs.Prelude.{None}
use Rattle.layout.specs.Labels.{entry_length, label_check}
use Rattle.layout.specs.Trailer.{label_bytes}
use Rattle.net_sheet.specs.Image.{net_letter}
use Rattle.cut_sheet.specs.Image.{cut_letter}
use Rattle.texts.specs.Texts.{text_at}
use Rattle.texts.proofs.Rules.{rule-here}
use Rattle.texts.proofs.Meaning.{text-found, text_missing, entry-exists}
use Rattle.labels.specs.declared.Spot.{Spot}
use Rattle.labels.specs.Spots.{opens, labels_at, label_section, moved, sheet_text, text_spot, net_end, spot_of, bytes_at, IsPart}
use Rattle.labels.specs.Meaning.{nodes_of, Labels, NoLabel, entry_spot, entry_text, LabelOfCut, LabelOfNet, LabelOfNone, LabelOfNoNode, LabelBytes, HandsCut, HandsNet, HandsEnd}
use Rattle.labels.proofs.Sections.{section_length}
use Rattle.labels.proofs.Opened.{Labelled}
use Rattle.labels.proofs.Spots.{opened, spot_open, spot-refused, spot_in_cut, spot_in_net, spot_in_none}

-- the text of a sheet's entry, and no text
module _ (net s : List ℕ) (node : ℕ) (g : label_check (nodes_of net) (label_section s) ≡ None) where
  text_is : (i : ℕ) → Labels net s node i → sheet_text s node ≡ moved (labels_at s) (text_at (label_section s) i)
  text_is i e = ap (moved (labels_at s)) ((text-found (nodes_of net) (label_section s) node i g).1 e)

  has_text : (i : ℕ) → Labels net s node i → (sheet_text s node).found ≡ true
  has_text i e = ap (λ t. t.found) (text_is i e)

  has_none : NoLabel net s node → (sheet_text s node).found ≡ false
  has_none h = ap (λ t. t.found) ((text_missing (nodes_of net) (label_section s) node g).1 h)

  -- no entry has a number that is no node's
  no_node : nodes_of net ≤ node → NoLabel net s node
  no_node h i e = omega (arith, entry-exists (nodes_of net) (label_section s) node i g e)

pub label_of_cut : LabelOfCut
label_of_cut net cut node i e l =
    let c = (opened net cut e).cut_is.entries in
    spot_open net cut node e ∙ spot_in_cut net cut node (has_text net cut node c i l) ∙ ap (text_spot true) (text_is net cut node c i l)

pub label_of_net : LabelOfNet
label_of_net net cut node i e no_cut l =
    let o = opened net cut e in
    let n = o.net_is.entries in
    spot_open net cut node e
    ∙ spot_in_net net cut node (has_none net cut node o.cut_is.entries no_cut) (has_text net net node n i l)
    ∙ ap (text_spot false) (text_is net net node n i l)

pub label_of_none : LabelOfNone
label_of_none net cut node e no_cut no-net =
    let o = opened net cut e in
    spot_open net cut node e
    ∙ spot_in_none net cut node (has_none net cut node o.cut_is.entries no_cut) (has_none net net node o.net_is.entries no-net)

no_node_on : (net cut : List ℕ) (node : ℕ) → nodes_of net ≤ node → (b : Bool) → opens net cut ≡ b → spot_of net cut node ≡ net_end net
no_node_on net cut node h true e =
    let o = opened net cut e in
    label_of_none net cut node e (no_node net cut node o.cut_is.entries h) (no_node net net node o.net_is.entries h)
no_node_on net cut node h false e = spot-refused net cut node e

pub label_of_no_node : LabelOfNoNode
label_of_no_node net cut node h = no_node_on net cut node h (opens net cut) refl

-- a stretch of a stretch
stretch : (n k m : ℕ) (xs : List ℕ) → k + n ≤ m → take n (drop k (take m xs)) ≡ take n (drop k xs)
stretch n zero m xs h = take-take n m xs (omega arith)
stretch n (suc k) zero xs h = let z : ⊥ = omega arith in absurd z
stretch n (suc k) (suc m) [] h = refl
stretch n (suc k) (suc m) (x ∷ xs) h = stretch n k m xs (omega arith)

bytes_in : (net s : List ℕ) (letter : ℕ) (which : Bool) (node i : ℕ) → Labelled letter (nodes_of net) s → Labels net s node i → bytes_at (entry_spot which s i) s ≡ entry_text s i
bytes_in net s letter which node i l e =
    let n : ℕ = entry_length (label_section s) i in
    let u = rule-here (nodes_of net) (label_section s) e.entry i e.least l.entries e.reached e.inside in
    sym
    (stretch n (i + 3) (label_bytes s) (drop (labels_at s) s) (omega (arith, u.within, section_length letter s l.good))
    ∙ ap (λ r. take n r) (drop-drop (i + 3) (labels_at s) s))

pub label-bytes : LabelBytes
label-bytes net cut true node i e l = bytes_in net cut cut_letter true node i (opened net cut e).cut_is l
label-bytes net cut false node i e l = bytes_in net net net_letter false node i (opened net cut e).net_is l

-- what is promised at one spot is promised at an equal one
at_spot : (net cut r : Bor (List ℕ)) (p q : Spot) → p ≡ q → IsPart p net cut r → IsPart q net cut r
at_spot net cut r p q e h = rw (← e) h

pub hands_cut : HandsCut
hands_cut net cut r node i p e l =
    let h = at_spot net cut r _ _ (label_of_cut net.now cut.now node i e l) p in
    (h.0 ∙ label-bytes net.now cut.now true node i e l, h.1, h.2)

pub hands_net : HandsNet
hands_net net cut r node i p e no_cut l =
    let h = at_spot net cut r _ _ (label_of_net net.now cut.now node i e no_cut l) p in
    (h.0 ∙ label-bytes net.now cut.now false node i e l, h.1, h.2)

pub hands_end : HandsEnd
hands_end net cut r node p e = at_spot net cut r _ _ e p
