-- A node's label over the entries of the sheets: the text of the cut's entry of that node if there is one, else of the net's, else the empty part at the net's end.
use Rattle.std.specs.Prelude.{◌≡◌, Bool, true, false, cond, List, [], ℕ, ◌+◌, ◌≤◌, length, take, drop}
use Rattle.std.specs.Borrow.{Bor}
use Rattle.layout.specs.Labels.{entry_length}
use Rattle.net_sheet.specs.Reading.{net_read}
use Rattle.texts.specs.Texts.{text_at}
use Rattle.texts.specs.Meaning.{EntryOf}
use Rattle.labels.specs.declared.Spot.{Spot}
use Rattle.labels.specs.Spots.{opens, labels_at, label_section, moved, text_spot, net_end, spot_of, of_sheet, bytes_at, IsPart}

-- the number of nodes of the net sheet
abbrev pub nodes_of : List ℕ → ℕ
nodes_of net = (net_read net).net.nodes

-- the entry at byte i of a sheet's labels section has the node
abbrev pub Labels : List ℕ → List ℕ → ℕ → ℕ → Type 0
Labels net s node i = EntryOf (nodes_of net) (label_section s) node i

-- no entry of the sheet has it
abbrev pub NoLabel : List ℕ → List ℕ → ℕ → Type 0
NoLabel net s node = (i : ℕ) → Labels net s node i → ⊥

-- the text of that entry, as a spot
abbrev pub entry_spot : Bool → List ℕ → ℕ → Spot
entry_spot cut s i = text_spot cut (moved (labels_at s) (text_at (label_section s) i))

-- the cut sheet's if it has one
abbrev pub LabelOfCut : Type 0
LabelOfCut = (net cut : List ℕ) (node i : ℕ) → opens net cut ≡ true → Labels net cut node i → spot_of net cut node ≡ entry_spot true cut i

-- else the net sheet's
abbrev pub LabelOfNet : Type 0
LabelOfNet = (net cut : List ℕ) (node i : ℕ) → opens net cut ≡ true → NoLabel net cut node → Labels net net node i → spot_of net cut node ≡ entry_spot false net i

-- with neither, the empty part at the net sheet's end
abbrev pub LabelOfNone : Type 0
LabelOfNone = (net cut : List ℕ) (node : ℕ) → opens net cut ≡ true → NoLabel net cut node → NoLabel net net node → spot_of net cut node ≡ net_end net

-- with no such node the same
abbrev pub LabelOfNoNode : Type 0
LabelOfNoNode = (net cut : List ℕ) (node : ℕ) → nodes_of net ≤ node → spot_of net cut node ≡ net_end net

-- and with sheets that opening refuses at every limit
abbrev pub LabelRefused : Type 0
LabelRefused = (net cut : List ℕ) (node : ℕ) → opens net cut ≡ false → spot_of net cut node ≡ net_end net

-- the part lies within its sheet
abbrev pub LabelWithin : Type 0
LabelWithin = (net cut : List ℕ) (node : ℕ) → (spot_of net cut node).from + (spot_of net cut node).length ≤ length (of_sheet (spot_of net cut node) net cut)

-- an entry's text, as the labels section of its sheet has it
abbrev pub entry_text : List ℕ → ℕ → List ℕ
entry_text s i = take (entry_length (label_section s) i) (drop (i + 3) (label_section s))

-- the bytes at its spot are its text
abbrev pub LabelBytes : Type 0
LabelBytes =
    (net cut : List ℕ) (which : Bool) (node i : ℕ)
    → opens net cut ≡ true
    → Labels net (cond which cut net) node i
    → bytes_at (entry_spot which (cond which cut net) i) (cond which cut net) ≡ entry_text (cond which cut net) i

-- what `label` promises of its result
abbrev pub Promised : Bor (List ℕ) → Bor (List ℕ) → ℕ → Bor (List ℕ) → Type 0
Promised net cut node r = IsPart (spot_of net.now cut.now node) net cut r

-- r is the text of the entry at byte i of a sheet's labels section, where the sheet has it
abbrev pub IsText : Bor (List ℕ) → ℕ → Bor (List ℕ) → Type 0
IsText s i r = (r.now ≡ entry_text s.now i) × (r.ref_ptr.0 ≡ s.ref_ptr.0) × (r.ref_ptr.1 ≡ labels_at s.now + (i + 3) + s.ref_ptr.1)

-- r is the empty part at a sheet's end
abbrev pub IsEnd : Bor (List ℕ) → Bor (List ℕ) → Type 0
IsEnd s r = (r.now ≡ []) × (r.ref_ptr.0 ≡ s.ref_ptr.0) × (r.ref_ptr.1 ≡ length s.now + s.ref_ptr.1)

-- So any result that the promise allows is the cut's text, else the net's, else the empty part.
abbrev pub HandsCut : Type 0
HandsCut =
    (net cut r : Bor (List ℕ)) (node i : ℕ)
    → Promised net cut node r
    → opens net.now cut.now ≡ true
    → Labels net.now cut.now node i
    → IsText cut i r

abbrev pub HandsNet : Type 0
HandsNet =
    (net cut r : Bor (List ℕ)) (node i : ℕ)
    → Promised net cut node r
    → opens net.now cut.now ≡ true
    → NoLabel net.now cut.now node
    → Labels net.now net.now node i
    → IsText net i r

-- the last in each of its cases: with neither, with no such node, or refused
abbrev pub HandsEnd : Type 0
HandsEnd =
    (net cut r : Bor (List ℕ)) (node : ℕ)
    → Promised net cut node r
    → spot_of net.now cut.now node ≡ net_end net.now
    → IsEnd net r
