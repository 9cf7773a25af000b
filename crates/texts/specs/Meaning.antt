-- What is found in a section of good entries, without the bound on recursion: exactly the text of the one entry that has the node.
use Rattle.std.specs.Prelude.{◌≡◌, true, List, ◌↔◌, ℕ, ◌+◌, ◌<◌, ◌≤◌, length}
use Rattle.std.specs.Prelude.{None}
use Rattle.layout.specs.Labels.{entry_node, label_check, Reached}
use Rattle.texts.specs.Texts.{no_text, text_at, text_of}

-- the entry at byte i is one of the section's, and has the node
pub record EntryOf (nodes : ℕ) (s : List ℕ) (node i : ℕ) : Type 0 where
  pub entry : ℕ
  pub least : ℕ
  pub reached : Reached nodes s entry i least
  pub inside : i < length s
  pub names : entry_node s i ≡ node

-- a text is found exactly where an entry has the node, and it is that entry's
abbrev pub TextFound : Type 0
TextFound = (nodes : ℕ) (s : List ℕ) (node i : ℕ) → label_check nodes s ≡ None → (text_of s node ≡ text_at s i) ↔ EntryOf nodes s node i

-- none is found exactly where no entry has it
abbrev pub TextMissing : Type 0
TextMissing = (nodes : ℕ) (s : List ℕ) (node : ℕ) → label_check nodes s ≡ None → (text_of s node ≡ no_text) ↔ ((i : ℕ) → EntryOf nodes s node i → ⊥)

-- node numbers strictly rise: no two entries have one node
abbrev pub OneEntry : Type 0
OneEntry = (nodes : ℕ) (s : List ℕ) (node i j : ℕ) → label_check nodes s ≡ None → EntryOf nodes s node i → EntryOf nodes s node j → i ≡ j

-- node numbers exist: a node that an entry has is below the number of nodes
abbrev pub EntryExists : Type 0
EntryExists = (nodes : ℕ) (s : List ℕ) (node i : ℕ) → label_check nodes s ≡ None → EntryOf nodes s node i → node < nodes

-- what is given lies within the section, whatever its bytes
abbrev pub TextWithin : Type 0
TextWithin = (s : List ℕ) (node : ℕ) → (text_of s node).from + (text_of s node).length ≤ length s

-- and the text that is found in a section of good entries has 1 to 31 bytes
abbrev pub TextLength : Type 0
TextLength = (nodes : ℕ) (s : List ℕ) (node : ℕ) → label_check nodes s ≡ None → (text_of s node).found ≡ true → (1 ≤ (text_of s node).length) × ((text_of s node).length ≤ 31)
