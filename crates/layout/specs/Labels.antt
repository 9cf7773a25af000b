-- Label entries (outline, "The net sheet"): node number, length 1 to 31, that many bytes from 0x20 to 0x7E; the node numbers exist and strictly rise, and entries fill the section.
use Rattle.std.specs.Prelude.{◌≡◌, Bool, true, false, cond, ◌&&◌, List, ℕ, zero, suc, ◌+◌, ◌<◌, ltb, leb, length, get_or}
use Rattle.base.specs.Bytes.{two_at}
use Rattle.base.specs.Checks.{every}
use Rattle.std.specs.Prelude.{Option}
use Rattle.std.specs.Prelude.{None, Some}

-- the entry at byte i: its node, its length, and the byte behind it
abbrev pub entry_node : List ℕ → ℕ → ℕ
entry_node s i = two_at s i

abbrev pub entry_length : List ℕ → ℕ → ℕ
entry_length s i = get_or s (i + 2) 0

abbrev pub entry_end : List ℕ → ℕ → ℕ
entry_end s i = i + 3 + entry_length s i

abbrev pub text_byte : ℕ → Bool
text_byte b = leb 0x20 b && leb b 0x7E

-- the n bytes from i on are text
unfoldable pub text_good : List ℕ → ℕ → ℕ → Bool
text_good s i n = every (λ j. text_byte (get_or s (i + j) 0)) n

-- the entry lies within the section, its node exists and has at least the number `least`, and its text is good
unfoldable pub entry_good : ℕ → ℕ → List ℕ → ℕ → Bool
entry_good nodes least s i =
    leb (entry_end s i) (length s)
    && (ltb (entry_node s i) nodes && leb least (entry_node s i) && leb 1 (entry_length s i) && leb (entry_length s i) 31)
    && text_good s (i + 3) (entry_length s i)

-- The first bad entry from byte i on, entries counted from e. An entry takes more than one byte, so a section of d bytes has no more than d entries.
unfoldable pub labels_from : ℕ → ℕ → List ℕ → ℕ → ℕ → ℕ → Option ℕ
labels_from zero nodes s i least e = None
labels_from (suc d) nodes s i least e =
    cond (leb (length s) i) None
    (cond (entry_good nodes least s i) (labels_from d nodes s (entry_end s i) (suc (entry_node s i)) (suc e)) (Some e))

abbrev pub label_check : ℕ → List ℕ → Option ℕ
label_check nodes s = labels_from (length s) nodes s 0 0 0

-- Entry e stands at byte i, where its node's number is to be `least` or more: every entry before it is good, and each begins where the one before it ends.
pub data Reached (nodes : ℕ) (s : List ℕ) : ℕ → ℕ → ℕ → Type 0 where
  start : Reached nodes s 0 0 0
  next : {e i least : ℕ} → Reached nodes s e i least → i < length s → entry_good nodes least s i ≡ true → Reached nodes s (suc e) (entry_end s i) (suc (entry_node s i))

-- entry e is the first that breaks its rule
pub record BadEntry (nodes : ℕ) (s : List ℕ) (e : ℕ) : Type 0 where
  pub byte : ℕ
  pub least : ℕ
  pub reached : Reached nodes s e byte least
  pub inside : byte < length s
  pub bad : entry_good nodes least s byte ≡ false

-- good entries fill the section exactly
pub record Filled (nodes : ℕ) (s : List ℕ) : Type 0 where
  pub entries : ℕ
  pub least : ℕ
  pub reached : Reached nodes s entries (length s) least
