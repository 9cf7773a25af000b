-- What `trace` prints: the line of an answer, with a value or a count behind it, and the opening's line; and what a sheet's file counts as.
use Rattle.std.specs.Prelude.{Bool, cond, ◌&&◌, List, [], ◌∷◌, ◌++◌, ℕ, leb}
use Rattle.std.specs.Fmt.{decimal}

abbrev pub line_end : List ℕ
line_end = 10 ∷ []

-- a space and a number, before what follows
abbrev pub word : ℕ → List ℕ → List ℕ
word n rest = 32 ∷ decimal n ++ rest

abbrev pub answer_text : ℕ → List ℕ
answer_text a = decimal a ++ line_end

abbrev pub value_text : ℕ → ℕ → List ℕ
value_text a v = decimal a ++ word v line_end

-- `open`, and numbers
abbrev pub open_word : List ℕ → List ℕ
open_word rest = 111 ∷ 112 ∷ 101 ∷ 110 ∷ rest

abbrev pub opened_text : ℕ → ℕ → ℕ → ℕ → List ℕ
opened_text nodes parts queues rules = open_word (word 0 (word nodes (word parts (word queues (word rules line_end)))))

abbrev pub refused_text : ℕ → ℕ → List ℕ
refused_text answer place = open_word (word answer (word place line_end))

-- a sheet's file that is missing or over 32,768 bytes counts as empty
abbrev pub sheet_bytes : Bool → ℕ → ℕ
sheet_bytes found length = cond (found && leb length 32768) length 0
