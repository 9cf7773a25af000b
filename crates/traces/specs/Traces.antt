-- `trace` on a network's arrays: a line played, its answer as a text, and the bytes of the input one after the other (outline, "The bench example, whole").
use Rattle.std.specs.Prelude.{◌≡◌, Bool, cond, ◌&&◌, List, [], ◌∷◌, ◌++◌, ℕ, ◌+◌, eqb, leb, length}
use Rattle.base.specs.Lists.{patch}
use Rattle.layout.specs.Write.{placed}
use Rattle.plans.specs.declared.Plan.{Plan}
use Rattle.lanes.specs.declared.Network.{Network}
use Rattle.spots.specs.Rounds.{round_on, fired_on}
use Rattle.orders.specs.Orders.{entry_of, ActOn, act_on}
use Rattle.lines.specs.declared.Reading.{Reading}
use Rattle.lines.specs.Commands.{nothing, byte_read, is_command}
use Rattle.lines.specs.Answers.{answer_text, value_text}
use Rattle.traces.specs.declared.Progress.{Progress}
use Rattle.traces.specs.declared.Step.{Step}

-- ---- a line

-- what it leaves, and the line that is printed for it
pub record LineOn : Type 0 where
  pub network : Network
  pub text : List ℕ

abbrev pub line_of : Network → List ℕ → LineOn
line_of M text = record { network = M; text = text }

-- the answer, followed after 0 by a drain's value
abbrev pub act_text : ℕ → ActOn → List ℕ
act_text kind a = cond (eqb a.answer 0 && eqb kind 1) (value_text 0 a.value) (answer_text a.answer)

-- a round gives 0 and its count; another line gives 17
unfoldable pub line_on : Plan → Network → Reading → LineOn
line_on P L R =
    cond (is_command R)
    (cond (eqb R.kind 3) (line_of (round_on P L) (value_text 0 (fired_on P L)))
    (line_of (act_on P L (entry_of R.kind R.index R.value)).network (act_text R.kind (act_on P L (entry_of R.kind R.index R.value)))))
    (line_of L (answer_text 17))

abbrev pub LinePlayed : Plan → Network → Reading → List ℕ → ℕ → ℕ → Network → List ℕ → Type 0
LinePlayed P L R out at r M out' = (r ≡ length (line_on P L R).text) × (M ≡ (line_on P L R).network) × (out' ≡ placed out at (line_on P L R).text)

-- ---- a byte

-- what it leaves, what has been read of its line, and what is printed
pub record ByteOn : Type 0 where
  pub network : Network
  pub reading : Reading
  pub text : List ℕ

abbrev pub byte_of : Network → Reading → List ℕ → ByteOn
byte_of M R text = record { network = M; reading = R; text = text }

-- only the byte 0A ends a line
unfoldable pub byte_on : Plan → Network → Reading → ℕ → ByteOn
byte_on P L R b = cond (eqb b 10) (byte_of (line_on P L R).network nothing (line_on P L R).text) (byte_of L (byte_read R b) [])

abbrev pub BytePlayed : Plan → Network → Reading → ℕ → List ℕ → ℕ → Step → Network → List ℕ → Type 0
BytePlayed P L R b out at r M out' =
    (r ≡ record { wrote = length (byte_on P L R b).text; reading = (byte_on P L R b).reading })
    × (M ≡ (byte_on P L R b).network)
    × (out' ≡ placed out at (byte_on P L R b).text)

-- ---- a block of bytes

-- the network, what has been read of the present line, and what has been printed
pub record TraceOn : Type 0 where
  pub network : Network
  pub reading : Reading
  pub said : List ℕ

abbrev pub trace_of : Network → Reading → List ℕ → TraceOn
trace_of M R said = record { network = M; reading = R; said = said }

abbrev pub after_byte : TraceOn → ByteOn → TraceOn
after_byte t s = trace_of s.network s.reading (t.said ++ s.text)

abbrev pub trace_on : Plan → TraceOn → ℕ → TraceOn
trace_on P t b = after_byte t (byte_on P t.network t.reading b)

-- no answer has more than 42 bytes
unfoldable pub has_room : ℕ → ℕ → Bool
has_room wrote room = leb (wrote + 42) room

-- a trace, and how many bytes were read for it
pub record BlockOn : Type 0 where
  pub trace : TraceOn
  pub read : ℕ

abbrev pub more : ℕ → BlockOn → BlockOn
more n B = record { trace = B.trace; read = n + B.read }

-- byte after byte, as long as there is room for one more answer
unfoldable pub block_on : Plan → ℕ → TraceOn → List ℕ → BlockOn
block_on P room t [] = record { trace = t; read = 0 }
block_on P room t (b ∷ bs) = cond (has_room (length t.said) room) (more 1 (block_on P room (trace_on P t b) bs)) (record { trace = t; read = 0 })

abbrev pub block_given : BlockOn → Progress
block_given B = record { read = B.read; wrote = length B.trace.said; reading = B.trace.reading }

abbrev pub BlockLeft : BlockOn → List ℕ → Progress → Network → List ℕ → Type 0
BlockLeft B out r M out' = (r ≡ block_given B) × (M ≡ B.trace.network) × (out' ≡ patch out 0 B.trace.said)

abbrev pub BlockPlayed : Plan → Network → Reading → List ℕ → List ℕ → Progress → Network → List ℕ → Type 0
BlockPlayed P L R input out r M out' = BlockLeft (block_on P (length out) (trace_of L R []) input) out r M out'
