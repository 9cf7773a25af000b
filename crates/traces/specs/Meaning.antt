-- What `trace` comes to (outline, "The bench example, whole"): its input byte after byte whatever blocks it comes in, a line at each byte 10, and each line in the
-- words of the network's calls.
use Rattle.std.specs.Prelude.{◌≡◌, false, cond, ◌≢◌, List, [], ◌∷◌, ◌++◌, ℕ, ◌≤◌, ◌<◌, eqb, length, get_or, take, drop}
use Rattle.plans.specs.declared.Plan.{Plan}
use Rattle.lanes.specs.declared.Network.{Network}
use Rattle.spots.specs.Rounds.{round_on, fired_on}
use Rattle.moves.specs.Moves.{feed_answer, feed_left, drain_on, drain_left}
use Rattle.rounds.specs.Fires.{fire_answer, fire_left}
use Rattle.lines.specs.declared.Reading.{Reading}
use Rattle.lines.specs.Commands.{Command, feed, drain, fire, round, command_text, Small, nothing, line_read, is_command, command_read}
use Rattle.lines.specs.Answers.{answer_text, value_text}
use Rattle.traces.specs.Traces.{LineOn, line_of, line_on, TraceOn, trace_of, trace_on, has_room, block_on}

-- ---- bytes, and the blocks that they come in

-- byte after byte, with no question of room
unfoldable pub bytes_on : Plan → TraceOn → List ℕ → TraceOn
bytes_on P t [] = t
bytes_on P t (b ∷ bs) = bytes_on P (trace_on P t b) bs

-- A block is so many of its bytes.
abbrev pub BlockIsBytes : Type 0
BlockIsBytes =
    (P : Plan) (room : ℕ) (t : TraceOn) (bs : List ℕ)
    → ((block_on P room t bs).trace ≡ bytes_on P t (take (block_on P room t bs).read bs)) × ((block_on P room t bs).read ≤ length bs)

-- An input may come in any pieces.
abbrev pub Pieces : Type 0
Pieces = (P : Plan) (t : TraceOn) (xs ys : List ℕ) → bytes_on P t (xs ++ ys) ≡ bytes_on P (bytes_on P t xs) ys

-- a trace with what was printed before it
abbrev pub behind : List ℕ → TraceOn → TraceOn
behind said t = trace_of t.network t.reading (said ++ t.said)

-- What is printed does not depend on what was printed before: a block's answers may be written out and forgotten.
abbrev pub SaidBehind : Type 0
SaidBehind = (P : Plan) (L : Network) (R : Reading) (said bs : List ℕ) → bytes_on P (trace_of L R said) bs ≡ behind said (bytes_on P (trace_of L R []) bs)

-- So an input gives a block's answers, and behind them those of the bytes that the block leaves, played from what it leaves.
abbrev pub BlockThenRest : Type 0
BlockThenRest =
    (P : Plan) (room : ℕ) (L : Network) (R : Reading) (bs : List ℕ)
    → bytes_on P (trace_of L R []) bs
    ≡ behind (block_on P room (trace_of L R []) bs).trace.said
    (bytes_on P (trace_of (block_on P room (trace_of L R []) bs).trace.network (block_on P room (trace_of L R []) bs).trace.reading [])
    (drop (block_on P room (trace_of L R []) bs).read bs))

-- With room for one answer a block reads a byte at least, where there is one.
abbrev pub BlockGoesOn : Type 0
BlockGoesOn = (P : Plan) (room : ℕ) (t : TraceOn) (bs : List ℕ) → 42 ≤ room → t.said ≡ [] → 0 < length bs → 0 < (block_on P room t bs).read

-- It leaves bytes unread only where the room for one more answer is used up.
abbrev pub BlockUsesRoom : Type 0
BlockUsesRoom =
    (P : Plan) (room : ℕ) (t : TraceOn) (bs : List ℕ)
    → (block_on P room t bs).read < length bs
    → has_room (length (block_on P room t bs).trace.said) room ≡ false

-- ---- lines

-- no byte of it ends a line
abbrev pub NoEnd : List ℕ → Type 0
NoEnd line = (k : ℕ) → k < length line → get_or line k 0 ≢ 10

-- The bytes of a line and its end leave what the line leaves, its text behind what is printed, and a new line. Without the end nothing is done yet but read.
abbrev pub LineIs : Type 0
LineIs =
    (P : Plan) (L : Network) (said line : List ℕ)
    → NoEnd line
    → (bytes_on P (trace_of L nothing said) (line ++ (10 ∷ [])) ≡ trace_of (line_on P L (line_read line)).network nothing (said ++ (line_on P L (line_read line)).text))
    × (bytes_on P (trace_of L nothing said) line ≡ trace_of L (line_read line) said)

-- lines, each with its end
unfoldable pub lines_text : List (List ℕ) → List ℕ
lines_text [] = []
lines_text (line ∷ lines) = line ++ (10 ∷ []) ++ lines_text lines

abbrev pub NoEnds : List (List ℕ) → Type 0
NoEnds [] = 0 < 1
NoEnds (line ∷ lines) = NoEnd line × NoEnds lines

-- one after the other, and their texts in turn
unfoldable pub lines_on : Plan → Network → List (List ℕ) → LineOn
lines_on P L [] = line_of L []
lines_on P L (line ∷ lines) =
    line_of (lines_on P (line_on P L (line_read line)).network lines).network
    ((line_on P L (line_read line)).text ++ (lines_on P (line_on P L (line_read line)).network lines).text)

-- Lines with their ends leave what the lines leave in turn, and print their texts in turn.
abbrev pub LinesAre : Type 0
LinesAre =
    (P : Plan) (L : Network) (said : List ℕ) (lines : List (List ℕ))
    → NoEnds lines
    → bytes_on P (trace_of L nothing said) (lines_text lines) ≡ trace_of (lines_on P L lines).network nothing (said ++ (lines_on P L lines).text)

-- an input as whole lines and a last one that lacks its end, which may have no byte
pub record Cut (bs : List ℕ) : Type 0 where
  pub lines : List (List ℕ)
  pub last : List ℕ
  pub no_ends : NoEnds lines
  pub no_end : NoEnd last
  pub is : bs ≡ lines_text lines ++ last

-- Every input is so cut.
abbrev pub EachCut : Type 0
EachCut = (bs : List ℕ) → Cut bs

-- Any input plays its whole lines, and the last one once it has an end too.
abbrev pub InputIs : Type 0
InputIs =
    (P : Plan) (L : Network) (bs : List ℕ) (c : Cut bs)
    → (bytes_on P (trace_of L nothing []) bs ≡ trace_of (lines_on P L c.lines).network (line_read c.last) (lines_on P L c.lines).text)
    × (bytes_on P (trace_of L nothing []) (bs ++ (10 ∷ []))
    ≡ trace_of (lines_on P L (c.lines ++ (c.last ∷ []))).network nothing (lines_on P L (c.lines ++ (c.last ∷ []))).text)

-- ---- commands

-- the call that a command makes, and its answer, followed after 0 by a drain's value or a round's count
abbrev pub command_on : Plan → Network → Command → LineOn
command_on P L (feed i v) = line_of (feed_left P L i v) (answer_text (feed_answer P L i v))
command_on P L (drain j) =
    line_of (drain_left P L j) (cond (eqb (drain_on P L j).answer 0) (value_text 0 (drain_on P L j).value) (answer_text (drain_on P L j).answer))
command_on P L (fire k) = line_of (fire_left P L k) (answer_text (fire_answer P L k))
command_on P L round = line_of (round_on P L) (value_text 0 (fired_on P L))

-- What is read as a command makes its call; another line leaves the network and gives 17.
abbrev pub CommandsAre : Type 0
CommandsAre =
    (P : Plan) (L : Network)
    → ((c : Command) → line_on P L (command_read c) ≡ command_on P L c)
    × ((R : Reading) → is_command R ≡ false → line_on P L R ≡ line_of L (answer_text 17))

-- The same of the lines themselves: the text of a command with numbers below 2^32, and a line that is no such text.
abbrev pub TextsAre : Type 0
TextsAre =
    (P : Plan) (L : Network)
    → ((c : Command) → Small c → line_on P L (line_read (command_text c)) ≡ command_on P L c)
    × ((line : List ℕ) → ((c : Command) → Small c → line ≢ command_text c) → line_on P L (line_read line) ≡ line_of L (answer_text 17))
