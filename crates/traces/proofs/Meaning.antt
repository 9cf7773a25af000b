-- What `trace` comes to: by induction over the bytes, a block by whether there is room for one more answer and a line by whether a byte is its end; then a
-- command by its kind.
use mathlib.Core.Path.{◌≡◌, refl, sym, ap, ap₂, ◌∙◌}
use mathlib.Core.Bool.{Bool, true, false, and-true, and-false}
use mathlib.Core.Logic.{◌≢◌}
use mathlib.Core.List.{List, [], ◌∷◌, ◌++◌, append-nil, append_assoc}
use Prim.Native.Nat.{ℕ, zero, suc, ◌+◌, ◌≤◌, ◌<◌}
use native.Mathlib.Omega.{arith}
use borrow.Author.Tests.{le-leb, eqb-true, eqb-false, ne_eqb}
use lib.Dec.{eqb}
use lib.ListN.{length, take, drop, take-append-drop}
use Rattle.plans.specs.declared.Plan.{Plan}
use Rattle.lanes.specs.declared.Network.{Network}
use Rattle.moves.specs.Moves.{feed_answer, drain_on}
use Rattle.rounds.specs.Fires.{fire_answer}
use Rattle.orders.specs.Orders.{act_on}
use Rattle.lines.specs.declared.Reading.{Reading}
use Rattle.lines.specs.Commands.{Command, feed, drain, fire, round, command_text, Small, nothing, byte_read, bytes_read, line_read, is_command, command_read}
use Rattle.lines.specs.Answers.{answer_text}
use Rattle.lines.proofs.Meaning.{each_read, only_those}
use Rattle.traces.specs.Traces.{line_of, line_on, byte_on, TraceOn, trace_of, trace_on, has_room, BlockOn, more, block_on}
use Rattle.traces.specs.Meaning.{bytes_on, BlockIsBytes, Pieces, behind, SaidBehind, BlockThenRest, BlockGoesOn, BlockUsesRoom, NoEnd, LineIs, lines_text, NoEnds, lines_on, LinesAre, Cut, EachCut, InputIs, command_on, CommandsAre, TextsAre}

-- ---- a block, by whether there is room

reads_on : (P : Plan) (room : ℕ) (t : TraceOn) (b : ℕ) (bs : List ℕ) → has_room (length t.said) room ≡ true → block_on P room t (b ∷ bs) ≡ more 1 (block_on P room (trace_on P t b) bs)
unfolding block_on
reads_on P room t b bs h = rw h

stops : (P : Plan) (room : ℕ) (t : TraceOn) (b : ℕ) (bs : List ℕ) → has_room (length t.said) room ≡ false → block_on P room t (b ∷ bs) ≡ record { trace = t; read = 0 }
unfolding block_on
stops P room t b bs h = rw h

abbrev IsBytes : Plan → TraceOn → List ℕ → BlockOn → Type 0
IsBytes P t bs B = (B.trace ≡ bytes_on P t (take B.read bs)) × (B.read ≤ length bs)

one_byte : (P : Plan) (t : TraceOn) (b : ℕ) (bs : List ℕ) (B : BlockOn) → IsBytes P (trace_on P t b) bs B → IsBytes P t (b ∷ bs) (more 1 B)
unfolding bytes_on
one_byte P t b bs B h =
    let e : 1 + B.read ≡ suc B.read = omega arith in
    (h.0 ∙ ap (λ n. bytes_on P t (take n (b ∷ bs))) (sym e), omega (arith, h.1))

pub block_is_bytes : BlockIsBytes
unfolding block_on bytes_on
block_is_bytes P room t [] = (refl, omega arith)
block_is_bytes P room t (b ∷ bs) = go (has_room (length t.said) room) refl (block_is_bytes P room (trace_on P t b) bs)
  where
    go : (u : Bool) → has_room (length t.said) room ≡ u → IsBytes P (trace_on P t b) bs (block_on P room (trace_on P t b) bs) → IsBytes P t (b ∷ bs) (block_on P room t (b ∷ bs))
    go true h k = rw (reads_on P room t b bs h) (one_byte P t b bs (block_on P room (trace_on P t b) bs) k)
    go false h k = rw (stops P room t b bs h) (refl, omega arith)

pub pieces : Pieces
unfolding bytes_on
pieces P t [] ys = refl
pieces P t (x ∷ xs) ys = pieces P (trace_on P t x) xs ys

all-behind : (P : Plan) (said : List ℕ) (t : TraceOn) (bs : List ℕ) → bytes_on P (behind said t) bs ≡ behind said (bytes_on P t bs)
unfolding bytes_on
all-behind P said t [] = refl
all-behind P said t (b ∷ bs) =
    ap (λ s. bytes_on P (trace_of (trace_on P t b).network (trace_on P t b).reading s) bs) (append_assoc said t.said (byte_on P t.network t.reading b).text)
    ∙ all-behind P said (trace_on P t b) bs

pub said-behind : SaidBehind
said-behind P L R said bs = ap (λ s. bytes_on P (trace_of L R s) bs) (sym (append-nil said)) ∙ all-behind P said (trace_of L R []) bs

pub block-then-rest : BlockThenRest
block-then-rest P room L R bs =
    ap (λ xs. bytes_on P (trace_of L R []) xs) (sym (take-append-drop B.read bs))
    ∙ pieces P (trace_of L R []) (take B.read bs) (drop B.read bs)
    ∙ ap (λ t. bytes_on P t (drop B.read bs)) (sym (block_is_bytes P room (trace_of L R []) bs).0)
    ∙ said-behind P B.trace.network B.trace.reading B.trace.said (drop B.read bs)
  where
    B : BlockOn
    B = block_on P room (trace_of L R []) bs

pub block_goes_on : BlockGoesOn
unfolding has_room
block_goes_on P room t [] h e l = let y : ⊥ = omega (arith, l) in absurd y
block_goes_on P room t (b ∷ bs) h e l =
    rw (reads_on P room t b bs (ap (λ s. has_room (length s) room) e ∙ le-leb 42 room h)) (omega arith)

pub block_uses_room : BlockUsesRoom
unfolding block_on
block_uses_room P room t [] l = let y : ⊥ = omega (arith, l) in absurd y
block_uses_room P room t (b ∷ bs) l = go (has_room (length t.said) room) refl (λ k. block_uses_room P room (trace_on P t b) bs k)
  where
    go : (u : Bool) → has_room (length t.said) room ≡ u
        → ((block_on P room (trace_on P t b) bs).read < length bs → has_room (length (block_on P room (trace_on P t b) bs).trace.said) room ≡ false)
        → has_room (length (block_on P room t (b ∷ bs)).trace.said) room ≡ false
    go true h k = let m : 1 + (block_on P room (trace_on P t b) bs).read < suc (length bs) = rw (reads_on P room t b bs h) at l in rw (reads_on P room t b bs h) (k (omega (arith, m)))
    go false h k = rw (stops P room t b bs h) h

-- ---- lines

-- a byte that is no end is read
one-read : (P : Plan) (L : Network) (R : Reading) (said : List ℕ) (b : ℕ) → eqb b 10 ≡ false → trace_on P (trace_of L R said) b ≡ trace_of L (byte_read R b) said
unfolding byte_on
one-read P L R said b e = rw e (ap (λ s. trace_of L (byte_read R b) s) (append-nil said))

all_read : (P : Plan) (L : Network) (R : Reading) (said line : List ℕ) → NoEnd line → bytes_on P (trace_of L R said) line ≡ trace_of L (bytes_read R line) said
unfolding bytes_on bytes_read
all_read P L R said [] h = refl
all_read P L R said (b ∷ bs) h =
    ap (λ t. bytes_on P t bs) (one-read P L R said b (ne_eqb b 10 (h 0 (omega arith))))
    ∙ all_read P L (byte_read R b) said bs (λ k l. h (suc k) (omega (arith, l)))

pub line_is : LineIs
unfolding bytes_on byte_on
line_is P L said line h =
    let e : bytes_on P (trace_of L nothing said) line ≡ trace_of L (line_read line) said = all_read P L nothing said line h in
    (pieces P (trace_of L nothing said) line (10 ∷ []) ∙ ap (λ t. bytes_on P t (10 ∷ [])) e, e)

pub lines_are : LinesAre
unfolding bytes_on lines_text lines_on
lines_are P L said [] h = ap (λ s. trace_of L nothing s) (sym (append-nil said))
lines_are P L said (line ∷ lines) h =
    pieces P (trace_of L nothing said) (line ++ (10 ∷ [])) (lines_text lines)
    ∙ ap (λ t. bytes_on P t (lines_text lines)) (line_is P L said line h.0).0
    ∙ lines_are P M (said ++ text) lines h.1
    ∙ ap (λ s. trace_of (lines_on P M lines).network nothing s) (append_assoc said text (lines_on P M lines).text)
  where
    M : Network
    M = (line_on P L (line_read line)).network

    text : List ℕ
    text = (line_on P L (line_read line)).text

-- a byte in front of an input: an end is a line of its own, and another byte goes to the first line
no_end_more : (b : ℕ) (line : List ℕ) → (b ≡ 10 → ⊥) → NoEnd line → NoEnd (b ∷ line)
no_end_more b line n h zero l = n
no_end_more b line n h (suc k) l = h k (omega (arith, l))

in_front : (b : ℕ) (bs : List ℕ) (lines : List (List ℕ)) (last : List ℕ) → (b ≡ 10 → ⊥) → NoEnds lines → NoEnd last → bs ≡ lines_text lines ++ last → Cut (b ∷ bs)
unfolding lines_text
in_front b bs [] last n h g e = record { lines = []; last = b ∷ last; no_ends = h; no_end = no_end_more b last n g; is = ap (λ xs. b ∷ xs) e }
in_front b bs (line ∷ lines) last n h g e =
    record { lines = (b ∷ line) ∷ lines; last = last; no_ends = (no_end_more b line n h.0, h.1); no_end = g; is = ap (λ xs. b ∷ xs) e }

pub each_cut : EachCut
unfolding lines_text
each_cut [] = record { lines = []; last = []; no_ends = omega arith; no_end = λ k l. let y : ⊥ = omega (arith, l) in absurd y; is = refl }
each_cut (b ∷ bs) = go (eqb b 10) refl (each_cut bs)
  where
    go : (u : Bool) → eqb b 10 ≡ u → Cut bs → Cut (b ∷ bs)
    go true e c =
        record {
          lines = [] ∷ c.lines;
          last = c.last;
          no_ends = (λ k l. let y : ⊥ = omega (arith, l) in absurd y, c.no_ends);
          no_end = c.no_end;
          is = ap₂ (λ x xs. x ∷ xs) (eqb-true b 10 e) c.is;
        }
    go false e c = in_front b bs c.lines c.last (eqb-false b 10 e) c.no_ends c.no_end c.is

one_line_more : (lines : List (List ℕ)) (last : List ℕ) → lines_text lines ++ last ++ (10 ∷ []) ≡ lines_text (lines ++ (last ∷ []))
unfolding lines_text
one_line_more [] last = sym (append-nil (last ++ (10 ∷ [])))
one_line_more (line ∷ lines) last =
    ap (λ xs. xs ++ (10 ∷ [])) (append_assoc (line ++ (10 ∷ [])) (lines_text lines) last)
    ∙ append_assoc (line ++ (10 ∷ [])) (lines_text lines ++ last) (10 ∷ [])
    ∙ ap (λ xs. line ++ (10 ∷ []) ++ xs) (one_line_more lines last)

one-end-more : (lines : List (List ℕ)) (last : List ℕ) → NoEnds lines → NoEnd last → NoEnds (lines ++ (last ∷ []))
one-end-more [] last h g = (g, omega arith)
one-end-more (line ∷ lines) last h g = (h.0, one-end-more lines last h.1 g)

pub input_is : InputIs
input_is P L bs c = (
  ap (λ xs. bytes_on P (trace_of L nothing []) xs) c.is
      ∙ pieces P (trace_of L nothing []) (lines_text c.lines) c.last
      ∙ ap (λ t. bytes_on P t c.last) (lines_are P L [] c.lines c.no_ends)
      ∙ (line_is P (lines_on P L c.lines).network (lines_on P L c.lines).text c.last c.no_end).1,
  ap (λ xs. bytes_on P (trace_of L nothing []) xs) (ap (λ xs. xs ++ (10 ∷ [])) c.is ∙ one_line_more c.lines c.last)
      ∙ lines_are P L [] (c.lines ++ (c.last ∷ [])) (one-end-more c.lines c.last c.no_ends c.no_end),
)

-- ---- commands

command_is : (P : Plan) (L : Network) (c : Command) → line_on P L (command_read c) ≡ command_on P L c
unfolding line_on is_command act_on
command_is P L (feed i v) = rw (and-false (eqb (feed_answer P L i v) 0))
command_is P L (drain j) = rw (and-true (eqb (drain_on P L j).answer 0))
command_is P L (fire k) = rw (and-false (eqb (fire_answer P L k) 0))
command_is P L round = refl

other_is : (P : Plan) (L : Network) (R : Reading) → is_command R ≡ false → line_on P L R ≡ line_of L (answer_text 17)
unfolding line_on
other_is P L R e = rw e

pub commands_are : CommandsAre
commands_are P L = (command_is P L, other_is P L)

pub texts_are : TextsAre
texts_are P L = (λ c h. ap (λ R. line_on P L R) (each_read c h).0 ∙ command_is P L c, λ line h. other_is P L (line_read line) (none line h (is_command (line_read line)) refl))
  where
    none : (line : List ℕ) → ((c : Command) → Small c → line ≢ command_text c) → (u : Bool) → is_command (line_read line) ≡ u → u ≡ false
    none line h false e = refl
    none line h true e = let z = only_those line e in absurd (h z.0 z.1 z.2)
