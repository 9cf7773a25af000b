-- What the private functions of the finder leave, pass by pass. No public promise speaks of it: those are in Found.
use Rattle.std.specs.Prelude.{◌≡◌, ℕ, zero, suc, ◌+◌, ◌-◌, ◌/◌, ◌%◌, ◌^◌, ◌<◌, ◌≤◌, Bool, true, cond, List, length, map, replicate, ◌==◌, bit_and, bit_or, count_ones, leb, nat_lt, slice_index, slice_set}
use Rattle.base.specs.Checks.{every}
use Rattle.base.specs.Lists.{fill}
use Rattle.codes.specs.Rows.{count_of}
use Rattle.netlist.specs.declared.Netlist.{Netlist}
use Rattle.netlist.specs.Netlists.{record_of}
use Rattle.queues.specs.Lists.{listed, laid, one_if}
use Rattle.queues.specs.Queues.{Queue, channel, part_of, inputs_of, channels_of, channels_to}
use Rattle.queues.specs.declared.Queues.{Queues}
use Rattle.queues.specs.declared.channels.Uses.{Uses}

-- the drawing is within its numbers, and each part number is one
pub record Fit (n : Netlist) (part : List ℕ) : Type 0 where
  pub nodes : n.nodes ≤ 1024
  pub parts : every (λ i. leb (part_of part i) 31) n.nodes ≡ true

-- some queues, put behind those that are there: all are counted, and the arrays hold as many as they can
abbrev pub put_all : List Queue → Queues → Queues
put_all qs s =
    record s {
      count = s.count + length qs;
      node = laid (λ q. q.node) s.count qs s.node;
      from = laid (λ q. q.from) s.count qs s.from;
      into = laid (λ q. q.into) s.count qs s.into;
    }

-- the same of one queue
abbrev pub put : ℕ → ℕ → ℕ → Queues → Queues
put node from into s =
    record s {
      count = s.count + 1;
      node = slice_set s.node s.count node;
      from = slice_set s.from s.count from;
      into = slice_set s.into s.count into;
    }

-- the words of some nodes' uses, and the numbers of their first channels
abbrev pub marks_of : List Uses → List ℕ
marks_of = map (λ u. u.mark)

abbrev pub firsts_of : List Uses → List ℕ
firsts_of = map (λ u. u.first)

-- bit p of a word
abbrev pub bit_of : ℕ → ℕ → Bool
bit_of w p = w / 2 ^ p % 2 == 1

-- node x is used in part p: bit p of its word is set
abbrev pub mark_if : Bool → ℕ → ℕ → List ℕ → List ℕ
mark_if used x p marks = cond used (slice_set marks x (bit_or (slice_index marks x) (2 ^ p))) marks

-- the operands of one node of part p, whose code takes m of the fields a, b, c
abbrev pub mark_three : ℕ → ℕ → ℕ → ℕ → ℕ → List ℕ → List ℕ
mark_three m a b c p marks = mark_if (nat_lt 2 m) c p (mark_if (nat_lt 1 m) b p (mark_if (nat_lt 0 m) a p marks))

-- those of the first i nodes
unfoldable pub marked : Netlist → List ℕ → ℕ → List ℕ → List ℕ
marked n part zero marks = marks
marked n part (suc i) marks = mark_three (count_of (record_of n i).code) (record_of n i).a (record_of n i).b (record_of n i).c (part_of part i) (marked n part i marks)

-- the word without the node's own part
abbrev pub others : ℕ → ℕ → ℕ
others word own = bit_and word (2 ^ 32 - 1 - 2 ^ own)

-- by its word, the channels of node i to the first p parts
abbrev pub channels_by : ℕ → ℕ → ℕ → ℕ → List Queue
channels_by word own i p = listed p (λ r. one_if (bit_of (others word own) r) (record { kind = channel; node = i; from = own; into = r }))

-- how many of a node's other parts stand before part p
abbrev pub before : ℕ → ℕ → ℕ → ℕ
before word own p = count_ones (others word own % 2 ^ p)

-- the marks tell how many of a node's channels stand before each, and its first channel has its number
pub record Numbered (n : Netlist) (part : List ℕ) (u : List Uses) : Type 0 where
  pub told : (i p : ℕ) → i < n.nodes → p < 32 → before (slice_index (marks_of u) i) (part_of part i) p ≡ length (channels_of n part i p)
  pub first : firsts_of u ≡ fill (λ i. length (inputs_of n part) + length (channels_to n part i)) n.nodes (replicate 1024 0)
