-- A cut drawing as a network of parts and queues, and what such a network must be (outline, "The cut sheet").
use Rattle.std.specs.Prelude.{◌≡◌, ◌⊎◌, Bool, ℕ, ◌+◌, ◌≤◌, ◌<◌}
use mathlib.Core.List.{Memᴰ}
use Rattle.cycles.specs.Drawings.{input, Drawing, operands, Ordered}

-- A queue goes from one part into another. What is outside has a number that is not below `parts`: outside puts on an input's queue and takes from an
-- output's, and a number past the queues has the outside at both ends.
pub record Net : Type 0 where
  pub draw : Drawing
  pub parts : ℕ
  -- the part of a node
  pub part : ℕ → ℕ
  -- the first `ins` of the queues are the inputs', the last `outs` the outputs'; the channels stand between
  pub ins : ℕ
  pub outs : ℕ
  pub queues : ℕ
  -- of a queue: its node, the part that puts, the part that takes, its depth
  pub node : ℕ → ℕ
  pub from : ℕ → ℕ
  pub into : ℕ → ℕ
  pub depth : ℕ → ℕ
  -- `via p i`: the queue from which part p reads node i, an IN of its own or a node of another part
  pub via : ℕ → ℕ → ℕ
  -- whether node i may have the value x, by its width
  pub allow : ℕ → ℕ → Bool
  -- the cycle limit
  pub limit : ℕ

-- part p reads node i from a queue of its own
pub record Link (N : Net) (p i : ℕ) : Type 0 where
  pub into_is : N.into (N.via p i) ≡ p
  pub node_is : N.node (N.via p i) ≡ i

-- an IN has a queue that is put on from outside
pub record Source (N : Net) (i : ℕ) : Type 0 where
  pub link : Link N (N.part i) i
  pub outside : N.parts ≤ N.from (N.via (N.part i) i)

-- node i is seen in part p: it is there, or has a queue into p
pub record Seen (N : Net) (p i : ℕ) : Type 0 where
  pub is_node : i < N.draw.nodes
  pub where_is : (N.part i ≡ p) ⊎ Link N p i

-- what a cut must be
pub record Good (N : Net) : Type 0 where
  pub ordered : Ordered N.draw
  -- an operand is in its reader's part, or has a queue there; so has an IN
  pub linked : (b a : ℕ) → b < N.draw.nodes → Memᴰ a (operands (N.draw.kind b)) → (N.part a ≡ N.part b) ⊎ Link N (N.part b) a
  pub inputs : (i : ℕ) → i < N.draw.nodes → N.draw.kind i ≡ input → Source N i
  pub part_ok : (i : ℕ) → i < N.draw.nodes → N.part i < N.parts
  -- a queue from outside into a part is an IN's, and the one from which it is read
  pub source_node : (q : ℕ) → N.parts ≤ N.from q → N.into q < N.parts → N.node q < N.draw.nodes
  pub source_kind : (q : ℕ) → N.parts ≤ N.from q → N.into q < N.parts → N.draw.kind (N.node q) ≡ input
  pub source_via : (q : ℕ) → N.parts ≤ N.from q → N.into q < N.parts → N.via (N.part (N.node q)) (N.node q) ≡ q
  -- a queue that a part puts on carries a node of that part
  pub put_node : (q : ℕ) → N.from q < N.parts → N.node q < N.draw.nodes
  pub put_part : (q : ℕ) → N.from q < N.parts → N.part (N.node q) ≡ N.from q
  -- inputs first, outputs last
  pub put_queue : (q : ℕ) → N.from q < N.parts → q < N.queues
  pub put_after : (q : ℕ) → N.from q < N.parts → N.ins ≤ q
  pub after_put : (q : ℕ) → N.ins ≤ q → q < N.queues → N.from q < N.parts
  pub take_queue : (q : ℕ) → N.into q < N.parts → q < N.queues
  pub take_before : (q : ℕ) → N.into q < N.parts → q + N.outs < N.queues
  pub before_take : (q : ℕ) → q + N.outs < N.queues → N.into q < N.parts
  pub ends_fit : N.ins + N.outs ≤ N.queues
  pub deep : (q : ℕ) → q < N.queues → 0 < N.depth q
