-- A cut: each node's part, each queue's depth, and its label bytes.
use Rattle.std.specs.Prelude.{List, ℕ, get_or, take, replicate}
use Rattle.cut.specs.declared.Cut.{Cut}

-- the depth of a queue
abbrev pub depth_of : Cut → ℕ → ℕ
depth_of c q = get_or c.depth q 0

-- the labels section
abbrev pub cut_labels : Cut → List ℕ
cut_labels c = take c.labels c.label

-- zeros alone
unfoldable pub no_cut : Cut
no_cut =
    record {
      nodes = 0;
      part = replicate 1024 0;
      queues = 0;
      depth = replicate 512 0;
      labels = 0;
      label = replicate 4096 0;
    }
