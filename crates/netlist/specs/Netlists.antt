-- A netlist: its nodes' records, its outputs and its label bytes.
use Rattle.std.specs.Prelude.{List, ℕ, get_or, take, replicate}
use Rattle.codes.specs.declared.Record.{Record}
use Rattle.netlist.specs.declared.Netlist.{Netlist}

-- a netlist by its fields
abbrev pub net_with : ℕ → List ℕ → List ℕ → List ℕ → List ℕ → List ℕ → List ℕ → ℕ → List ℕ → ℕ → List ℕ → Netlist
net_with nodes code width a b c k outputs output labels label =
    record {
      nodes = nodes;
      code = code;
      width = width;
      a = a;
      b = b;
      c = c;
      k = k;
      outputs = outputs;
      output = output;
      labels = labels;
      label = label;
    }

-- a node's record, from the lists of its fields
abbrev pub record_in : List ℕ → List ℕ → List ℕ → List ℕ → List ℕ → List ℕ → ℕ → Record
record_in code width a b c k i =
    record {
      code = get_or code i 0;
      width = get_or width i 0;
      a = get_or a i 0;
      b = get_or b i 0;
      c = get_or c i 0;
      k = get_or k i 0;
    }

abbrev pub record_of : Netlist → ℕ → Record
record_of n i = record_in n.code n.width n.a n.b n.c n.k i

-- the node that an output names
abbrev pub output_in : List ℕ → ℕ → ℕ
output_in output j = get_or output j 0

abbrev pub output_of : Netlist → ℕ → ℕ
output_of n j = output_in n.output j

-- the labels section
abbrev pub labels_of : Netlist → List ℕ
labels_of n = take n.labels n.label

-- zeros alone
unfoldable pub no_net : Netlist
no_net =
    record {
      nodes = 0;
      code = replicate 1024 0;
      width = replicate 1024 0;
      a = replicate 1024 0;
      b = replicate 1024 0;
      c = replicate 1024 0;
      k = replicate 1024 0;
      outputs = 0;
      output = replicate 64 0;
      labels = 0;
      label = replicate 4096 0;
    }
