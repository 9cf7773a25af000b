-- Values that the code's types hold: a netlist whose arrays have their lengths, with elements of their types.
use Rattle.base.specs.Arrays.{Array}
use Rattle.netlist.specs.declared.Netlist.{Netlist}

pub record Typed (n : Netlist) : Type 0 where
  pub code : Array 1024 256 n.code
  pub width : Array 1024 256 n.width
  pub a : Array 1024 65536 n.a
  pub b : Array 1024 65536 n.b
  pub c : Array 1024 65536 n.c
  pub k : Array 1024 4294967296 n.k
  pub output : Array 64 65536 n.output
  pub label : Array 4096 256 n.label
