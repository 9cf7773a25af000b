-- Values that the code's types hold: a cut whose arrays have their lengths, with elements of their types.
use Rattle.base.specs.Arrays.{Array}
use Rattle.cut.specs.declared.Cut.{Cut}

pub record Typed (c : Cut) : Type 0 where
  pub part : Array 1024 256 c.part
  pub depth : Array 512 256 c.depth
  pub label : Array 4096 256 c.label
