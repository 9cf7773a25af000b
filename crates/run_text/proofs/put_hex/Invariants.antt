-- The loop keeps: what is printed so far is 'x' and the bytes passed.
use Rattle.std.proofs.Common.{take}
use Rattle.std.specs.List.{flat_map}
use Rattle.std.specs.Io.KnownBytes.{Appends}
use Rattle.run_text.specs.Texts.{hex_of}
use Rattle.run_text.proofs.put_hex.Given as goal

abbrev pub invariant-loop-x : goal.invariant-loop-x
invariant-loop-x g l = Appends (g.W.Write.contents l.initial.out) (g.W.Write.contents l.out) (flat_map hex_of (take l.x-index l.a))
