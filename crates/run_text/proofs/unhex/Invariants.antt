-- The loop keeps: the first i bytes are filled.
use Rattle.std.proofs.Common.{◌≡◌}
use Rattle.base.specs.Lists.{fill}
use Rattle.run_text.specs.Texts.{byte_of}
use Rattle.run_text.proofs.unhex.Given as goal

abbrev pub invariant-loop-i : goal.invariant-loop-i
invariant-loop-i l = l.bytes ≡ fill (byte_of l.hex) l.i l.initial.bytes
