-- `texts::find_text` meets its contract. The walk from here on is the whole walk; an entry that lies within the section ends further on.
use Rattle.std.proofs.Common.{◌≡◌, ◌-◌, ◌≤◌, length}
use Rattle.texts.specs.Texts.{text_from, text_of}
use Rattle.texts.proofs.find_text.Given as goal

abbrev pub invariant-loop-entry : goal.invariant-loop-entry
invariant-loop-entry l = (l.i ≤ length l.s) × (text_from (length l.s - l.i) l.s l.node l.i ≡ text_of l.s l.node)

abbrev pub decreases-loop-entry : goal.decreases-loop-entry
decreases-loop-entry l = length l.s - l.i
