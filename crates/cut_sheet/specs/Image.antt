-- The cut sheet's layout (outline, "The cut sheet"): a cut as bytes. From byte 0 one part number for each node, one depth for each queue, labels, last the trailer.
use Rattle.std.specs.Prelude.{List, ◌++◌, ℕ, take}
use Rattle.layout.specs.Trailer.{trailer_bytes}
use Rattle.cut.specs.declared.Cut.{Cut}
use Rattle.cut.specs.Cuts.{cut_labels}

-- the sheet's second letter, C
abbrev pub cut_letter : ℕ
cut_letter = 0x43

unfoldable pub cut_image : Cut → List ℕ
cut_image c = take c.nodes c.part ++ take c.queues c.depth ++ cut_labels c ++ trailer_bytes c.nodes c.queues c.labels cut_letter
