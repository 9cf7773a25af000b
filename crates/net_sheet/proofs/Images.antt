-- The sheet as the writer puts it: how long it is, and that its sections put one behind the other are the image.
use mathlib.Core.Path.{◌≡◌, refl}
use mathlib.Core.List.{List}
use Prim.Native.Nat.{ℕ, ◌+◌, ◌*◌, ◌≤◌}
use lib.ListN.{length}
use lib.Seq.{length-take-le}
use Rattle.base.specs.Bytes.{le2}
use Rattle.base.specs.Lists.{patch}
use Rattle.base.proofs.Flat.{flat-length}
use Rattle.layout.specs.Trailer.{trailer_bytes}
use Rattle.layout.specs.Write.{placed}
use Rattle.layout.proofs.Sheets.{sheet-length, put-sheet}
use Rattle.netlist.specs.declared.Netlist.{Netlist}
use Rattle.netlist.specs.Netlists.{record_of, output_of, labels_of}
use Rattle.net_sheet.specs.Image.{record_bytes, record_section, output_section, net_letter, net_image}

pub records-length : (n : Netlist) → length (record_section n) ≡ n.nodes * 12
records-length n = flat-length (λ i. record_bytes (record_of n i)) 12 (λ i. refl) n.nodes

pub outputs-length : (n : Netlist) → length (output_section n) ≡ n.outputs * 2
outputs-length n = flat-length (λ j. le2 (output_of n j)) 2 (λ j. refl) n.outputs

pub labels_length : (n : Netlist) → n.labels ≤ length n.label → length (labels_of n) ≡ n.labels
labels_length n h = length-take-le n.labels n.label h

-- the sheet, whose sections these are
pub image-length : (n : Netlist) → n.labels ≤ length n.label → length (net_image n) ≡ n.nodes * 12 + n.outputs * 2 + n.labels + 16
unfolding net_image
image-length n h = sheet-length (record_section n) (output_section n) (labels_of n) (n.nodes * 12) (n.outputs * 2) n.labels net_letter (records-length n) (outputs-length n) (labels_length n h)

-- the four stretches, each put behind the one before
pub put_all : (n : Netlist) (old one two three : List ℕ) → n.labels ≤ length n.label → n.nodes * 12 + n.outputs * 2 + n.labels + 16 ≤ length old
    → one ≡ patch old 0 (record_section n)
    → two ≡ patch one (n.nodes * 12) (output_section n)
    → three ≡ patch two (n.nodes * 12 + n.outputs * 2) (labels_of n)
    → placed three (n.nodes * 12 + n.outputs * 2 + n.labels) (trailer_bytes (n.nodes * 12) (n.outputs * 2) n.labels net_letter) ≡ patch old 0 (net_image n)
unfolding net_image
put_all n old one two three h room p q r =
    put-sheet (record_section n) (output_section n) (labels_of n) (n.nodes * 12) (n.outputs * 2) n.labels net_letter (records-length n) (outputs-length n) (labels_length n h) old one two three room p q r
