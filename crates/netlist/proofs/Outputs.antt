-- Check 5 as a search of the outputs that count.
use mathlib.Core.Path.{◌≡◌, refl, ◌∙◌, ap}
use mathlib.Core.Bool.{Bool, true, false, not}
use Prim.Native.Nat.{ℕ, ◌≤◌}
use borrow.Author.Tests.{ltb-true, ltb-false, lt-leb, le-leb}
use lib.Dec.{ltb, leb}
use lib.ListN.{length, take}
use lib.Seq.{length-take-le, get_or-take}
use Rattle.std.specs.Prelude.{position}
use Rattle.base.specs.Checks.{lowest}
use Rattle.base.proofs.First.{position_lowest}
use Rattle.netlist.specs.declared.Netlist.{Netlist}
use Rattle.netlist.specs.Netlists.{output_of}
use Rattle.netlist.specs.Checks.{outputs_check}

past : (x n : ℕ) (b : Bool) → ltb x n ≡ b → leb n x ≡ not b
past x n true e = lt-leb n x (ltb-true x n e)
past x n false e = le-leb n x (ltb-false x n e)

pub outputs_found : (n : Netlist) → n.outputs ≤ length n.output → position (λ x. leb n.nodes x) (take n.outputs n.output) ≡ outputs_check n
outputs_found n h =
    let long : length (take n.outputs n.output) ≡ n.outputs = length-take-le n.outputs n.output h in
    position_lowest (λ x. leb n.nodes x) (λ j. ltb (output_of n j) n.nodes) (take n.outputs n.output)
    (λ i l. ap (λ x. leb n.nodes x) (get_or-take n.outputs n.output i 0 (rw long at l)) ∙ past (output_of n i) n.nodes (ltb (output_of n i) n.nodes) refl)
    ∙ ap (λ k. lowest (λ j. ltb (output_of n j) n.nodes) k) long
