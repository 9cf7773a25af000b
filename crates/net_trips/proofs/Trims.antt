-- What stands past a netlist's counts does not matter: the checks are good with zeros there, and a netlist with zeros there is its own.
use mathlib.Core.Path.{◌≡◌, ◌∙◌, ap}
use mathlib.Core.Bool.{true}
use mathlib.Core.List.{List}
use Prim.Native.Nat.{ℕ, ◌<◌, ◌≤◌}
use lib.Dec.{ltb}
use lib.ListN.{length, get_or}
use Rattle.base.specs.Arrays.{cleared}
use Rattle.base.specs.Checks.{AllGood}
use Rattle.base.proofs.Arrays.{at_cleared, take-cleared, cleared-same}
use Rattle.base.proofs.First.{lowest-good, good-lowest}
use Rattle.codes.specs.declared.Record.{Record}
use Rattle.codes.specs.Rows.{row_at, place_of}
use Rattle.codes.proofs.Apart.{apart, field_below}
use Rattle.codes.specs.Records.{record_good}
use Rattle.layout.specs.Labels.{label_check}
use Rattle.netlist.specs.declared.Netlist.{Netlist}
use Rattle.netlist.specs.Netlists.{record_of, output_of, labels_of}
use Rattle.netlist.specs.Checks.{net_checks}
use Rattle.netlist.proofs.Numbers.{Within}
use Rattle.net_trips.specs.Typed.{Typed}
use Rattle.net_trips.specs.Trips.{trimmed, Clean}

-- a good record looks at widths of nodes alone
pub same_widths : (ws vs : List ℕ) (nodes i : ℕ) (r : Record) → 0 < nodes → ((x : ℕ) → x < nodes → get_or vs x 0 ≡ get_or ws x 0) → record_good ws nodes i r ≡ true → record_good vs nodes i r ≡ true
unfolding record_good
same_widths ws vs nodes i r h same e =
    let g = apart ws nodes i r e in
    let count : ℕ = (row_at (place_of r.code)).operands in
    let la : r.a < nodes = field_below (ltb 0 count) nodes i r.code r.a h g.a_good in
    let lb : r.b < nodes = field_below (ltb 1 count) nodes i r.code r.b h g.b_good in
    let lc : r.c < nodes = field_below (ltb 2 count) nodes i r.code r.c h g.c_good in
    rw (same r.a la, same r.b lb, same r.c lc) e

module _ (n : Netlist) (w : Within n) where
  record_trimmed : (i : ℕ) → i < n.nodes → record_of (trimmed n) i ≡ record_of n i
  unfolding trimmed
  record_trimmed i h =
      let k = w.nodes in
      rw (
        at_cleared 1024 n.nodes i n.code h k,
        at_cleared 1024 n.nodes i n.width h k,
        at_cleared 1024 n.nodes i n.a h k,
        at_cleared 1024 n.nodes i n.b h k,
        at_cleared 1024 n.nodes i n.c h k,
        at_cleared 1024 n.nodes i n.k h k,
      )

  labels-trimmed : n.labels ≤ length n.label → labels_of (trimmed n) ≡ labels_of n
  unfolding trimmed
  labels-trimmed l = take-cleared 4096 n.labels n.label l w.labels

  pub still_good : n.labels ≤ length n.label → AllGood (net_checks n) → AllGood (net_checks (trimmed n))
  unfolding trimmed
  still_good l g =
      let vs : List ℕ = cleared 1024 n.nodes n.width in
      let records : (i : ℕ) → i < n.nodes → record_good vs n.nodes i (record_of (trimmed n) i) ≡ true =
      λ i h.
      ap (λ r. record_good vs n.nodes i r) (record_trimmed i h)
      ∙ same_widths n.width vs n.nodes i (record_of n i) w.some (λ x b. at_cleared 1024 n.nodes x n.width b w.nodes) (lowest-good (λ j. record_good n.width n.nodes j (record_of n j)) n.nodes g.1.0 i h) in
      let outputs : (j : ℕ) → j < n.outputs → ltb (output_of (trimmed n) j) n.nodes ≡ true =
      λ j h.
      ap (λ x. ltb x n.nodes) (at_cleared 64 n.outputs j n.output h w.outputs)
      ∙ lowest-good (λ i. ltb (output_of n i) n.nodes) n.outputs g.1.1.0 j h in (
        g.0,
        (
          good-lowest (λ i. record_good vs n.nodes i (record_of (trimmed n) i)) n.nodes records,
          (
            good-lowest (λ j. ltb (output_of (trimmed n) j) n.nodes) n.outputs outputs,
            (ap (λ b. label_check n.nodes b) (labels-trimmed l) ∙ g.1.1.1.0, tt),
          ),
        ),
      )

-- a clean netlist is its own
pub trimmed-same : (n : Netlist) → Within n → Typed n → Clean n → trimmed n ≡ n
unfolding trimmed
trimmed-same n w ty c =
    rw (
      cleared-same 1024 n.nodes n.code ty.code.long w.nodes c.code,
      cleared-same 1024 n.nodes n.width ty.width.long w.nodes c.width,
      cleared-same 1024 n.nodes n.a ty.a.long w.nodes c.a,
      cleared-same 1024 n.nodes n.b ty.b.long w.nodes c.b,
      cleared-same 1024 n.nodes n.c ty.c.long w.nodes c.c,
      cleared-same 1024 n.nodes n.k ty.k.long w.nodes c.k,
      cleared-same 64 n.outputs n.output ty.output.long w.outputs c.output,
      cleared-same 4096 n.labels n.label ty.label.long w.labels c.label,
    )
