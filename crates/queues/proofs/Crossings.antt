-- The channels by the marks are the channels by the operands: a bit is set exactly where the node is used.
use Rattle.std.proofs.Common.{◌≡◌, ℕ, zero, suc, ◌^◌, ◌<◌, ◌≤◌, false, not, ◌&&◌, eqb, leb, List, length, get_or, replicate, ap, ◌∙◌, arith, leb-true}
use native.Mathlib.Nat.{zero-div}
use lib.ListN.{length-replicate}
use Rattle.base.proofs.Tests.{every_at}
use Rattle.netlist.specs.declared.Netlist.{Netlist}
use Rattle.queues.specs.Lists.{one_if}
use Rattle.queues.specs.Queues.{part_of, channel_at, crosses, channels_of}
use Rattle.queues.specs.Pass.{Fit, bit_of, marked, others, channels_by, before}
use Rattle.queues.proofs.Listed.{listed_same}
use Rattle.queues.proofs.Words.{others-bit, ones-before}
use Rattle.queues.proofs.Marks.{marks_at}

no_mark : (m j k : ℕ) → bit_of (get_or (replicate m 0) j 0) k ≡ false
no_mark zero j k = rw (zero-div (2 ^ k))
no_mark (suc m) zero k = rw (zero-div (2 ^ k))
no_mark (suc m) (suc j) k = no_mark m j k

module _ (n : Netlist) (part : List ℕ) (f : Fit n part) where
  -- a part number that fits
  pub below_32 : (j : ℕ) → j < n.nodes → get_or part j 0 < 32
  below_32 j l =
      let g : get_or part j 0 ≤ 31 = leb-true (get_or part j 0) 31 (every_at (λ i. leb (get_or part i 0) 31) n.nodes f.parts j l) in
      omega arith

  module _ (marks : List ℕ) (e : marks ≡ marked n part n.nodes (replicate 1024 0)) where
    crossed_is : (i p : ℕ) → i < n.nodes → p < 32 → bit_of (others (get_or marks i 0) (part_of part i)) p ≡ crosses n part i p
    crossed_is i p l k =
        others-bit (get_or marks i 0) (part_of part i) p (below_32 i l) k
        ∙ ap (λ y. not (eqb (part_of part i) p) && y)
        (rw e (marks_at n part n.nodes i p (replicate 1024 0) (length-replicate {A = ℕ} 1024 0) (no_mark 1024) (omega (arith, f.nodes)) k below_32))

    pub by_is : (i p : ℕ) → i < n.nodes → p ≤ 32 → channels_by (get_or marks i 0) (part_of part i) i p ≡ channels_of n part i p
    by_is i p l k =
        listed_same p (λ r. one_if (bit_of (others (get_or marks i 0) (part_of part i)) r) (channel_at part i r)) (λ r. one_if (crosses n part i r) (channel_at part i r))
        (λ r u. ap (λ t. one_if t (channel_at part i r)) (crossed_is i r l (omega arith)))

    -- and the marks tell how many stand before each
    pub told_is : (i p : ℕ) → i < n.nodes → p < 32 → before (get_or marks i 0) (part_of part i) p ≡ length (channels_of n part i p)
    told_is i p l k = ones-before (λ r. channel_at part i r) (others (get_or marks i 0) (part_of part i)) p ∙ ap length (by_is i p l (omega arith))
