-- What the arrays of found queues hold, where there is room for all: each queue's own.
use Rattle.std.proofs.Common.{◌≡◌, ℕ, ◌<◌, ◌≤◌, true, ◌&&◌, leb, List, length, get_or, replicate, sym, refl, ap, ◌∙◌, zero-add, arith, le-leb}
use lib.ListN.{length-replicate}
use Rattle.base.specs.Checks.{every}
use Rattle.base.proofs.Tests.{and_true}
use Rattle.netlist.specs.declared.Netlist.{Netlist}
use Rattle.queues.specs.Queues.{Queue, part_of, parts_of, queues_of, queue_at, input, outside}
use Rattle.queues.specs.Found.{column, parts_fit, found, queues_found}
use Rattle.queues.proofs.Listed.{laid_at}

column_at : (f : Queue → ℕ) (qs : List Queue) (q : ℕ) → q < length qs → length qs ≤ 512 → get_or (column f qs) q 0 ≡ f (queue_at qs q)
column_at f qs q h l =
    ap (λ k. get_or (column f qs) k 0) (sym (zero-add q))
    ∙ laid_at f (record { kind = input; node = 0; from = outside; into = outside }) 0 qs (replicate 512 0) q h (rw (length-replicate {A = ℕ} 512 0) (omega arith))

module _ (n : Netlist) (part : List ℕ) where
  pub count_is : (found n part).count ≡ length (queues_of n part)
  unfolding found
  count_is = refl

  pub parts_is : (found n part).parts ≡ parts_of n part
  unfolding found
  parts_is = refl

  pub node_at : (q : ℕ) → q < length (queues_of n part) → length (queues_of n part) ≤ 512 → get_or (found n part).node q 0 ≡ (queue_at (queues_of n part) q).node
  unfolding found
  node_at = column_at (λ q. q.node) (queues_of n part)

  pub from_at : (q : ℕ) → q < length (queues_of n part) → length (queues_of n part) ≤ 512 → get_or (found n part).from q 0 ≡ (queue_at (queues_of n part) q).from
  unfolding found
  from_at = column_at (λ q. q.from) (queues_of n part)

  pub into_at : (q : ℕ) → q < length (queues_of n part) → length (queues_of n part) ≤ 512 → get_or (found n part).into q 0 ≡ (queue_at (queues_of n part) q).into
  unfolding found
  into_at = column_at (λ q. q.into) (queues_of n part)

  -- where the parts fit the queues are found
  pub found_when : n.nodes ≤ 1024 → n.outputs ≤ 64 → every (λ i. leb (part_of part i) 31) n.nodes ≡ true → queues_found n part ≡ found n part
  unfolding queues_found
  found_when a b c =
      let t : parts_fit n part ≡ true = and_true (leb n.nodes 1024 && leb n.outputs 64) (every (λ i. leb (part_of part i) 31) n.nodes) (and_true (leb n.nodes 1024) (leb n.outputs 64) (le-leb n.nodes 1024 a) (le-leb n.outputs 64 b)) c in
      rw t
