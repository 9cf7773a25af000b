-- The queues depend on the parts of the nodes and of the nodes that outputs name, and on nothing else that a list of part numbers holds. Definition by definition.
use Rattle.std.proofs.Common.{◌≡◌, ℕ, suc, ◌<◌, ◌≤◌, Bool, true, false, cond, not, ◌&&◌, eqb, ltb, List, [], ◌∷◌, length, get_or, replicate, refl, ap, ◌∙◌, le_refl, arith, ltb-true}
use Rattle.base.proofs.Fill.{fill-same}
use Rattle.codes.specs.Rows.{is_in, count_of}
use Rattle.codes.specs.Records.{operands_in}
use Rattle.netlist.specs.declared.Netlist.{Netlist}
use Rattle.netlist.specs.Netlists.{record_of, output_of}
use Rattle.queues.specs.Lists.{one_if, member}
use Rattle.queues.specs.Queues.{part_of, parts_of, used_in, crosses, input_at, channel_at, output_at, inputs_to, channels_of, channels_to, outputs_of, queues_of, channel_place}
use Rattle.queues.specs.Found.{no_queue, input_of, via_of, found}
use Rattle.queues.proofs.Listed.{listed_same, some_same, largest-same}

-- two lists of part numbers give each node the same part, and each node that an output names
pub record SameParts (n : Netlist) (part part' : List ℕ) : Type 0 where
  pub nodes : (i : ℕ) → i < n.nodes → get_or part' i 0 ≡ get_or part i 0
  pub outputs : (j : ℕ) → j < n.outputs → get_or part' (output_of n j) 0 ≡ get_or part (output_of n j) 0

module _ (n : Netlist) (part part' : List ℕ) (s : SameParts n part part') where
  pub parts_same : parts_of n part' ≡ parts_of n part
  parts_same = ap suc (largest-same n.nodes (part_of part') (part_of part) s.nodes)

  used-same : (i p : ℕ) → used_in n part' i p ≡ used_in n part i p
  used-same i p =
      some_same n.nodes (λ b. eqb (part_of part' b) p && member i (operands_in (record_of n b))) (λ b. eqb (part_of part b) p && member i (operands_in (record_of n b)))
      (λ b l. ap (λ x. eqb x p && member i (operands_in (record_of n b))) (s.nodes b l))

  crosses-same : (i p : ℕ) → i < n.nodes → crosses n part' i p ≡ crosses n part i p
  crosses-same i p l = rw (s.nodes i l, used-same i p)

  inputs-same : (i : ℕ) → i ≤ n.nodes → inputs_to n part' i ≡ inputs_to n part i
  inputs-same i h =
      listed_same i (λ j. one_if (is_in (record_of n j).code) (input_at part' j)) (λ j. one_if (is_in (record_of n j).code) (input_at part j))
      (λ j l. let e : get_or part' j 0 ≡ get_or part j 0 = s.nodes j (omega arith) in rw e)

  of_same : (i p : ℕ) → i < n.nodes → channels_of n part' i p ≡ channels_of n part i p
  of_same i p l =
      listed_same p (λ r. one_if (crosses n part' i r) (channel_at part' i r)) (λ r. one_if (crosses n part i r) (channel_at part i r))
      (λ r _. ap (λ t. one_if t (channel_at part' i r)) (crosses-same i r l) ∙ ap (λ x. one_if (crosses n part i r) (record { kind = (channel_at part i r).kind; node = i; from = x; into = r })) (s.nodes i l))

  to_same : (i : ℕ) → i ≤ n.nodes → channels_to n part' i ≡ channels_to n part i
  to_same i h =
      listed_same i (λ j. channels_of n part' j (parts_of n part')) (λ j. channels_of n part j (parts_of n part))
      (λ j l. ap (λ m. channels_of n part' j m) parts_same ∙ of_same j (parts_of n part) (omega arith))

  outputs-same : outputs_of n part' ≡ outputs_of n part
  outputs-same =
      listed_same n.outputs (λ m. output_at part' (output_of n m) ∷ []) (λ m. output_at part (output_of n m) ∷ [])
      (λ j l. ap (λ x. record { kind = (output_at part (output_of n j)).kind; node = output_of n j; from = x; into = (output_at part (output_of n j)).into } ∷ []) (s.outputs j l))

  pub queues-same : queues_of n part' ≡ queues_of n part
  unfolding queues_of
  queues-same = rw (inputs-same n.nodes (le_refl n.nodes), to_same n.nodes (le_refl n.nodes), outputs-same)

  input-same : (i : ℕ) → i < n.nodes → input_of n part' i ≡ input_of n part i
  input-same i l = ap (λ q. cond (is_in (record_of n i).code) (length q) no_queue) (inputs-same i (omega arith))

  place_same : (i p : ℕ) → i < n.nodes → channel_place n part' i p ≡ channel_place n part i p
  place_same i p l = rw (inputs-same n.nodes (le_refl n.nodes), to_same i (omega arith), of_same i p l)

  -- an operand past the nodes crosses nowhere
  via_on : (u t : Bool) (i x : ℕ) → i < n.nodes → ltb x n.nodes ≡ t
      → cond (u && t && not (eqb (part_of part' x) (part_of part' i))) (channel_place n part' x (part_of part' i)) no_queue ≡ cond (u && t && not (eqb (part_of part x) (part_of part i))) (channel_place n part x (part_of part i)) no_queue
  via_on u true i x l e =
      let h : x < n.nodes = ltb-true x n.nodes e in
      ap (λ y. cond (u && true && not (eqb (part_of part' x) y)) (channel_place n part' x y) no_queue) (s.nodes i l)
      ∙ ap (λ y. cond (u && true && not (eqb y (part_of part i))) (channel_place n part' x (part_of part i)) no_queue) (s.nodes x h)
      ∙ ap (λ q. cond (u && true && not (eqb (part_of part x) (part_of part i))) q no_queue) (place_same x (part_of part i) h)
  via_on true false i x l e = refl
  via_on false false i x l e = refl

  via-same : (k : ℕ) (field : List ℕ) (i : ℕ) → i < n.nodes → via_of n part' k i (get_or field i 0) ≡ via_of n part k i (get_or field i 0)
  via-same k field i l = via_on (ltb k (count_of (record_of n i).code)) (ltb (get_or field i 0) n.nodes) i (get_or field i 0) l refl

  pub found-same : found n part' ≡ found n part
  unfolding found
  found-same =
      rw (
        fill-same (input_of n part') (input_of n part) n.nodes (replicate 1024 0) input-same,
        fill-same (λ i. via_of n part' 0 i (get_or n.a i 0)) (λ i. via_of n part 0 i (get_or n.a i 0)) n.nodes (replicate 1024 0) (via-same 0 n.a),
        fill-same (λ i. via_of n part' 1 i (get_or n.b i 0)) (λ i. via_of n part 1 i (get_or n.b i 0)) n.nodes (replicate 1024 0) (via-same 1 n.b),
        fill-same (λ i. via_of n part' 2 i (get_or n.c i 0)) (λ i. via_of n part 2 i (get_or n.c i 0)) n.nodes (replicate 1024 0) (via-same 2 n.c),
        queues-same,
        inputs-same n.nodes (le_refl n.nodes),
        to_same n.nodes (le_refl n.nodes),
        outputs-same,
        parts_same,
      )
