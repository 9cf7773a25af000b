-- The network of an accepted netlist and cut is what a cut must be. Each fact about a queue goes by what the queue is: an IN's, a channel or an output's.
use mathlib.Core.Path.{◌≡◌, refl, sym, ap, ◌∙◌, subst}
use mathlib.Core.Logic.{◌≢◌, ◌⊎◌, inl, inr, ⊎_elim, by_cases}
use mathlib.Core.Bool.{Bool, true, false, cond, ◌&&◌, or-true}
use mathlib.Core.List.{List, [], ◌∷◌, ◌++◌, Memᴰ}
use Prim.Native.Nat.{ℕ, ◌+◌, ◌≤◌, ◌<◌}
use native.Mathlib.Omega.{arith}
use native.Mathlib.Nat.{not-le_of_lt}
use native.Mathlib.Decide.{dec_lt, ℕ_discrete}
use borrow.Author.Tests.{eqb-true, eq-eqb, ne_eqb, ltb-true, leb-true}
use lib.Dec.{eqb, ltb, leb}
use lib.ListN.{length, get_or, length-append, get_or-eq_default}
use Rattle.base.specs.Checks.{AllGood, lowest, whole}
use Rattle.base.proofs.First.{lowest-good}
use Rattle.base.proofs.Tests.{and_left, and_right}
use Rattle.base.proofs.Verdicts.{whole-good}
use Rattle.codes.specs.declared.Record.{Record}
use Rattle.codes.specs.Rows.{rows, place, is_in, is_reg}
use Rattle.codes.specs.Records.{operands_in}
use Rattle.netlist.specs.declared.Netlist.{Netlist}
use Rattle.netlist.specs.Netlists.{record_of, output_of}
use Rattle.netlist.specs.Checks.{numbers_good, net_checks}
use Rattle.cycles.specs.Drawings.{input, register, oper, operands}
use Rattle.cycles.specs.Netlists.{operator, kind_of}
use Rattle.cycles.proofs.Accepted.{ordered}
use Rattle.queues.specs.Lists.{listed, member}
use Rattle.queues.specs.Queues.{Queue, outside, part_of, parts_of, input_at, channel_at, output_at, inputs_of, channels_all, outputs_of, queues_of, queue_at, input_place, channel_place}
use Rattle.queues.specs.Order.{output_place, OfInput, OfChannel, OfOutput}
use Rattle.queues.proofs.Listed.{ones-all, largest_le}
use Rattle.queues.proofs.Order.{each-input, each-channel, each-output, each-queue, inputs-rise, channels-rise, operand_crosses}
use Rattle.cut.specs.declared.Cut.{Cut}
use Rattle.cut.specs.Cuts.{depth_of}
use Rattle.cut.specs.Checks.{cut_queues, depth_good, cut_checks}
use Rattle.cut.proofs.Answers.{both-good, few-parts}
use Rattle.cut.proofs.Within.{cut_within}
use Rattle.nets.specs.Net.{Good}
use Rattle.nets.specs.Rounds.{rule_count}
use Rattle.nets.specs.Orders.{output_queue}
use Rattle.nets.specs.Networks.{queue_of, place_in, network_of}
use Rattle.nets.proofs.Facts.{and_in}

-- ---- what a record says of its node

-- an IN, by its kind
input_on : (r : Record) (f : List ℕ → ℕ) (x y : Bool) → cond x input (cond y (register r.k r.a) (oper f (operands_in r))) ≡ input → x ≡ true
input_on r f true y e = refl
input_on r f false true e = let z : ◌≡◌ {A = ℕ} 0 1 = cc in let y : ⊥ = omega arith in absurd y
input_on r f false false e = let z : ◌≡◌ {A = ℕ} 0 1 = cc in let y : ⊥ = omega arith in absurd y

is_input : (n : Netlist) (i : ℕ) → kind_of n i ≡ input → is_in (record_of n i).code ≡ true
is_input n i e =
    input_on (record_of n i) (operator (record_of n i) (get_or n.width (record_of n i).b 0)) (is_in (record_of n i).code) (is_reg (record_of n i).code) e

-- an operand of the drawing's node is one of its record
member_in : (i : ℕ) (xs : List ℕ) → Memᴰ i xs → member i xs ≡ true
member_in i [] m = elim m [ ]
member_in i (x ∷ xs) (Memᴰ.head e) = rw (eq-eqb i x e)
member_in i (x ∷ xs) (Memᴰ.tail m) = rw (member_in i xs m) (or-true (eqb i x))

reg_member : (r : Record) → is_reg r.code ≡ true → member r.a (operands_in r) ≡ true
unfolding rows place
reg_member r e = rw (eqb-true r.code 2 e) (rw (eq-eqb r.a r.a refl))

operand_on : (r : Record) (f : List ℕ → ℕ) (x y : Bool) → (y ≡ true → member r.a (operands_in r) ≡ true)
    → (a : ℕ) → Memᴰ a (operands (cond x input (cond y (register r.k r.a) (oper f (operands_in r))))) → member a (operands_in r) ≡ true
operand_on r f true y h a m = elim m [ ]
operand_on r f false true h a (Memᴰ.head e) = ap (λ x. member x (operands_in r)) e ∙ h refl
operand_on r f false true h a (Memᴰ.tail m) = elim m [ ]
operand_on r f false false h a m = member_in a (operands_in r) m

is_operand : (n : Netlist) (b a : ℕ) → Memᴰ a (operands (kind_of n b)) → member a (operands_in (record_of n b)) ≡ true
is_operand n b a m =
    operand_on (record_of n b) (operator (record_of n b) (get_or n.width (record_of n b).b 0)) (is_in (record_of n b).code) (is_reg (record_of n b).code)
    (reg_member (record_of n b)) a m

-- ---- the queues

-- what is known of a queue, by its ends
record Fine (n : Netlist) (part : List ℕ) (x : Queue) : Type 0 where
  source_node : parts_of n part ≤ x.from → x.into < parts_of n part → x.node < n.nodes
  source_kind : parts_of n part ≤ x.from → x.into < parts_of n part → kind_of n x.node ≡ input
  put_node : x.from < parts_of n part → x.node < n.nodes
  put_part : x.from < parts_of n part → part_of part x.node ≡ x.from

module _ (n : Netlist) (part : List ℕ) where
  abbrev qs : List Queue
  qs = queues_of n part

  -- by what it is
  by_queue : (P : Queue → Type 0) (q : ℕ) → q < length qs
      → ((o : OfInput n part q) → P (input_at part o.node))
      → ((o : OfChannel n part q) → P (channel_at part o.node o.reader))
      → ((o : OfOutput n part q) → P (output_at part (output_of n o.output)))
      → P (queue_of n part q)
  by_queue P q l f g h =
      ⊎_elim
      (λ (o : OfInput n part q). subst P (sym (ap (queue_at qs) o.place ∙ (each-input n part o.node o.within o.is_in_lem).1)) (f o))
      (λ (r : OfChannel n part q ⊎ OfOutput n part q). ⊎_elim
      (λ (o : OfChannel n part q). subst P (sym (ap (queue_at qs) o.place ∙ (each-channel n part o.node o.reader o.within o.known o.cross).1)) (g o))
      (λ (o : OfOutput n part q). subst P (sym (ap (queue_at qs) o.place ∙ (each-output n part o.output o.within).1)) (h o))
      r)
      (each-queue n part q l)

  -- a number past the queues has the outside at both ends
  past-from : (q : ℕ) → length qs ≤ q → (queue_of n part q).from ≡ outside
  past-from q h = ap (λ x. x.from) (get_or-eq_default qs _ h)

  past-into : (q : ℕ) → length qs ≤ q → (queue_of n part q).into ≡ outside
  past-into q h = ap (λ x. x.into) (get_or-eq_default qs _ h)

  long : length qs ≡ length (inputs_of n part) + length (channels_all n part) + n.outputs
  unfolding queues_of
  long =
      length-append (inputs_of n part ++ channels_all n part) (outputs_of n part)
      ∙ ap (λ k. k + length (outputs_of n part)) (length-append (inputs_of n part) (channels_all n part))
      ∙ ap (λ k. length (inputs_of n part) + length (channels_all n part) + k) (ones-all (λ j. output_at part (output_of n j)) n.outputs)

  -- an input's place is among the inputs, a channel's among the channels
  pub input-low : (q : ℕ) → OfInput n part q → q < length (inputs_of n part)
  input-low q o = rw o.place (inputs-rise n part o.node n.nodes o.within o.is_in_lem)

  channel-low : (q : ℕ) → OfChannel n part q → q < length (inputs_of n part) + length (channels_all n part)
  unfolding listed
  channel-low q o =
      let l = channels-rise n part o.node o.reader n.nodes 0 o.known o.cross (inl o.within) in
      omega (arith, o.place)

-- ---- the network

module _ (n : Netlist) (c : Cut) (g : AllGood (net_checks n)) (h : AllGood (cut_checks n c)) where
  -- at most 32 parts
  pub few : parts_of n c.part ≤ outside
  few = few-parts n c (whole-good (numbers_good n) h.0) h.1.1.0

  in_part : (i : ℕ) → i < n.nodes → part_of c.part i < parts_of n c.part
  in_part i l = let w = largest_le n.nodes (part_of c.part) i l in omega arith

  output-node : (j : ℕ) → j < n.outputs → output_of n j < n.nodes
  output-node j l = ltb-true (output_of n j) n.nodes (lowest-good (λ j. ltb (output_of n j) n.nodes) n.outputs g.1.1.0 j l)

  -- an end is a part or the outside
  pub ends-few : (q : ℕ) → ((queue_of n c.part q).from ≤ outside) × ((queue_of n c.part q).into ≤ outside)
  ends-few q =
      by_cases (dec_lt q (length (cut_queues n c)))
      (λ u. by_queue n c.part (λ x. (x.from ≤ outside) × (x.into ≤ outside)) q u
      (λ o. (omega arith, let a = in_part o.node o.within in let f = few in omega arith))
      (λ o. (let a = in_part o.node o.within in let f = few in omega arith, let a = o.known in let f = few in omega arith))
      (λ o. (let a = in_part (output_of n o.output) (output-node o.output o.within) in let f = few in omega arith, omega arith)))
      (λ u. (let e = past-from n c.part q (omega arith) in omega arith, let e = past-into n c.part q (omega arith) in omega arith))

  -- a part at one end, so it is a queue
  pub from-queue : (q : ℕ) → (queue_of n c.part q).from < parts_of n c.part → q < length (cut_queues n c)
  from-queue q l =
      by_cases (dec_lt q (length (cut_queues n c))) (λ u. u)
      (λ u. let e = past-from n c.part q (omega arith) in let f = few in let z : ⊥ = omega arith in absurd z)

  pub into-queue : (q : ℕ) → (queue_of n c.part q).into < parts_of n c.part → q < length (cut_queues n c)
  into-queue q l =
      by_cases (dec_lt q (length (cut_queues n c))) (λ u. u)
      (λ u. let e = past-into n c.part q (omega arith) in let f = few in let z : ⊥ = omega arith in absurd z)

  input-kind : (i : ℕ) → is_in (record_of n i).code ≡ true → kind_of n i ≡ input
  input-kind i e = rw e

  fine : (q : ℕ) → q < length (cut_queues n c) → Fine n c.part (queue_of n c.part q)
  fine q l =
      by_queue n c.part (Fine n c.part) q l
      (λ o. record {
        source_node = λ _ _. o.within;
        source_kind = λ _ _. input-kind o.node o.is_in_lem;
        put_node = λ _. o.within;
        put_part = λ u. absurd (not-le_of_lt u few);
      })
      (λ o. record {
        source_node = λ _ _. o.within;
        source_kind = λ u _. absurd (not-le_of_lt (in_part o.node o.within) u);
        put_node = λ _. o.within;
        put_part = λ _. refl;
      })
      (λ o. record {
        source_node = λ _ u. absurd (not-le_of_lt u few);
        source_kind = λ _ u. absurd (not-le_of_lt u few);
        put_node = λ _. output-node o.output o.within;
        put_part = λ _. refl;
      })

  -- where a part reads from
  pub place-input : (i : ℕ) → is_in (record_of n i).code ≡ true → place_in n c.part (part_of c.part i) i ≡ input_place n c.part i
  place-input i e =
      ap (λ b. cond b (input_place n c.part i) (channel_place n c.part i (part_of c.part i))) (and_in e (eq-eqb (part_of c.part i) (part_of c.part i) refl))

  link-input : (i : ℕ) → i < n.nodes → is_in (record_of n i).code ≡ true → queue_of n c.part (place_in n c.part (part_of c.part i) i) ≡ input_at c.part i
  link-input i l e = ap (queue_of n c.part) (place-input i e) ∙ (each-input n c.part i l e).1

  link-channel : (b a : ℕ) → b < n.nodes → a < n.nodes → member a (operands_in (record_of n b)) ≡ true → part_of c.part a ≢ part_of c.part b
      → queue_of n c.part (place_in n c.part (part_of c.part b) a) ≡ channel_at c.part a (part_of c.part b)
  link-channel b a l k m ne =
      let x = operand_crosses n c.part b a l m ne in
      ap (λ t. queue_of n c.part (cond t (input_place n c.part a) (channel_place n c.part a (part_of c.part b)))) (off (is_in (record_of n a).code) (ne_eqb (part_of c.part a) (part_of c.part b) ne))
      ∙ (each-channel n c.part a (part_of c.part b) k x.1 x.0).1
    where
      off : (x : Bool) → eqb (part_of c.part a) (part_of c.part b) ≡ false → (x && eqb (part_of c.part a) (part_of c.part b)) ≡ false
      off true e = e
      off false e = refl

  -- each depth is 1 to 16
  pub depths : (q : ℕ) → q < length (cut_queues n c) → (1 ≤ depth_of c q) × (depth_of c q ≤ 16)
  depths q l =
      let d : depth_good (depth_of c q) ≡ true = lowest-good (λ q. depth_good (depth_of c q)) (length (cut_queues n c))
      (both-good (whole (leb (length (cut_queues n c)) 512 && eqb c.queues (length (cut_queues n c)))) (lowest (λ q. depth_good (depth_of c q)) (length (cut_queues n c))) h.1.1.1.0).1 q l in (
        leb-true 1 (depth_of c q) (and_left (leb 1 (depth_of c q)) (leb (depth_of c q) 16) d),
        leb-true (depth_of c q) 16 (and_right (leb 1 (depth_of c q)) (leb (depth_of c q) 16) d),
      )

  pub few-queues : length (cut_queues n c) ≤ 512
  few-queues = let w = cut_within n c h in omega (arith, w.queues, w.counted)

  pub good : (limit : ℕ) → Good (network_of n c limit)
  good limit =
      let O = ordered n g in
      let e = long n c.part in
      record {
        ordered = O;
        linked = λ b a l m.
            by_cases (ℕ_discrete (part_of c.part a) (part_of c.part b)) (λ d. inl d)
            (λ ne. let x = link-channel b a l (O.known b a l m) (is_operand n b a m) ne in
            inr (record { into_is = ap (λ y. y.into) x; node_is = ap (λ y. y.node) x }));
        inputs = λ i l k.
            let x = link-input i l (is_input n i k) in
            record {
              link = record { into_is = ap (λ y. y.into) x; node_is = ap (λ y. y.node) x };
              outside = subst (λ y. parts_of n c.part ≤ y) (sym (ap (λ y. y.from) x)) few;
            };
        part_ok = in_part;
        source_node = λ q u v. (fine q (into-queue q v)).source_node u v;
        source_kind = λ q u v. (fine q (into-queue q v)).source_kind u v;
        source_via = λ q u v.
            by_queue n c.part (λ x. parts_of n c.part ≤ x.from → x.into < parts_of n c.part → place_in n c.part (part_of c.part x.node) x.node ≡ q) q (into-queue q v)
            (λ o _ _. place-input o.node o.is_in_lem ∙ sym o.place)
            (λ o w _. absurd (not-le_of_lt (in_part o.node o.within) w))
            (λ o _ w. absurd (not-le_of_lt w few)) u v;
        put_node = λ q u. (fine q (from-queue q u)).put_node u;
        put_part = λ q u. (fine q (from-queue q u)).put_part u;
        put_queue = from-queue;
        put_after = λ q u.
            by_queue n c.part (λ x. x.from < parts_of n c.part → length (inputs_of n c.part) ≤ q) q (from-queue q u)
            (λ o v. absurd (not-le_of_lt v few)) (λ o _. omega (arith, o.place)) (λ o _. omega (arith, o.place)) u;
        after_put = λ q u l.
            by_queue n c.part (λ x. x.from < parts_of n c.part) q l
            (λ o. absurd (not-le_of_lt (input-low n c.part q o) u)) (λ o. in_part o.node o.within) (λ o. in_part (output_of n o.output) (output-node o.output o.within));
        take_queue = into-queue;
        take_before = λ q u.
            by_queue n c.part (λ x. x.into < parts_of n c.part → q + n.outputs < length (cut_queues n c)) q (into-queue q u)
            (λ o _. let l = input-low n c.part q o in omega arith) (λ o _. let l = channel-low n c.part q o in omega arith)
            (λ o v. absurd (not-le_of_lt v few)) u;
        before_take = λ q u.
            by_queue n c.part (λ x. x.into < parts_of n c.part) q (omega arith)
            (λ o. in_part o.node o.within) (λ o. o.known)
            (λ o. let z : ⊥ = omega (arith, o.place, o.within) in absurd z);
        ends_fit = omega arith;
        deep = λ q l. (depths q l).0;
      }

-- ---- the network's numbers by the counts of its queues

module _ (n : Netlist) (c : Cut) (limit : ℕ) where
  pub queues_are : (network_of n c limit).queues ≡ length (inputs_of n c.part) + length (channels_all n c.part) + n.outputs
  queues_are = long n c.part

  pub output_queue_is : (j : ℕ) → output_queue (network_of n c limit) j ≡ output_place n c.part j
  output_queue_is j = let e = long n c.part in omega arith

  -- a put rule for each channel and each output, a Finish for each part
  pub rule_count_is : rule_count (network_of n c limit) ≡ length (channels_all n c.part) + n.outputs + parts_of n c.part
  unfolding rule_count
  rule_count_is = let e = long n c.part in omega arith
