-- The queues of the definition stand once each and in order. An entry of a list of stretches is found behind the stretches before it; each of the three lists is one, and so is each node's.
use Rattle.std.proofs.Common.{◌≡◌, ℕ, zero, suc, ◌+◌, ◌-◌, ◌<◌, ◌≤◌, Bool, true, false, not, ◌&&◌, eqb, ltb, List, [], ◌∷◌, ◌++◌, length, get_or, sym, refl, ap, ◌∙◌, inl, inr, ⊎_elim, le_of_suc-le-suc, not-suc-le-zero, add-zero, eq-or-lt_of_le, arith, length-append, get_or-append-add, lt-ltb, eq-eqb, ne_eqb}
use mathlib.Core.Bool.{or-true}
use mathlib.Core.Logic.{by_cases}
use native.Mathlib.Decide.{dec_lt}
use lib.ListN.{get_or-append}
use Rattle.base.proofs.Tests.{and_true}
use Rattle.codes.specs.Rows.{is_in, count_of}
use Rattle.codes.specs.Records.{operands_in}
use Rattle.netlist.specs.declared.Netlist.{Netlist}
use Rattle.netlist.specs.Netlists.{record_of, output_of}
use Rattle.queues.specs.Lists.{listed, one_if, some, member}
use Rattle.queues.specs.Queues.{Queue, input, outside, part_of, parts_of, crosses, input_at, channel_at, output_at, inputs_of, channels_of, channels_all, outputs_of, queues_of, queue_at, input_place, channel_place}
use Rattle.queues.specs.Order.{Stands, EachInput, EachChannel, EachOutput, OfInput, OfChannel, EachQueue, InputsRise, ChannelsRise, OperandCrosses, OperandQueue}
use Rattle.queues.specs.Found.{via_of}
use Rattle.queues.proofs.Listed.{ones-all, largest_le}

-- an entry of a list of stretches: of which stretch, and where in it
record Found {A : Type 0} (f : ℕ → List A) (n q : ℕ) : Type 0 where
  turn : ℕ
  within : turn < n
  at : ℕ
  inside : at < length (f turn)
  place : q ≡ length (listed turn f) + at

module _ {A : Type 0} (f : ℕ → List A) where
  -- what a stretch adds
  next : (n : ℕ) → length (listed (suc n) f) ≡ length (listed n f) + length (f n)
  unfolding listed
  next n = length-append (listed n f) (f n)

  longer : (i n : ℕ) → i ≤ n → length (listed i f) ≤ length (listed n f)
  longer i zero h = let e : i ≡ 0 = omega arith in rw e (omega arith)
  longer i (suc n) h =
      ⊎_elim
      (λ (e : i ≡ suc n). rw e (omega arith))
      (λ (l : i < suc n). let r = longer i n (le_of_suc-le-suc l) in let s = next n in omega arith)
      (eq-or-lt_of_le h)

  before : (i n k : ℕ) → i < n → k < length (f i) → length (listed i f) + k < length (listed n f)
  before i n k h l = let r = longer (suc i) n h in let s = next i in omega arith

  entry_at : (d : A) (i n k : ℕ) → i < n → k < length (f i) → get_or (listed n f) (length (listed i f) + k) d ≡ get_or (f i) k d
  unfolding listed
  entry_at d i zero k h l = absurd (not-suc-le-zero h)
  entry_at d i (suc n) k h l =
      ⊎_elim
      (λ (e : i ≡ n). rw e (get_or-append-add (listed n f) (f n) k d))
      (λ (u : i < n). get_or-append (listed n f) (f n) d (length (listed i f) + k) (before i n k u l) ∙ entry_at d i n k u l)
      (eq-or-lt_of_le (le_of_suc-le-suc h))

  found : (n q : ℕ) → q < length (listed n f) → Found f n q
  unfolding listed
  found zero q h = absurd (not-suc-le-zero h)
  found (suc n) q h =
      by_cases (dec_lt q (length (listed n f)))
      (λ l. let r = found n q l in record { turn = r.turn; within = omega (arith, r.within); at = r.at; inside = r.inside; place = r.place })
      (λ l. let s = next n in record { turn = n; within = omega arith; at = q - length (listed n f); inside = omega arith; place = omega arith })

-- one entry, where the test holds
one-first : {A : Type 0} (b : Bool) (x d : A) → b ≡ true → (0 < length (one_if b x)) × (get_or (one_if b x) 0 d ≡ x)
one-first b x d e = rw e (omega arith, refl)

one_only : {A : Type 0} (b : Bool) (x : A) (k : ℕ) → k < length (one_if b x) → (b ≡ true) × (k ≡ 0)
one_only true x k h = (refl, omega arith)
one_only false x k h = absurd (not-suc-le-zero h)

abbrev none : Queue
none = record { kind = input; node = 0; from = outside; into = outside }

some_at : (n : ℕ) (t : ℕ → Bool) (k : ℕ) → k < n → t k ≡ true → some n t ≡ true
unfolding some
some_at zero t k h e = absurd (not-suc-le-zero h)
some_at (suc n) t k h e =
    ⊎_elim
    (λ (q : k ≡ n). rw (← q, e))
    (λ (l : k < n). rw (some_at n t k l e) (or-true (t n)))
    (eq-or-lt_of_le (le_of_suc-le-suc h))

module _ (n : Netlist) (part : List ℕ) where
  abbrev ins : List Queue
  ins = inputs_of n part

  abbrev chans : List Queue
  chans = channels_all n part

  abbrev outs : List Queue
  outs = outputs_of n part

  -- a turn's queues: an IN's, a node's channels, one channel, an output's
  abbrev an_in : ℕ → List Queue
  an_in j = one_if (is_in (record_of n j).code) (input_at part j)

  abbrev of_node : ℕ → List Queue
  of_node j = channels_of n part j (parts_of n part)

  abbrev to_part : ℕ → ℕ → List Queue
  to_part i r = one_if (crosses n part i r) (channel_at part i r)

  abbrev an_out : ℕ → List Queue
  an_out m = output_at part (output_of n m) ∷ []

  all-long : length (queues_of n part) ≡ length ins + length chans + length outs
  unfolding queues_of
  all-long = length-append (ins ++ chans) outs ∙ ap (λ k. k + length outs) (length-append ins chans)

  -- an entry of each of the three lists, in the whole
  in_ins : (q : ℕ) → q < length ins → Stands n part q (get_or ins q none)
  unfolding queues_of
  in_ins q h =
      let l : q < length (ins ++ chans) = rw (length-append ins chans) (omega arith) in
      (rw all-long (omega arith), get_or-append (ins ++ chans) outs none q l ∙ get_or-append ins chans none q h)

  in_chans : (k : ℕ) → k < length chans → Stands n part (length ins + k) (get_or chans k none)
  unfolding queues_of
  in_chans k h =
      let l : length ins + k < length (ins ++ chans) = rw (length-append ins chans) (omega arith) in
      (rw all-long (omega arith), get_or-append (ins ++ chans) outs none (length ins + k) l ∙ get_or-append-add ins chans k none)

  in_outs : (k : ℕ) → k < length outs → Stands n part (length ins + length chans + k) (get_or outs k none)
  unfolding queues_of
  in_outs k h =
      (rw all-long (omega arith), ap (λ m. get_or (ins ++ chans ++ outs) (m + k) none) (sym (length-append ins chans)) ∙ get_or-append-add (ins ++ chans) outs k none)

  outs-long : length outs ≡ n.outputs
  outs-long = ones-all (λ j. output_at part (output_of n j)) n.outputs

  -- where a node's channel to part p stands among all channels
  chan_in : (i p : ℕ) → p < parts_of n part → crosses n part i p ≡ true → length (channels_of n part i p) + 0 < length (of_node i)
  chan_in i p h e = before (to_part i) p (parts_of n part) 0 h (one-first (crosses n part i p) (channel_at part i p) none e).0

pub each-input : EachInput
each-input n part i l e =
    let o = one-first (is_in (record_of n i).code) (input_at part i) none e in
    let z : input_place n part i + 0 ≡ input_place n part i = add-zero _ in
    let s = in_ins n part (input_place n part i + 0) (before (an_in n part) i n.nodes 0 l o.0) in
    let v = entry_at (an_in n part) none i n.nodes 0 l o.0 in
    (rw (← z) s.0, ap (λ k. queue_at (queues_of n part) k) (sym z) ∙ s.1 ∙ v ∙ o.1)

pub each-channel : EachChannel
each-channel n part i p l h e =
    let o = one-first (crosses n part i p) (channel_at part i p) none e in
    let a = chan_in n part i p h e in
    let m : ℕ = length (listed i (of_node n part)) in
    let k : ℕ = length (channels_of n part i p) + 0 in
    let s = in_chans n part (m + k) (before (of_node n part) i n.nodes k l a) in
    let v = entry_at (of_node n part) none i n.nodes k l a in
    let w = entry_at (to_part n part i) none p (parts_of n part) 0 h o.0 in
    let z : channel_place n part i p ≡ length (inputs_of n part) + (m + k) = omega arith in
    (rw z s.0, ap (λ q. queue_at (queues_of n part) q) z ∙ s.1 ∙ v ∙ w ∙ o.1)

pub each-output : EachOutput
each-output n part j l =
    let e = outs-long n part in
    let s = in_outs n part j (rw e l) in
    let b : length (listed j (an_out n part)) ≡ j = ones-all (λ m. output_at part (output_of n m)) j in
    let v = entry_at (an_out n part) none j n.outputs 0 l (omega arith) in
    let z : j ≡ length (listed j (an_out n part)) + 0 = omega arith in
    (s.0, s.1 ∙ ap (λ k. get_or (outputs_of n part) k none) z ∙ v)

-- a queue of each of the three stretches
of_input : (n : Netlist) (part : List ℕ) (q : ℕ) → q < length (inputs_of n part) → OfInput n part q
of_input n part q h =
    let r = found (an_in n part) n.nodes q h in
    let o = one_only (is_in (record_of n r.turn).code) (input_at part r.turn) r.at r.inside in
    record { node = r.turn; within = r.within; is_in_lem = o.0; place = omega (arith, r.place, o.1) }

of_channel : (n : Netlist) (part : List ℕ) (q k : ℕ) → q ≡ length (inputs_of n part) + k → k < length (channels_all n part) → OfChannel n part q
of_channel n part q k e h =
    let r = found (of_node n part) n.nodes k h in
    let s = found (to_part n part r.turn) (parts_of n part) r.at r.inside in
    let o = one_only (crosses n part r.turn s.turn) (channel_at part r.turn s.turn) s.at s.inside in
    record {
      node = r.turn;
      reader = s.turn;
      within = r.within;
      known = s.within;
      cross = o.0;
      place = omega (arith, r.place, s.place, o.1);
    }

pub each-queue : EachQueue
each-queue n part q h =
    let e = all-long n part in
    let f = outs-long n part in
    by_cases (dec_lt q (length (inputs_of n part)))
    (λ l. inl (of_input n part q l))
    (λ a. by_cases (dec_lt q (length (inputs_of n part) + length (channels_all n part)))
    (λ l. inr (inl (of_channel n part q (q - length (inputs_of n part)) (omega arith) (omega arith))))
    (λ b. inr (inr (record { output = q - (length (inputs_of n part) + length (channels_all n part)); within = omega arith; place = omega arith }))))

pub inputs-rise : InputsRise
inputs-rise n part i j l e =
    let o = one-first (is_in (record_of n i).code) (input_at part i) none e in
    let b = before (an_in n part) i j 0 l o.0 in
    omega arith

pub channels-rise : ChannelsRise
channels-rise n part i p j r h e c =
    let o = one-first (crosses n part i p) (channel_at part i p) none e in
    ⊎_elim
    (λ (l : i < j).
    let b = before (of_node n part) i j (length (channels_of n part i p) + 0) l (chan_in n part i p h e) in
    omega arith)
    (λ (s : (i ≡ j) × (p < r)).
    let b = before (to_part n part i) p r 0 s.1 o.0 in
    rw (← s.0) (omega arith))
    c

pub operand_crosses : OperandCrosses
operand_crosses n part b x l m d =
    let p : ℕ = part_of part b in
    let w = largest_le n.nodes (part_of part) b l in (
      and_true _ _
          (ap not (ne_eqb (part_of part x) p d))
          (some_at n.nodes (λ c. eqb (part_of part c) p && member x (operands_in (record_of n c))) b l (and_true (eqb p p) (member x (operands_in (record_of n b))) (eq-eqb p p refl) m)),
      omega arith,
    )

pub operand_queue : OperandQueue
operand_queue n part b x s l h u m d =
    let c = operand_crosses n part b x l m d in
    let e : (ltb s (count_of (record_of n b).code) && ltb x n.nodes && not (eqb (part_of part x) (part_of part b))) ≡ true =
    and_true _ _ (and_true _ _ u (lt-ltb x n.nodes h)) (ap not (ne_eqb (part_of part x) (part_of part b) d)) in
    let v : via_of n part s b x ≡ channel_place n part x (part_of part b) = rw e in
    let r = each-channel n part x (part_of part b) h c.1 c.0 in
    (rw v r.0, ap (λ q. queue_at (queues_of n part) q) v ∙ r.1)
