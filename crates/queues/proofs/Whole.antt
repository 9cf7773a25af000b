-- The passes together find the queues of the definition: three stretches right behind each other, and for each operand that crosses the place of its channel.
use Rattle.std.proofs.Common.{◌≡◌, ℕ, ◌+◌, ◌-◌, ◌*◌, ◌^◌, ◌<◌, ◌≤◌, Bool, true, false, cond, not, ◌&&◌, eqb, leb, ltb, List, ◌++◌, length, get_or, set, replicate, sym, refl, ap, ◌∙◌, ap₂, mul-le-mul_left, arith, length-append, ne_eqb, leb-true}
use mathlib.Core.Bool.{and-false}
use Rattle.std.specs.Prelude.{Option, None, Some}
use Rattle.std.specs.Option.{unwrap_or}
use lib.ListN.{length-replicate}
use Rattle.base.specs.Lists.{fill}
use Rattle.base.specs.Checks.{every}
use Rattle.base.proofs.Fill.{fill_at, fill_step}
use Rattle.base.proofs.Tests.{every_at}
use Rattle.codes.specs.Rows.{is_in, count_of}
use Rattle.codes.specs.Records.{operands_in}
use Rattle.netlist.specs.declared.Netlist.{Netlist}
use Rattle.netlist.specs.Netlists.{record_of, output_of}
use Rattle.queues.specs.Lists.{laid, one_if, member}
use Rattle.queues.specs.Queues.{Queue, input_at, channel_at, output_at, part_of, parts_of, crosses, inputs_of, channels_all, channels_to, channels_of, outputs_of, queues_of, channel_place}
use Rattle.queues.specs.Found.{no_queue, no_queues, via_of, found}
use Rattle.queues.specs.Pass.{Fit, put_all, before, Numbered}
use Rattle.queues.specs.declared.Queues.{Queues}
use Rattle.queues.specs.declared.channels.Uses.{Uses}
use Rattle.queues.proofs.Listed.{laid_append, listed-skip, listed-few, ones-few, ones-all, some-none, largest_le, largest-few}
use Rattle.queues.proofs.Puts.{inputs_put}
use Rattle.queues.proofs.Uses.{unused, mark_of, first_of}

-- parts are few, and each node's part is one
pub parts-few : (n : Netlist) (part : List ℕ) → every (λ i. leb (get_or part i 0) 31) n.nodes ≡ true → parts_of n part ≤ 32
parts-few n part g =
    let h = largest-few n.nodes 31 (λ i. get_or part i 0) (λ i l. leb-true (get_or part i 0) 31 (every_at (λ i. leb (get_or part i 0) 31) n.nodes g i l)) in
    omega arith

part-within : (n : Netlist) (part : List ℕ) (i : ℕ) → i < n.nodes → part_of part i < parts_of n part
part-within n part i l = let h = largest_le n.nodes (λ i. get_or part i 0) i l in omega arith

-- no node crosses to a part that is none, so that channels to 32 parts are those to the parts that there are
no_part : (n : Netlist) (part : List ℕ) (i r : ℕ) → parts_of n part ≤ r → crosses n part i r ≡ false
no_part n part i r h =
    rw (some-none n.nodes (λ b. eqb (part_of part b) r && member i (operands_in (record_of n b))) (λ b l.
    let g = part-within n part b l in
    rw (ne_eqb (part_of part b) r (λ e. omega arith))))
    (and-false (not (eqb (part_of part i) r)))

pub all-parts : (n : Netlist) (part : List ℕ) (i : ℕ) → parts_of n part ≤ 32 → channels_of n part i 32 ≡ channels_of n part i (parts_of n part)
all-parts n part i m =
    let e : parts_of n part + (32 - parts_of n part) ≡ 32 = omega arith in
    rw e at (listed-skip (parts_of n part) (32 - parts_of n part) (λ r. one_if (crosses n part i r) (channel_at part i r)) (λ j l. rw (no_part n part i (parts_of n part + j) (omega arith))))

-- a place is far below 2 ^ 16
place_low : (n : Netlist) (part : List ℕ) (x p : ℕ) → n.nodes ≤ 1024 → parts_of n part ≤ 32 → x < n.nodes → p < 32 → channel_place n part x p < 2 ^ 16
place_low n part x p few m l h =
    let a = ones-few n.nodes (λ j. is_in (record_of n j).code) (λ j. input_at part j) in
    let b = listed-few x (parts_of n part) (λ j. channels_of n part j (parts_of n part)) (λ j k. ones-few (parts_of n part) (λ r. crosses n part j r) (λ r. channel_at part j r)) in
    let c = ones-few p (λ r. crosses n part x r) (λ r. channel_at part x r) in
    let d : x * parts_of n part ≤ x * 32 = mul-le-mul_left x m in
    omega (arith, a, b, c, d)

module _ (n : Netlist) (part : List ℕ) (f : Fit n part) where
  pub few : parts_of n part ≤ 32
  few = parts-few n part f.parts

  -- each turn puts at most as many queues as there are parts
  pub channels-few : (i : ℕ) → length (inputs_of n part) + length (channels_to n part i) ≤ n.nodes + i * 32
  channels-few i =
      let m = few in
      let a = ones-few n.nodes (λ j. is_in (record_of n j).code) (λ j. input_at part j) in
      let b = listed-few i (parts_of n part) (λ j. channels_of n part j (parts_of n part)) (λ j k. ones-few (parts_of n part) (λ r. crosses n part j r) (λ r. channel_at part j r)) in
      let d : i * parts_of n part ≤ i * 32 = mul-le-mul_left i m in
      omega (arith, a, b, d)

  -- what is read at an operand that crosses is the place of its channel
  pub via_is : (c : List Uses) → Numbered n part c → (x p : ℕ) → x < n.nodes → p < 32 → (get_or c x unused).first + before (get_or c x unused).mark (part_of part x) p ≡ channel_place n part x p
  via_is c k x p l h =
      let g = fill_at (λ i. length (inputs_of n part) + length (channels_to n part i)) n.nodes x (replicate 1024 0) l (rw (length-replicate {A = ℕ} 1024 0) f.nodes) in
      rw (← first_of c x, ← mark_of c x) (ap₂ (λ y z. y + z) (ap (λ y. get_or y x 0) k.first ∙ g) (k.told x p l h))

  pub place-low : (x p : ℕ) → x < n.nodes → p < 32 → channel_place n part x p < 2 ^ 16
  place-low x p l h = place_low n part x p f.nodes few l h

-- the stretches, one behind the other
three : (f : Queue → ℕ) (n : Netlist) (part z : List ℕ)
    → laid f (0 + length (inputs_of n part) + length (channels_all n part)) (outputs_of n part) (laid f (0 + length (inputs_of n part)) (channels_all n part) (laid f 0 (inputs_of n part) z)) ≡ laid f 0 (queues_of n part) z
unfolding queues_of
three f n part z =
    let ins : List Queue = inputs_of n part in
    let chans : List Queue = channels_all n part in
    let k : 0 + length (ins ++ chans) ≡ 0 + length ins + length chans = omega (arith, length-append ins chans) in
    sym (laid_append f 0 (ins ++ chans) (outputs_of n part) z ∙ ap₂ (λ j l. laid f j (outputs_of n part) l) k (laid_append f 0 ins chans z))

-- inputs, channels, outputs, and the queue of each operand: what each pass leaves
pub whole_is : (n : Netlist) (part : List ℕ) (m : ℕ) (r s t u : Queues)
    → m ≡ parts_of n part
    → r ≡ inputs_put n part n.nodes (record no_queues { parts = m })
    → s ≡ put_all (channels_all n part) (record r { inputs = r.count })
    → t ≡ put_all (outputs_of n part) (record s { channels = s.count - s.inputs })
    → u
    ≡ record t {
      outputs = n.outputs;
      a = fill (λ i. via_of n part 0 i (record_of n i).a) n.nodes t.a;
      b = fill (λ i. via_of n part 1 i (record_of n i).b) n.nodes t.b;
      c = fill (λ i. via_of n part 2 i (record_of n i).c) n.nodes t.c;
    }
    → u ≡ found n part
unfolding found queues_of no_queues
whole_is n part m r s t u hm hr hs ht hu =
    let outs : length (outputs_of n part) ≡ n.outputs = ones-all (λ j. output_at part (output_of n j)) n.outputs in
    let i : 0 + length (inputs_of n part) ≡ length (inputs_of n part) = omega arith in
    let c : length (inputs_of n part) + length (channels_all n part) - length (inputs_of n part) ≡ length (channels_all n part) = omega arith in
    let all : length (inputs_of n part) + length (channels_all n part) + length (outputs_of n part) ≡ length (inputs_of n part ++ channels_all n part ++ outputs_of n part) = sym (length-append (inputs_of n part ++ channels_all n part) (outputs_of n part) ∙ ap (λ x. x + length (outputs_of n part)) (length-append (inputs_of n part) (channels_all n part))) in
    rw (hu, ht, hs, hr, hm, three (λ q. q.node) n part (replicate 512 0), three (λ q. q.from) n part (replicate 512 0), three (λ q. q.into) n part (replicate 512 0), i, c, all, outs)

unwrapped : (b : Bool) (x r : ℕ) (o : Option ℕ) → o ≡ cond b (Some x) None → r ≡ unwrap_or o no_queue → r ≡ cond b x no_queue
unwrapped true x r o e h = rw (h, e)
unwrapped false x r o e h = rw (h, e)

-- an operand's queue as it is stored
pub stored : (n : Netlist) (part : List ℕ) (i s x m r : ℕ) (o : Option ℕ)
    → m ≡ count_of (record_of n i).code
    → o ≡ cond (ltb s m && ltb x n.nodes && not (eqb (part_of part x) (part_of part i))) (Some (channel_place n part x (part_of part i))) None
    → r ≡ unwrap_or o no_queue
    → r ≡ via_of n part s i x
stored n part i s x m r o h e g =
    unwrapped (ltb s (count_of (record_of n i).code) && ltb x n.nodes && not (eqb (part_of part x) (part_of part i))) (channel_place n part x (part_of part i)) r o (rw h at e) g

-- the loop over the nodes that finds each operand's queue
abbrev pub mapped : Netlist → List ℕ → ℕ → Queues → Queues
mapped n part i s =
    record s {
      a = fill (λ i. via_of n part 0 i (record_of n i).a) i s.a;
      b = fill (λ i. via_of n part 1 i (record_of n i).b) i s.b;
      c = fill (λ i. via_of n part 2 i (record_of n i).c) i s.c;
    }

pub mapped_start : (n : Netlist) (part : List ℕ) (s : Queues) → s ≡ mapped n part 0 s
unfolding fill
mapped_start n part s = refl

pub mapped_turn : (n : Netlist) (part : List ℕ) (i x y z : ℕ) (s t : Queues)
    → t ≡ mapped n part i s
    → x ≡ via_of n part 0 i (record_of n i).a
    → y ≡ via_of n part 1 i (record_of n i).b
    → z ≡ via_of n part 2 i (record_of n i).c
    → record t { a = set t.a i x; b = set t.b i y; c = set t.c i z } ≡ mapped n part (i + 1) s
mapped_turn n part i x y z s t e hx hy hz =
    rw (
      e,
      fill_step (λ i. via_of n part 0 i (record_of n i).a) i x s.a _ refl hx,
      fill_step (λ i. via_of n part 1 i (record_of n i).b) i y s.b _ refl hy,
      fill_step (λ i. via_of n part 2 i (record_of n i).c) i z s.c _ refl hz,
    )
