-- A counted record ends before the trailer; what a netlist of the same sheet holds at its place are the same fields, by the law of `fill`.
use mathlib.Core.Path.{◌≡◌, refl, sym, ◌∙◌, ap}
use mathlib.Core.Bool.{Bool, true, false, cond, ◌&&◌}
use mathlib.Core.List.{List}
use Prim.Native.Nat.{ℕ, ◌+◌, ◌/◌, ◌≤◌, ◌<◌}
use native.Mathlib.Omega.{arith}
use borrow.Author.Tests.{leb-true}
use lib.ListN.{length, get_or, replicate, length-replicate}
use Rattle.base.specs.Lists.{fill}
use Rattle.base.proofs.Tests.{and_right}
use Rattle.base.proofs.Fill.{fill_at}
use Rattle.base.proofs.Verdicts.{whole-good}
use Rattle.layout.specs.Trailer.{front_bytes, middle_bytes, label_bytes, trailer_at}
use Rattle.layout.proofs.Found.{fills}
use Rattle.netlist.specs.declared.Netlist.{Netlist}
use Rattle.netlist.specs.Netlists.{record_of}
use Rattle.net_sheet.specs.Image.{net_letter}
use Rattle.net_sheet.specs.Reading.{record_at, net_from, net_of, long_enough, net_trailer_good, net_read}
use Rattle.net_sheet.proofs.Verdicts.{net-within}
use Rattle.net_trips.proofs.Copies.{shared}
use Rattle.net_trips.proofs.Trips.{accepted, net_is}
use Rattle.walker.specs.Walking.{stands_at, record_count}
use Rattle.walker.specs.Meaning.{CountedIsThere, WalkedIsRead}
use Rattle.walker.proofs.Stands.{is_there, count-good}

there_on : (s : List ℕ) (i : ℕ) (b : Bool) → (long_enough s && net_trailer_good s) ≡ b → i < cond b (front_bytes s / 12) 0 → stands_at s i ≡ record_at s i
there_on s i true e h =
    let f : front_bytes s + (middle_bytes s + label_bytes s) ≡ trailer_at s = fills net_letter s (shared s (and_right (long_enough s) (net_trailer_good s) e)) in
    is_there s i (omega (arith, h, f))
there_on s i false e h = let y : ⊥ = omega (arith, h) in absurd y

pub counted_is_there : CountedIsThere
unfolding record_count
counted_is_there s i h = there_on s i (long_enough s && net_trailer_good s) refl h

-- the fields of a node, from the sheet that its netlist was loaded from
field : (f : ℕ → ℕ) (n i : ℕ) → i < n → n ≤ 1024 → get_or (fill f n (replicate 1024 0)) i 0 ≡ f i
field f n i h l = fill_at f n i (replicate 1024 0) h (rw (length-replicate {A = ℕ} 1024 0) l)

read_at_lem : (s : List ℕ) (F M L i : ℕ) → i < F / 12 → F / 12 ≤ 1024 → record_of (net_from s F M L) i ≡ record_at s i
unfolding net_from
read_at_lem s F M L i h l =
    λ j.
    record {
      code = field (λ m. (record_at s m).code) (F / 12) i h l j;
      width = field (λ m. (record_at s m).width) (F / 12) i h l j;
      a = field (λ m. (record_at s m).a) (F / 12) i h l j;
      b = field (λ m. (record_at s m).b) (F / 12) i h l j;
      c = field (λ m. (record_at s m).c) (F / 12) i h l j;
      k = field (λ m. (record_at s m).k) (F / 12) i h l j;
    }

nodes_are : (s : List ℕ) (F M L : ℕ) → (net_from s F M L).nodes ≡ F / 12
unfolding net_from
nodes_are s F M L = refl

pub walked_is_read : WalkedIsRead
walked_is_read s e =
    let good = accepted s e in
    let F : ℕ = front_bytes s in
    let M : ℕ = middle_bytes s in
    let L : ℕ = label_bytes s in
    let nodes : (net_of s).nodes ≡ F / 12 = nodes_are s F M L in
    let count : record_count s ≡ F / 12 = count-good s (leb-true 16 (length s) (whole-good (long_enough s) good.0)) (whole-good (net_trailer_good s) good.1.0) in
    let few : F / 12 ≤ 1024 = rw (sym nodes) (net-within (net_of s) good.1.1).nodes in
    let same : (net_read s).net ≡ net_of s = net_is s e in
    let all : (i : ℕ) → i < (net_of s).nodes → stands_at s i ≡ record_of (net_of s) i
    = λ i h.
    let g : i < F / 12 = omega (arith, h, nodes) in
    let c : i < record_count s = omega (arith, g, count) in
    counted_is_there s i c ∙ sym (read_at_lem s F M L i g few)
    in
    (count ∙ sym nodes ∙ ap (λ (m : Netlist). m.nodes) (sym same), rw same all)
