-- A block: what is still to be read, from here, gives the whole block's result; what is written is the front of `out`.
use mathlib.Core.Path.{◌≡◌, refl, sym, ap, ◌∙◌}
use mathlib.Core.Bool.{Bool, true, false, ◌&&◌}
use mathlib.Core.List.{List, [], ◌∷◌, ◌++◌}
use Prim.Native.Nat.{ℕ, suc, ◌+◌, ◌-◌, ◌≤◌, ◌<◌}
use native.Mathlib.Nat.{min-eq_left}
use native.Mathlib.Numerals.{add-one}
use native.Mathlib.Omega.{arith}
use borrow.Author.Tests.{leb-true, le-leb, lt-leb, ltb-true, ltb-false, lt-ltb, le-ltb}
use lib.Dec.{ltb}
use lib.ListN.{length, take, drop, get_or, length-take, length-append, length-drop}
use lib.Seq.{drop-cons, take-append_seam}
use Rattle.base.proofs.Patch.{patch-none, patch-length, patch-next}
use Rattle.base.specs.Lists.{patch}
use Rattle.layout.specs.Write.{placed}
use Rattle.plans.specs.declared.Plan.{Plan}
use Rattle.lanes.specs.declared.Network.{Network}
use Rattle.lines.specs.declared.Reading.{Reading}
use Rattle.traces.specs.declared.Step.{Step}
use Rattle.traces.specs.Traces.{byte_on, BytePlayed, TraceOn, trace_of, trace_on, has_room, BlockOn, more, block_on, BlockPlayed}

-- one byte more
turn : (P : Plan) (room : ℕ) (t : TraceOn) (input : List ℕ) (read : ℕ) → read < length input → has_room (length t.said) room ≡ true → more read (block_on P room t (drop read input)) ≡ more (read + 1) (block_on P room (trace_on P t (get_or input read 0)) (drop (read + 1) input))
unfolding block_on
turn P room t input read h r =
    rw (drop-cons input read 0 h, add-one read, r)
    (let B : BlockOn = block_on P room (trace_on P t (get_or input read 0)) (drop (suc read) input) in
    let e : read + (1 + B.read) ≡ suc read + B.read = omega arith in
    λ i. record { trace = B.trace; read = e i })

-- none
stop : (P : Plan) (room : ℕ) (t : TraceOn) (bs : List ℕ) → (ltb 0 (length bs) && has_room (length t.said) room) ≡ false → block_on P room t bs ≡ record { trace = t; read = 0 }
unfolding block_on
stop P room t [] e = refl
stop P room t (b ∷ bs) e = rw (rw (lt-ltb 0 (suc (length bs)) (omega arith)) at e)

-- bytes are left where the end is not reached
more_left : (a b : ℕ) → ltb 0 (b - a) ≡ ltb a b
more_left a b = go (ltb a b) refl
  where
    go : (t : Bool) → ltb a b ≡ t → ltb 0 (b - a) ≡ t
    go true e = lt-ltb 0 (b - a) (omega (arith, ltb-true a b e))
    go false e = le-ltb 0 (b - a) (omega (arith, ltb-false a b e))

-- what the loop keeps: `wrote` bytes of `out` are written, and the bytes from `read` on give what the whole block gives.
abbrev pub Kept : Plan → Network → Reading → List ℕ → List ℕ → Network → Reading → List ℕ → ℕ → ℕ → Type 0
Kept P L₀ R₀ input out₀ L R out read wrote =
    (read ≤ length input)
    × (wrote ≤ length out)
    × (length out ≡ length out₀)
    × (out ≡ patch out₀ 0 (take wrote out))
    × (more read (block_on P (length out₀) (trace_of L R (take wrote out)) (drop read input)) ≡ block_on P (length out₀) (trace_of L₀ R₀ []) input)

more-none : (B : BlockOn) → more 0 B ≡ B
more-none B = let e : 0 + B.read ≡ B.read = omega arith in λ i. record { trace = B.trace; read = e i }

pub block_start : (P : Plan) (L : Network) (R : Reading) (input out : List ℕ) → Kept P L R input out L R out 0 0
block_start P L R input out =
    (omega arith, omega arith, refl, sym (patch-none out 0), more-none (block_on P (length out) (trace_of L R []) input))

-- the front of `out` has as many bytes as are written
front_length : (out : List ℕ) (wrote : ℕ) → wrote ≤ length out → length (take wrote out) ≡ wrote
front_length out wrote h = length-take wrote out ∙ min-eq_left h

-- the front of `out` with a text behind it
front : (out text : List ℕ) (wrote : ℕ) → wrote + length text ≤ length out → take (wrote + length text) (patch out wrote text) ≡ take wrote out ++ text
unfolding patch
front out text wrote h =
    let e : wrote + length text ≡ length (take wrote out ++ text) = sym (length-append (take wrote out) text ∙ ap (λ n. n + length text) (front_length out wrote (omega arith))) in
    rw e (take-append_seam (take wrote out ++ text) (drop (length (take wrote out ++ text)) out))

-- what a byte puts fits
fits : (out text out' : List ℕ) (wrote w : ℕ) → w ≡ length text → w ≤ 42 → has_room wrote (length out) ≡ true → out' ≡ placed out wrote text → (wrote + length text ≤ length out) × (out' ≡ patch out wrote text)
unfolding has_room
fits out text out' wrote w e s t p =
    let h : wrote + length text ≤ length out = omega (arith, leb-true (wrote + 42) (length out) t) in
    (h, rw (le-leb (wrote + length text) (length out) h) at p)

pub block-next : (P : Plan) (L₀ : Network) (R₀ : Reading) (input out₀ : List ℕ) (L : Network) (R : Reading) (out : List ℕ) (read wrote b : ℕ) (r : Step) (M : Network) (out' : List ℕ) → Kept P L₀ R₀ input out₀ L R out read wrote → read < length input → has_room wrote (length out) ≡ true → b ≡ get_or input read 0 → BytePlayed P L R b out wrote r M out' → r.wrote ≤ 42 → Kept P L₀ R₀ input out₀ M r.reading out' (read + 1) (wrote + r.wrote)
block-next P L₀ R₀ input out₀ L R out read wrote b r M out' k h t e p s =
    (omega arith, omega (arith, wide, ends, given), wide ∙ k.2, kept, ap (λ t. more (read + 1) (block_on P (length out₀) t (drop (read + 1) input))) state ∙ sym (turn P (length out₀) (trace_of L R (take wrote out)) input read h room) ∙ k.4)
  where
    text : List ℕ
    text = (byte_on P L R b).text

    given : r.wrote ≡ length text
    given = ap (λ x. x.wrote) p.0

    put : (wrote + length text ≤ length out) × (out' ≡ patch out wrote text)
    put = fits out text out' wrote r.wrote given s t p.2

    ends : wrote + length text ≤ length out
    ends = put.0

    wide : length out' ≡ length out
    wide = ap length put.1 ∙ patch-length out wrote text (ends)

    room : has_room (length (take wrote out)) (length out₀) ≡ true
    room = rw (front_length out wrote k.1, ← k.2) t

    grown : take (wrote + r.wrote) out' ≡ take wrote out ++ text
    grown = rw (given, put.1) (front out text wrote ends)

    kept : out' ≡ patch out₀ 0 (take (wrote + r.wrote) out')
    kept =
        let j : wrote ≡ 0 + length (take wrote out) = omega (arith, front_length out wrote k.1) in
        let f : 0 + length (take wrote out) ≤ length out₀ = omega (arith, front_length out wrote k.1, k.1, k.2) in
        put.1 ∙ patch-next out₀ out 0 wrote (take wrote out) text k.3 j f ∙ ap (λ x. patch out₀ 0 x) (sym grown)

    state : trace_of M r.reading (take (wrote + r.wrote) out') ≡ trace_on P (trace_of L R (take wrote out)) (get_or input read 0)
    state = rw (← e) (λ i. trace_of (p.1 i) (p.0 i).reading (grown i))

pub block-end : (P : Plan) (L₀ : Network) (R₀ : Reading) (input out₀ : List ℕ) (L : Network) (R : Reading) (out : List ℕ) (read wrote : ℕ) → Kept P L₀ R₀ input out₀ L R out read wrote → (ltb read (length input) && has_room wrote (length out)) ≡ false → BlockPlayed P L₀ R₀ input out₀ (record { read = read; wrote = wrote; reading = R }) L out
block-end P L₀ R₀ input out₀ L R out read wrote k t = rw (← whole) (λ i. record { read = far i; wrote = sym (front_length out wrote k.1) i; reading = R }, refl, k.3)
  where
    said : List ℕ
    said = take wrote out

    left : (ltb 0 (length (drop read input)) && has_room (length said) (length out₀)) ≡ false
    left = rw (front_length out wrote k.1, ← k.2, length-drop read input, more_left read (length input)) t

    far : read ≡ read + 0
    far = omega arith

    whole : record { trace = trace_of L R said; read = read + 0 } ≡ block_on P (length out₀) (trace_of L₀ R₀ []) input
    whole = sym (ap (λ B. more read B) (stop P (length out₀) (trace_of L R said) (drop read input) left)) ∙ k.4

-- the code's test of room
pub room_test : (wrote room : ℕ) → wrote + 42 ≤ room → has_room wrote room ≡ true
unfolding has_room
room_test wrote room h = le-leb (wrote + 42) room h

pub no-room : (a : Bool) (wrote room : ℕ) → room < wrote + 42 → (a && has_room wrote room) ≡ false
unfolding has_room
no-room true wrote room h = lt-leb (wrote + 42) room h
no-room false wrote room h = refl

pub no-byte : (read n : ℕ) (b : Bool) → n ≤ read → (ltb read n && b) ≡ false
no-byte read n b h = rw (le-ltb read n h) refl
