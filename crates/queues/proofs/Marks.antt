-- The marks say which nodes are used in which part: a word for each node, a bit for each part. A mark sets one bit of one word, so each bit tells of its own uses alone.
use Rattle.std.proofs.Common.{◌≡◌, ℕ, zero, suc, ◌+◌, ◌^◌, ◌<◌, Bool, true, false, ◌&&◌, ◌||◌, eqb, ltb, List, [], ◌∷◌, length, get_or, take, set, sym, refl, ap, ◌∙◌, add-one, arith, length-set, get_or-set_other, get_or-set_same, lt-ltb, eqb-true}
use mathlib.Core.Bool.{and-false}
use borrow.Author.Tests.{eqb-false}
use lib.Bits.{bit_or}
use Rattle.codes.specs.Rows.{count_of}
use Rattle.codes.specs.Records.{operands_in}
use Rattle.netlist.specs.declared.Netlist.{Netlist}
use Rattle.netlist.specs.Netlists.{record_of}
use Rattle.queues.specs.Lists.{some, member}
use Rattle.queues.specs.Pass.{bit_of, mark_if, marked}
use Rattle.queues.proofs.Words.{or_bit, one_bit}

pub mark_length : (b : Bool) (x p : ℕ) (l : List ℕ) → length (mark_if b x p l) ≡ length l
mark_length true x p l = length-set l x (bit_or (get_or l x 0) (2 ^ p))
mark_length false x p l = refl

pub marked-length : (n : Netlist) (part : List ℕ) (k : ℕ) (l : List ℕ) → length (marked n part k l) ≡ length l
unfolding marked
marked-length n part zero l = refl
marked-length n part (suc k) l =
    let m : ℕ = count_of (get_or n.code k 0) in
    let p : ℕ = get_or part k 0 in
    let l0 : List ℕ = marked n part k l in
    let l1 : List ℕ = mark_if (ltb 0 m) (get_or n.a k 0) p l0 in
    let l2 : List ℕ = mark_if (ltb 1 m) (get_or n.b k 0) p l1 in
    mark_length (ltb 2 m) (get_or n.c k 0) p l2 ∙ mark_length (ltb 1 m) (get_or n.b k 0) p l1 ∙ mark_length (ltb 0 m) (get_or n.a k 0) p l0 ∙ marked-length n part k l

-- one node's three fields, a turn of the pass
pub mark_turn : (n : Netlist) (part : List ℕ) (i m : ℕ) (l₀ l l1 l2 l3 : List ℕ)
    → l ≡ marked n part i l₀
    → m ≡ count_of (get_or n.code i 0)
    → l1 ≡ mark_if (ltb 0 m) (get_or n.a i 0) (get_or part i 0) l
    → l2 ≡ mark_if (ltb 1 m) (get_or n.b i 0) (get_or part i 0) l1
    → l3 ≡ mark_if (ltb 2 m) (get_or n.c i 0) (get_or part i 0) l2
    → l3 ≡ marked n part (i + 1) l₀
unfolding marked
mark_turn n part i m l₀ l l1 l2 l3 e h e1 e2 e3 = rw (add-one i, e3, e2, e1, h, e)

flip : (a b : Bool) → (a || b) ≡ ((b && true) || a)
flip true true = refl
flip true false = refl
flip false true = refl
flip false false = refl

-- one mark, as it is found at a node and a part
mark_on : (x r i p : ℕ) (l : List ℕ) → i < length l → p < 32 → r < 32 → (t : Bool) → eqb i x ≡ t → bit_of (get_or (set l x (bit_or (get_or l x 0) (2 ^ r))) i 0) p ≡ ((eqb r p && t) || bit_of (get_or l i 0) p)
mark_on x r i p l h hp hr true e =
    let j : i ≡ x = eqb-true i x e in
    let v : ℕ = bit_or (get_or l x 0) (2 ^ r) in
    ap (λ k. bit_of (get_or (set l x v) k 0) p) j
    ∙ ap (λ w. bit_of w p) (get_or-set_same l x v 0 (rw j at h))
    ∙ or_bit (get_or l x 0) (2 ^ r) p
    ∙ ap (λ b. bit_of (get_or l x 0) p || b) (one_bit r p hr hp)
    ∙ flip (bit_of (get_or l x 0) p) (eqb r p)
    ∙ ap (λ k. (eqb r p && true) || bit_of (get_or l k 0) p) (sym j)
mark_on x r i p l h hp hr false e =
    ap (λ w. bit_of w p) (get_or-set_other l x i (bit_or (get_or l x 0) (2 ^ r)) 0 (eqb-false i x e)) ∙ rw (and-false (eqb r p))

mark_at : (b : Bool) (x r i p : ℕ) (l : List ℕ) → length l ≡ 1024 → i < 1024 → p < 32 → r < 32 → bit_of (get_or (mark_if b x r l) i 0) p ≡ ((b && (eqb r p && eqb i x)) || bit_of (get_or l i 0) p)
mark_at false x r i p l e h hp hr = refl
mark_at true x r i p l e h hp hr = mark_on x r i p l (omega arith) hp hr (eqb i x) refl

take_none : (k : ℕ) → take {A = ℕ} k [] ≡ []
take_none zero = refl
take_none (suc k) = refl

turned : (a b c y : Bool) → (c || (b || (a || y))) ≡ ((a || (b || (c || false))) || y)
turned true true true y = refl
turned true true false y = refl
turned true false true y = refl
turned true false false y = refl
turned false true true y = refl
turned false true false y = refl
turned false false true y = refl
turned false false false y = refl

-- the three fields, as many as the code takes, are the operands
three_is : (m i a b c : ℕ) (s y : Bool) → ((ltb 2 m && (s && eqb i c)) || ((ltb 1 m && (s && eqb i b)) || ((ltb 0 m && (s && eqb i a)) || y))) ≡ ((s && member i (take m (a ∷ b ∷ c ∷ []))) || y)
three_is zero i a b c s y = rw (and-false s)
three_is (suc zero) i a b c true y = turned (eqb i a) false false y
three_is (suc zero) i a b c false y = refl
three_is (suc (suc zero)) i a b c true y = turned (eqb i a) (eqb i b) false y
three_is (suc (suc zero)) i a b c false y = refl
three_is (suc (suc (suc k))) i a b c true y =
    rw (lt-ltb 2 (suc (suc (suc k))) (omega arith), lt-ltb 1 (suc (suc (suc k))) (omega arith), lt-ltb 0 (suc (suc (suc k))) (omega arith), take_none k) (turned (eqb i a) (eqb i b) (eqb i c) y)
three_is (suc (suc (suc k))) i a b c false y =
    rw (lt-ltb 2 (suc (suc (suc k))) (omega arith), lt-ltb 1 (suc (suc (suc k))) (omega arith), lt-ltb 0 (suc (suc (suc k))) (omega arith))

-- after k nodes a bit is set exactly where one of them, in that part, uses the node
pub marks_at : (n : Netlist) (part : List ℕ) (k i p : ℕ) (l : List ℕ)
    → length l ≡ 1024
    → ((j k : ℕ) → bit_of (get_or l j 0) k ≡ false)
    → i < 1024
    → p < 32
    → ((b : ℕ) → b < k → get_or part b 0 < 32)
    → bit_of (get_or (marked n part k l) i 0) p ≡ some k (λ j. eqb (get_or part j 0) p && member i (operands_in (record_of n j)))
unfolding marked some
marks_at n part zero i p l e none h hp few = none i p
marks_at n part (suc k) i p l e none h hp few =
    let m : ℕ = count_of (get_or n.code k 0) in
    let r : ℕ = get_or part k 0 in
    let hr : r < 32 = few k (omega arith) in
    let l0 : List ℕ = marked n part k l in
    let e0 : length l0 ≡ 1024 = marked-length n part k l ∙ e in
    let l1 : List ℕ = mark_if (ltb 0 m) (get_or n.a k 0) r l0 in
    let e1 : length l1 ≡ 1024 = mark_length (ltb 0 m) (get_or n.a k 0) r l0 ∙ e0 in
    let l2 : List ℕ = mark_if (ltb 1 m) (get_or n.b k 0) r l1 in
    let e2 : length l2 ≡ 1024 = mark_length (ltb 1 m) (get_or n.b k 0) r l1 ∙ e1 in
    let q = marks_at n part k i p l e none h hp (λ j g. few j (omega arith)) in
    mark_at (ltb 2 m) (get_or n.c k 0) r i p l2 e2 h hp hr
    ∙ ap (λ y. (ltb 2 m && (eqb r p && eqb i (get_or n.c k 0))) || y) (mark_at (ltb 1 m) (get_or n.b k 0) r i p l1 e1 h hp hr)
    ∙ ap (λ y. (ltb 2 m && (eqb r p && eqb i (get_or n.c k 0))) || ((ltb 1 m && (eqb r p && eqb i (get_or n.b k 0))) || y)) (mark_at (ltb 0 m) (get_or n.a k 0) r i p l0 e0 h hp hr)
    ∙ ap (λ y. (ltb 2 m && (eqb r p && eqb i (get_or n.c k 0))) || ((ltb 1 m && (eqb r p && eqb i (get_or n.b k 0))) || ((ltb 0 m && (eqb r p && eqb i (get_or n.a k 0))) || y))) q
    ∙ three_is m i (get_or n.a k 0) (get_or n.b k 0) (get_or n.c k 0) (eqb r p) _
