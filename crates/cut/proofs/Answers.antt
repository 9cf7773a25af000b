-- What a list of checks answers, check by check, and what the checks of a cut say of its queues.
use mathlib.Core.Path.{◌≡◌, refl, sym, ◌∙◌, ap}
use mathlib.Core.Bool.{Bool, true, false, not, ◌&&◌, ◌||◌}
use mathlib.Core.List.{List, [], ◌∷◌}
use Prim.Native.Nat.{ℕ, ◌<◌, ◌≤◌}
use native.Mathlib.Omega.{arith}
use borrow.Author.Tests.{leb-true, leb-false, le-ltb, lt-ltb, ne_eqb}
use lib.Dec.{eqb, leb, ltb, lit<}
use lib.ListN.{length, get_or, take}
use Rattle.std.specs.Prelude.{Option, None, Some, Result, Ok, Err, position}
use Rattle.base.specs.declared.Verdict.{Verdict}
use Rattle.base.specs.Checks.{passed, every, lowest, whole}
use Rattle.base.proofs.First.{lowest-good, lowest-same}
use Rattle.base.proofs.Tests.{every_true}
use Rattle.base.proofs.Verdicts.{verdict-good, verdict-bad, verdict-done, whole-good, asked-good}
use Rattle.netlist.specs.declared.Netlist.{Netlist}
use Rattle.netlist.specs.Checks.{numbers_good}
use Rattle.netlist.proofs.Numbers.{within}
use Rattle.queues.specs.declared.Queues.{Queues}
use Rattle.queues.specs.Lists.{some}
use Rattle.queues.specs.Queues.{Queue, part_of, parts_of, queues_of, queue_at}
use Rattle.queues.specs.Found.{found, queues_found}
use Rattle.queues.proofs.Listed.{some_same}
use Rattle.queues.proofs.Arrays.{count_is, parts_is, from_at, into_at, found_when}
use Rattle.queues.proofs.Whole.{parts-few}
use Rattle.cut.proofs.Positions.{position_taken}
use Rattle.cut.specs.declared.Cut.{Cut}
use Rattle.cut.specs.Checks.{and_then, parts_check, cut_queues, depth_good, joined, joined_check, entries_check, checked_by, checked, settled}
use Rattle.cut.specs.Cuts.{depth_of}

-- what follows, where a check lets pass
abbrev pub and_go : Result Unit Verdict → Result Queues Verdict → Result Queues Verdict
and_go (Ok u) r = r
and_go (Err v) r = Err v

checks_next : (k : ℕ) (c : Option ℕ) (cs : List (ℕ × Option ℕ)) (q : Queues) → 0 < k → settled (checked_by ((k, c) ∷ cs) q) ≡ and_go (passed k c) (settled (checked_by cs q))
unfolding checked_by
checks_next k None cs q h = rw (verdict-good k None cs refl)
checks_next k (Some p) cs q h = rw (verdict-bad k p (Some p) cs refl, ne_eqb k 0 (λ z. omega arith))

checks_done : (q : Queues) → settled (checked_by [] q) ≡ Ok q
unfolding checked_by
checks_done q = rw verdict-done

-- two causes of one number
both_go : (k : ℕ) (c d : Option ℕ) (r : Result Queues Verdict) → and_go (passed k (and_then c d)) r ≡ and_go (passed k c) (and_go (passed k d) r)
both_go k None d r = refl
both_go k (Some p) d r = refl

-- the checks of a cut, one behind the other
in_order : (a b c c' d d' e f : Option ℕ) (q : Queues)
    → settled (checked_by ((3, a) ∷ (7, b) ∷ (8, and_then c c') ∷ (9, and_then d d') ∷ (10, e) ∷ (11, f) ∷ []) q)
    ≡ and_go (passed 3 a) (and_go (passed 7 b) (and_go (passed 8 c) (and_go (passed 8 c') (and_go (passed 9 d) (and_go (passed 9 d') (and_go (passed 10 e) (and_go (passed 11 f) (Ok q))))))))
in_order a b c c' d d' e f q =
    rw (
      checks_next 3 a ((7, b) ∷ (8, and_then c c') ∷ (9, and_then d d') ∷ (10, e) ∷ (11, f) ∷ []) q (lit< tt),
      checks_next 7 b ((8, and_then c c') ∷ (9, and_then d d') ∷ (10, e) ∷ (11, f) ∷ []) q (lit< tt),
      checks_next 8 (and_then c c') ((9, and_then d d') ∷ (10, e) ∷ (11, f) ∷ []) q (lit< tt),
      checks_next 9 (and_then d d') ((10, e) ∷ (11, f) ∷ []) q (lit< tt),
      checks_next 10 e ((11, f) ∷ []) q (lit< tt),
      checks_next 11 f [] q (lit< tt),
      checks_done q,
      both_go 9 d d' (and_go (passed 10 e) (and_go (passed 11 f) (Ok q))),
      both_go 8 c c' (and_go (passed 9 d) (and_go (passed 9 d') (and_go (passed 10 e) (and_go (passed 11 f) (Ok q))))),
    )

pub cut_order : (n : Netlist) (c : Cut)
    → settled (checked n c)
    ≡ and_go (passed 3 (whole (numbers_good n)))
    (and_go (passed 7 (whole (leb c.labels 4096)))
    (and_go (passed 8 (whole (eqb c.nodes n.nodes)))
    (and_go (passed 8 (lowest (λ i. leb (part_of c.part i) 31) n.nodes))
    (and_go (passed 9 (whole (leb (length (cut_queues n c)) 512 && eqb c.queues (length (cut_queues n c)))))
    (and_go (passed 9 (lowest (λ q. depth_good (depth_of c q)) (length (cut_queues n c))))
    (and_go (passed 10 (joined_check n c))
    (and_go (passed 11 (entries_check n c)) (Ok (found n c.part)))))))))
cut_order n c =
    in_order (whole (numbers_good n)) (whole (leb c.labels 4096)) (whole (eqb c.nodes n.nodes)) (lowest (λ i. leb (part_of c.part i) 31) n.nodes)
    (whole (leb (length (cut_queues n c)) 512 && eqb c.queues (length (cut_queues n c)))) (lowest (λ q. depth_good (depth_of c q)) (length (cut_queues n c)))
    (joined_check n c) (entries_check n c) (found n c.part)

-- two causes of one number
both_on : (c d : Option ℕ) → and_then c d ≡ None → (c ≡ None) × (d ≡ None)
both_on None d e = (refl, e)
both_on (Some p) d e = let z : ◌≡◌ {A = ℕ} 0 1 = cc in let y : ⊥ = omega arith in absurd y

pub both_none : (c d : Option ℕ) → c ≡ None → d ≡ None → and_then c d ≡ None
both_none c d e f = rw (e, f)

pub both-good : (c d : Option ℕ) → and_then c d ≡ None → (c ≡ None) × (d ≡ None)
both-good c d e = both_on c d e

module _ (n : Netlist) (c : Cut) (g : numbers_good n ≡ true) (h : parts_check n c ≡ None) where
  fits : every (λ i. leb (part_of c.part i) 31) n.nodes ≡ true
  fits =
      every_true (λ i. leb (part_of c.part i) 31) n.nodes
      (lowest-good (λ i. leb (part_of c.part i) 31) n.nodes (both-good (whole (eqb c.nodes n.nodes)) (lowest (λ i. leb (part_of c.part i) 31) n.nodes) h).1)

  -- the queues are found
  pub found_is : queues_found n c.part ≡ found n c.part
  found_is = let w = within n g in found_when n c.part w.nodes w.outputs fits

  pub few-parts : parts_of n c.part ≤ 32
  few-parts = parts-few n c.part fits

-- the search over the arrays is the search over the queues
pub joined_is : (n : Netlist) (c : Cut) (r : Queues) → r ≡ found n c.part → r.count ≤ 512 → lowest (λ p. some r.count (λ q. eqb (get_or r.from q 0) p || eqb (get_or r.into q 0) p)) r.parts ≡ joined_check n c
joined_is n c r e l =
    let qs : List Queue = queues_of n c.part in
    let k : r.count ≡ length qs = ap (λ r. r.count) e ∙ count_is n c.part in
    let m : r.parts ≡ parts_of n c.part = ap (λ r. r.parts) e ∙ parts_is n c.part in
    let few : length qs ≤ 512 = rw (← k) l in
    rw (k, m)
    (lowest-same (λ p. some (length qs) (λ q. eqb (get_or r.from q 0) p || eqb (get_or r.into q 0) p)) (joined qs) (parts_of n c.part)
    (λ p _. some_same (length qs) (λ q. eqb (get_or r.from q 0) p || eqb (get_or r.into q 0) p) (λ q. eqb (queue_at qs q).from p || eqb (queue_at qs q).into p)
    (λ q u.
    ap (λ x. eqb x p || eqb (get_or r.into q 0) p) (ap (λ r. get_or r.from q 0) e ∙ from_at n c.part q u few)
    ∙ ap (λ x. eqb (queue_at qs q).from p || eqb x p) (ap (λ r. get_or r.into q 0) e ∙ into_at n c.part q u few))))

-- the queues that were found are as many as there are
count_of : (n : Netlist) (c : Cut) (r : Queues) → r ≡ found n c.part → r.count ≡ length (cut_queues n c)
count_of n c r e = ap (λ r. r.count) e ∙ count_is n c.part

above : (x m : ℕ) (b : Bool) → leb x m ≡ b → ltb m x ≡ not b
above x m true e = le-ltb m x (leb-true x m e)
above x m false e = lt-ltb m x (leb-false x m e)

-- the first number above 31 is the lowest node's that breaks check 8, and so it is with depths
pub parts_first : (n : Netlist) (c : Cut) → n.nodes ≤ length c.part → position (λ p. ltb 31 p) (take n.nodes c.part) ≡ lowest (λ i. leb (part_of c.part i) 31) n.nodes
parts_first n c h = position_taken (λ p. ltb 31 p) 0 (λ i. leb (part_of c.part i) 31) c.part n.nodes h (λ i l. above (get_or c.part i 0) 31 _ refl)

pub depths_first : (c : Cut) (k : ℕ) → k ≤ length c.depth → position (λ d. not (depth_good d)) (take k c.depth) ≡ lowest (λ q. depth_good (depth_of c q)) k
depths_first c k h = position_taken (λ d. not (depth_good d)) 0 (λ q. depth_good (depth_of c q)) c.depth k h (λ i l. refl)

-- what is known once check 8 let pass: the queues are found, and the parts are few
pub record Known (n : Netlist) (c : Cut) (r : Queues) : Type 0 where
  pub is : r ≡ found n c.part
  pub count : r.count ≡ length (cut_queues n c)
  pub parts : r.parts ≤ 32

pub known : (n : Netlist) (c : Cut) (r : Queues) → numbers_good n ≡ true → eqb c.nodes n.nodes ≡ true → lowest (λ i. leb (part_of c.part i) 31) n.nodes ≡ None → r ≡ queues_found n c.part → Known n c r
known n c r g e l h =
    let p = both_none (whole (eqb c.nodes n.nodes)) (lowest (λ i. leb (part_of c.part i) 31) n.nodes) (ap whole e) l in
    let f = h ∙ found_is n c g p in
    record { is = f; count = count_of n c r f; parts = rw (ap (λ r. r.parts) f ∙ parts_is n c.part) (few-parts n c g p) }

-- a whole check that let pass
pub whole_passed : (k : ℕ) (b : Bool) (x : Option ℕ) (u : Unit) → x ≡ whole b → Ok u ≡ passed k x → b ≡ true
whole_passed k b x u e h = whole-good b (sym e ∙ asked-good k x u (sym h))
