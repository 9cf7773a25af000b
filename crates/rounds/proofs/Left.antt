-- What the passes leave, put together: put rules and Finishes on arrays, each with its own promise, are the definitions on a plan and a network.
use mathlib.Core.Path.{◌≡◌, refl, subst}
use mathlib.Core.Bool.{Bool, true, false, cond}
use mathlib.Core.List.{List}
use Prim.Native.Nat.{ℕ, zero, suc, ◌+◌, ◌-◌, ◌≤◌, min}
use native.Mathlib.Omega.{arith}
use lib.ListN.{get_or}
use Rattle.base.specs.Lists.{fill}
use Rattle.puts.specs.Puts.{rules_of, Plan as Rules, Pass, Left, evaluated, needed, put_tried, put_done, put_ready, puts_after}
use Rattle.finishes.specs.Finishes.{next_held, next_count, used_after, cells_after, flags_after, finished, finishing, finishing_on}
use Rattle.plans.specs.declared.Plan.{Plan}
use Rattle.lanes.specs.declared.Network.{Network}
use Rattle.evals.specs.declared.Found.{Found}
use Rattle.spots.specs.Stores.{net_in}
use Rattle.spots.specs.Rounds.{first_pass, puts_on, finished_on, finishes_on}

pub same_nets : {a b d e j k l m : List ℕ} {f g : List Bool} → a ≡ b → d ≡ e → f ≡ g → j ≡ k → l ≡ m → net_in a d f j l ≡ net_in b e g k m
same_nets v w x y z = λ i. net_in (v i) (w i) (x i) (y i) (z i)

module _ (P : Plan) (L : Network) where
  -- Finishes, on a network M that a pass left
  abbrev pub FinishedBy : ℕ → ℕ → Network → List ℕ → ℕ → Network → Type 0
  FinishedBy lo hi M vals r N =
      (r ≡ finished (finishing_on P M lo hi) (min hi 32))
      × (N.cells ≡ cells_after P.into (finishing_on P M lo hi) (min P.queues 512) M.used M.cells)
      × (N.used ≡ used_after P.into (finishing_on P M lo hi) (min P.queues 512) M.used)
      × (N.flag ≡ flags_after P.from (finishing_on P M lo hi) (min P.queues 512) M.flag)
      × (N.held ≡ fill (next_held P.code P.ra P.part vals (finishing_on P M lo hi) M.held) (min P.nodes 1024) M.held)
      × (N.count ≡ fill (next_count (finishing_on P M lo hi) M.count) (min hi 32) M.count)

  pub left-finishes : (T : Pass) (lo hi puts r : ℕ) (M N : Network) (F : Found) → Left L T puts M F → FinishedBy lo hi M F.vals r N
      → (r ≡ finishes_on P L T lo hi) × (N ≡ finished_on P L T lo hi)
  unfolding finished_on
  left-finishes T lo hi puts r M N F t h =
      let m : FinishedBy lo hi (net_in T.cells T.used T.flag L.held L.count) T.vals r N =
      subst (λ x. FinishedBy lo hi (net_in T.cells T.used T.flag L.held L.count) x r N) t.2 (subst (λ X. FinishedBy lo hi X F.vals r N) t.1 h) in
      (m.0, same_nets m.1 m.2 m.3 m.4 m.5)

-- ---- how many can fire

pub fired-same : (R : Rules) (k : ℕ) (S : Pass) → (evaluated R k S).fired ≡ S.fired
unfolding evaluated
fired-same R k S = refl

tried-few : (R : Rules) (q : ℕ) (S : Pass) → (put_tried R q S).fired ≤ S.fired + 1
unfolding put_tried put_done
tried-few R q S = go (put_ready R q S)
  where
    go : (b : Bool) → (cond b (put_done R q S) S).fired ≤ S.fired + 1
    go true = omega arith
    go false = omega arith

puts-few : (R : Rules) (lo d : ℕ) (S : Pass) → (puts_after R lo d S).fired ≤ S.fired + d
unfolding puts_after
puts-few R lo zero S = omega arith
puts-few R lo (suc d) S =
    let a = puts-few R lo d S in
    let b = tried-few R (lo + d) (evaluated R (needed R (lo + d)) (puts_after R lo d S)) in
    let e = fired-same R (needed R (lo + d)) (puts_after R lo d S) in
    omega (arith, a, b, e)

pub puts_bounded : (P : Plan) (L : Network) (lo hi last : ℕ) → (puts_on P L lo hi last).fired ≤ 512
unfolding puts_on
puts_bounded P L lo hi last =
    let R : Rules = rules_of P L in
    let S : Pass = first_pass P.queues L.cells L.used L.flag in
    let a = puts-few R lo (min hi 512 - lo) S in
    let e = fired-same R last (puts_after R lo (min hi 512 - lo) S) in
    omega (arith, a, e)

finished-few : (fin : List Bool) (n : ℕ) → finished fin n ≤ n
unfolding finished
finished-few fin zero = omega arith
finished-few fin (suc n) = let a = finished-few fin n in let b = one (get_or fin n false) in omega (arith, a, b)
  where
    one : (b : Bool) → cond b 1 0 ≤ 1
    one true = omega arith
    one false = omega arith

pub finishes_bounded : (P : Plan) (L : Network) (T : Pass) (lo hi : ℕ) → finishes_on P L T lo hi ≤ 32
finishes_bounded P L T lo hi =
    let a = finished-few (finishing P.from P.into T.flag T.used L.count P.limit P.queues lo hi) (min hi 32) in
    omega (arith, a)
