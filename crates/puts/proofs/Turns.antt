-- A turn of the pass: the nodes that the rule needs are evaluated, then it is tried.
use Rattle.std.proofs.Common.{◌≡◌, Bool, List, ℕ, suc, ◌+◌, ◌-◌, ◌≤◌, min, max, arith}
use Rattle.plans.specs.declared.Plan.{Plan as Opened}
use Rattle.lanes.specs.declared.Network.{Network}
use Rattle.evals.specs.Passes.{vals_after, mets_after}
use Rattle.puts.specs.Puts.{Plan, Pass, mk_pass, rules_of, needed, evaluated, put_tried, puts_after}

-- a turn changes nothing that rules only ask
pub rules-same : (P : Opened) (N M : Network) → N.held ≡ M.held → N.count ≡ M.count → rules_of P N ≡ rules_of P M
rules-same P N M h k = rw (h, k)

pub puts_none : (P : Plan) (lo : ℕ) (S : Pass) → S ≡ puts_after P lo (lo - lo) S
unfolding puts_after
puts_none P lo S = let s : lo - lo ≡ 0 = omega arith in rw s

-- what evaluating leaves
pub evaluated_is : (P : Plan) (n m : ℕ) (held : List ℕ) (S : Pass) (vals : List ℕ) (mets : List Bool)
    → held ≡ P.held
    → m ≡ max S.seen n
    → vals ≡ vals_after P.fields held S.seen (min n 1024 - S.seen) S.vals
    → mets ≡ mets_after P.fields S.seen (min n 1024 - S.seen) S.mets
    → mk_pass m S.fired S.cells S.used S.flag vals mets ≡ evaluated P n S
unfolding evaluated
evaluated_is P n m held S vals mets k h e g = rw (h, e, g, k)

pub puts-turn : (P : Plan) (lo q n : ℕ) (S₀ S E T : Pass) → lo ≤ q → S ≡ puts_after P lo (q - lo) S₀ → n ≡ needed P q → E ≡ evaluated P n S → T ≡ put_tried P q E → T ≡ puts_after P lo (q + 1 - lo) S₀
unfolding puts_after
puts-turn P lo q n S₀ S E T h e hn he ht =
    let s : q + 1 - lo ≡ suc (q - lo) = omega arith in
    let t : lo + (q - lo) ≡ q = omega arith in
    rw (s, t, ← e, ← hn, ← he) ht
