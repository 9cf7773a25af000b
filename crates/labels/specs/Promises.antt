-- What it means that a promise determines the part that is handed back: any two results that it allows are equal in all that a program sees of them.
use Rattle.std.specs.Prelude.{◌≡◌, List, ℕ}
use borrow.Fn.Kind.{ParamKind, ResultKind}
use borrow.Fn.Kinds.{Out, Dens, ended_of, res_t}
use denote.Triple.Clauses.{AtExit}
use contract.Lifetimes.{Lfts}

-- P is a function's `ensures`, over its lifetimes, its arguments, its result and its lent parameters as it returns. A reference is a pointer, the bytes behind it, and a name that stands in proofs alone.
abbrev pub OneSeen : (n : ℕ) (ps : List (ParamKind n)) (k : ResultKind n) → Out n ps k → ((κs : Lfts n) → (res_t k κs).Denot → (ℕ × ℕ) × List ℕ) → Type 0
OneSeen n ps k P seen =
    (κs : Lfts n) (a : Dens κs ps) (r r' : (res_t k κs).Denot) (x x' : AtExit (ended_of n ps k) κs)
    → P κs a r x
    → P κs a r' x'
    → seen κs r ≡ seen κs r'
