-- What it means that a promise determines its result: any two results that it allows are equal.
use Rattle.std.specs.Prelude.{◌≡◌, List, ℕ}
use borrow.Fn.Kind.{ParamKind, ResultKind}
use borrow.Fn.Kinds.{Out, Dens, ended_of, res_t}
use denote.Triple.Clauses.{Ended, AtExit}
use denote.Triple.Entry.{Args, Res}
use contract.Lifetimes.{Lfts}

-- P is a function's `ensures`, over its lifetimes, its arguments, its result and its lent parameters as it returns.
abbrev pub OneResult : (n : ℕ) (ps : List (ParamKind n)) (k : ResultKind n) → Out n ps k → Type 0
OneResult n ps k P =
    (κs : Lfts n) (a : Dens κs ps) (r r' : (res_t k κs).Denot) (x x' : AtExit (ended_of n ps k) κs)
    → P κs a r x
    → P κs a r' x'
    → r ≡ r'

-- the same for what is found behind a lent parameter too
abbrev pub OneOutcome : {A : Type 0} (n : ℕ) (ps : List (ParamKind n)) (k : ResultKind n) → Out n ps k → ((κs : Lfts n) → AtExit (ended_of n ps k) κs → A) → Type 0
OneOutcome n ps k P left =
    (κs : Lfts n) (a : Dens κs ps) (r r' : (res_t k κs).Denot) (x x' : AtExit (ended_of n ps k) κs)
    → P κs a r x
    → P κs a r' x'
    → (r ≡ r') × (left κs x ≡ left κs x')

-- the same of a function that takes a struct by reference: T is its signature, and P is what its `ensures` is shown to say
abbrev pub OneLeft : {A : Type 0} (T : Ended) → ((κs : Lfts T.signature.lifetimes) → Args T.signature κs → Res T.signature κs → AtExit T κs → Type 0) → ((κs : Lfts T.signature.lifetimes) → AtExit T κs → A) → Type 0
OneLeft T P left =
    (κs : Lfts T.signature.lifetimes) (a : Args T.signature κs) (r r' : Res T.signature κs) (x x' : AtExit T κs)
    → P κs a r x
    → P κs a r' x'
    → (r ≡ r') × (left κs x ≡ left κs x')
