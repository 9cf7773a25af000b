-- What two results of a call that prints or reads have in common where it went well: the result, and what it leaves in a writer or a reader whose bytes are known.
use Rattle.std.specs.Prelude.{◌≡◌, ℕ, suc, List, min, take, drop, Option, Some, Result, IfOk, IfSome, IsSome}
use Rattle.run_text.specs.Texts.{first_in}
use borrow.Fn.Kind.{ParamKind, ResultKind}
use borrow.Fn.Kinds.{Out, Dens, ended_of, res_t}
use contract.Lifetimes.{Lfts}
use denote.Triple.Clauses.{AtExit}

-- what any two results of a call that went well have in common: they are equal, and leave the same bytes in a writer whose bytes are known
abbrev pub OneIfOk : (n : ℕ) (ps : List (ParamKind n)) (k : ResultKind n) (good : (κs : Lfts n) → (res_t k κs).Denot → Type 0) (before : (κs : Lfts n) → Dens κs ps → Option (List ℕ)) (after : (κs : Lfts n) → AtExit (ended_of n ps k) κs → Option (List ℕ)) → Out n ps k → Type 0
OneIfOk n ps k good before after P =
    (κs : Lfts n) (a : Dens κs ps) (r r' : (res_t k κs).Denot) (x x' : AtExit (ended_of n ps k) κs)
    → P κs a r x
    → P κs a r' x'
    → good κs r
    → good κs r'
    → (r ≡ r') × (IsSome (before κs a) → after κs x ≡ after κs x')

-- two reads that went well, of a reader whose bytes are known: they give as many bytes, the same ones, and leave the same
abbrev pub SameRead : {E : Type 0} → Result ℕ E → Result ℕ E → Option (List ℕ) → Option (List ℕ) → List ℕ → List ℕ → Type 0
SameRead r r' b b' bs bs' = (r ≡ r') × (b ≡ b') × IfOk r (λ n. take n bs ≡ take n bs')

-- a line of n bytes is read into so much room, from a reader whose bytes are known: they are those before the first line end, as far as there is room, and the
-- reader has what comes behind them and that line end
abbrev pub ReadsLine : ℕ → Option (List ℕ) → Option (List ℕ) → ℕ → List ℕ → Type 0
ReadsLine room old new n bytes =
    IfSome old (λ xs.
    (n ≡ min room (first_in 10 xs)) × (bytes ≡ take n xs) × (new ≡ Some (drop (min room (suc (first_in 10 xs))) xs)))
