-- What is asked of the front of a list is asked of its first places, and its largest entry is theirs.
use Rattle.std.proofs.Common.{◌≡◌, ℕ, zero, suc, ◌≤◌, max, Bool, List, length, get_or, take, fold, refl, ap, ◌∙◌, add-one, arith}
use lib.Seq.{length-take-le}
use Rattle.std.proofs.lemmas.List.{get_or-take}
use Rattle.std.proofs.lemmas.List.Sums.{fold_more}
use Rattle.std.specs.List.{list_all}
use Rattle.base.specs.Checks.{every}
use Rattle.base.proofs.Tests.{all-every}
use Rattle.queues.specs.Lists.{largest}

pub all_taken : (t : ℕ → Bool) (xs : List ℕ) (n : ℕ) → n ≤ length xs → list_all t (take n xs) ≡ every (λ i. t (get_or xs i 0)) n
all_taken t xs n h =
    let k : length (take n xs) ≡ n = length-take-le n xs h in
    all-every t (λ i. t (get_or xs i 0)) (take n xs) (λ i l. ap t (get_or-take n xs i 0 (rw (← k) l)))
    ∙ ap (λ m. every (λ i. t (get_or xs i 0)) m) k

pub largest_taken : (xs : List ℕ) (n : ℕ) → n ≤ length xs → fold max 0 (take n xs) ≡ largest n (λ i. get_or xs i 0)
unfolding largest
largest_taken xs zero h = refl
largest_taken xs (suc n) h =
    let e : fold max 0 (take (suc n) xs) ≡ max (fold max 0 (take n xs)) (get_or xs n 0) = rw (add-one n) at (fold_more max 0 xs n 0 (omega arith)) in
    e ∙ rw (largest_taken xs n (omega arith)) (omega arith)
