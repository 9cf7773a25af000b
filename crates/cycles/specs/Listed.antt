-- Lists of a drawing's nodes of one code, in node order: what makes one right, and arrays changed at its nodes. No public promise speaks of it.
use Rattle.std.specs.Prelude.{◌≡◌, Bool, cond, List, ℕ, zero, suc, ◌+◌, ◌<◌, eqb, get_or, set}
use Rattle.base.specs.Checks.{every}
use Rattle.cycles.specs.Inputs.{fits_in}
use Rattle.cycles.specs.Pass.{inside}

-- how many of the first n nodes have a code, so the place of node n in their list where it is one
unfoldable pub found_in : ℕ → List ℕ → ℕ → ℕ
found_in kind code zero = 0
found_in kind code (suc n) = found_in kind code n + cond (eqb (get_or code n 0) kind) 1 0

-- each of them stands at its place
pub record Listed (kind : ℕ) (code : List ℕ) (n : ℕ) (list : List ℕ) : Type 0 where
  pub placed : (i : ℕ) → i < n → get_or code i 0 ≡ kind → get_or list (found_in kind code i) 0 ≡ i

-- an array changed at the first m nodes of a list
unfoldable pub puts : List ℕ → (ℕ → ℕ) → ℕ → List ℕ → List ℕ
puts list f zero xs = xs
puts list f (suc m) xs = set (puts list f m xs) (inside (get_or list m 0)) (f m)

-- the values from place m on fit the INs of a list
abbrev pub list_fits : List ℕ → List ℕ → List ℕ → ℕ → ℕ → Bool
list_fits width list ins m per = every (λ j. fits_in (get_or width (inside (get_or list j 0)) 0) (get_or ins (m + j) 0)) per

-- what INs take from the inputs, from place m on
abbrev pub input_at : List ℕ → ℕ → ℕ → ℕ
input_at ins m j = get_or ins (m + j) 0

-- what the registers of a list hold
abbrev pub held_by : List ℕ → List ℕ → ℕ → ℕ
held_by list regs j = get_or regs (inside (get_or list j 0)) 0

-- what the registers of a list take next
abbrev pub next_by : List ℕ → List ℕ → List ℕ → ℕ → ℕ
next_by list a vals j = get_or vals (inside (get_or a (inside (get_or list j 0)) 0)) 0
