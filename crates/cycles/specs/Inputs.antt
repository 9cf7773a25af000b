-- The values that a cycle takes: one for each IN, in node order, each below 2^w.
use Rattle.std.specs.Prelude.{Bool, true, cond, List, ℕ, zero, suc, ◌+◌, ◌^◌, ltb, get_or}
use Rattle.base.specs.Checks.{every}
use Rattle.codes.specs.Rows.{is_in}

-- 1 for an IN
abbrev pub in_flag : ℕ → ℕ
in_flag code = cond (is_in code) 1 0

-- the INs among the first n nodes, so the place of node n's value where it is one
unfoldable pub ins_in : List ℕ → ℕ → ℕ
ins_in code zero = 0
ins_in code (suc n) = ins_in code n + in_flag (get_or code n 0)

-- a value is below 2^w
abbrev pub fits_in : ℕ → ℕ → Bool
fits_in w x = ltb x (2 ^ w)

-- a node's value, where the node is an IN
abbrev pub fits_node : ℕ → ℕ → ℕ → Bool
fits_node code w x = cond (is_in code) (fits_in w x) true

-- the values from place m on, for the INs of the first n nodes
abbrev pub all_fit_in : List ℕ → List ℕ → List ℕ → ℕ → ℕ → Bool
all_fit_in code width ins m n = every (λ i. fits_node (get_or code i 0) (get_or width i 0) (get_or ins (m + ins_in code i) 0)) n
