-- All parts' nodes, evaluated in one pass, each in its own part: each node's value and whether its needs are met, from what was found before it. In
-- a network these are its nodes' present values and needs (spots/proofs/Passing).
use Rattle.std.specs.Prelude.{Bool, true, false, cond, ◌&&◌, List, ℕ, zero, suc, ◌+◌, ◌*◌, ◌%◌, ltb, get_or, set}
use Rattle.codes.specs.Rows.{is_in, is_reg}
use Rattle.values.specs.Values.{value_of}
use Rattle.plans.specs.declared.Plan.{Plan}

-- The nodes' fields, by lists: code, width, the width of the second operand, k, and where each operand is read.
-- Places 0 to 1,023 are the nodes', 1,024 to 1,535 the queues' oldest tokens, and those behind are nowhere: a field that is no operand is read there.
pub record Fields : Type 0 where
  pub code : List ℕ
  pub width : List ℕ
  pub join : List ℕ
  pub k : List ℕ
  pub ra : List ℕ
  pub rb : List ℕ
  pub rc : List ℕ

abbrev pub mk : List ℕ → List ℕ → List ℕ → List ℕ → List ℕ → List ℕ → List ℕ → Fields
mk code width join k ra rb rc = record { code = code; width = width; join = join; k = k; ra = ra; rb = rb; rc = rc }

-- those of a plan
abbrev pub fields_of : Plan → Fields
fields_of P = mk P.code P.width P.join P.k P.ra P.rb P.rc

-- where a node reads, whatever number is stored
abbrev pub spot : List ℕ → ℕ → ℕ
spot r i = get_or r i 0 % 2048

-- node i's value: an IN's token, what a REG holds, else its code of what it reads
unfoldable pub value_now : Fields → List ℕ → List ℕ → ℕ → ℕ
value_now F held vals i =
    cond (is_in (get_or F.code i 0)) (get_or vals (spot F.ra i) 0)
    (cond (is_reg (get_or F.code i 0)) (get_or held i 0)
    (value_of (get_or F.code i 0) (get_or F.width i 0) (get_or F.join i 0) (get_or F.k i 0)
    (get_or vals (spot F.ra i) 0) (get_or vals (spot F.rb i) 0) (get_or vals (spot F.rc i) 0)))

-- whether its needs are met: an IN has a token, a REG needs nothing, and what is read in all three fields is met
unfoldable pub met_now : Fields → List Bool → ℕ → Bool
met_now F mets i =
    cond (is_in (get_or F.code i 0)) (get_or mets (spot F.ra i) false)
    (cond (is_reg (get_or F.code i 0)) true
    (get_or mets (spot F.ra i) false && get_or mets (spot F.rb i) false && get_or mets (spot F.rc i) false))

-- after the d nodes from lo on
unfoldable pub vals_after : Fields → List ℕ → ℕ → ℕ → List ℕ → List ℕ
vals_after F held lo zero vals = vals
vals_after F held lo (suc d) vals = set (vals_after F held lo d vals) (lo + d) (value_now F held (vals_after F held lo d vals) (lo + d))

unfoldable pub mets_after : Fields → ℕ → ℕ → List Bool → List Bool
mets_after F lo zero mets = mets
mets_after F lo (suc d) mets = set (mets_after F lo d mets) (lo + d) (met_now F (mets_after F lo d mets) (lo + d))

-- the oldest tokens of the first n queues, and whether each has one
unfoldable pub tokens_in : List ℕ → ℕ → List ℕ → List ℕ
tokens_in cells zero vals = vals
tokens_in cells (suc n) vals = set (tokens_in cells n vals) (1024 + n) (get_or cells (n * 16) 0)

unfoldable pub tokens_there : List ℕ → ℕ → List Bool → List Bool
tokens_there used zero mets = mets
tokens_there used (suc n) mets = set (tokens_there used n mets) (1024 + n) (ltb 0 (get_or used n 0))
