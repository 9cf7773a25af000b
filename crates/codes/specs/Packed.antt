-- The operand counts of all codes, packed: what the private functions of the table give. No public promise speaks of it.
use Rattle.std.specs.Prelude.{cond, ℕ, eqb}

-- the counts of the 32 codes from 32 * q on, two bits for each, the first one lowest
abbrev pub counts_at : ℕ → ℕ
counts_at q = cond (eqb q 0) 0x5500000010 (cond (eqb q 1) 0xA000002AA (cond (eqb q 2) 0x1B0000000A 0))
