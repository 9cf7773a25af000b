-- The firing sum: over parts, finished cycles times (put rules + 1), plus flags on (outline, "Rules of the network").
use Rattle.std.specs.Prelude.{ℕ, zero, suc, ◌+◌, ◌*◌, eqb}
use Rattle.nets.specs.Lists.{bit}
use Rattle.nets.specs.Net.{Net}
use Rattle.nets.specs.State.{State}

-- f 0 + f 1 + .. + f (n - 1)
unfoldable pub sum_of : ℕ → (ℕ → ℕ) → ℕ
sum_of zero f = 0
sum_of (suc n) f = sum_of n f + f n

-- how many put rules a part has
unfoldable pub put_rules : Net → ℕ → ℕ
put_rules N p = sum_of N.queues (λ q. bit (eqb (N.from q) p))

unfoldable pub total : Net → State → ℕ
total N s = sum_of N.parts (λ p. s.count p * (put_rules N p + 1)) + sum_of N.queues (λ q. bit (s.flag q))
