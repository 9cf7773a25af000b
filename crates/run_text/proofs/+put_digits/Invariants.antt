-- `run_text::put_digits` ends: a number's tenth is smaller.
use Rattle.run_text.proofs.+put_digits.Given as goal

abbrev pub decreases-put_digits : goal.decreases-put_digits
decreases-put_digits l = l.x
