-- `run_text::put_hex`: a front of 'x' is written, or 'x', the bytes before one and a front of that byte.
use Rattle.run_text.proofs.Fronts.{front_before, hex_front, on_err}
use Rattle.run_text.proofs.put_hex.Goals as goal

pub returns-in_err-put_word-clause-failed : goal.returns-in_err-put_word-clause-failed
returns-in_err-put_word-clause-failed g c = on_err _ (front_before _ _ _ _ c.in_err-put_word.ensures.failed)

pub returns-in_err-put_byte-clause-failed : goal.returns-in_err-put_byte-clause-failed
returns-in_err-put_byte-clause-failed g c = on_err _ (hex_front _ _ _ _ _ c.loop-x.x-index c.loop-x-test.true c.in_ok-put_word.ensures.printed c.loop-x.invariant c.in_err-put_byte.ensures.failed)
