-- Each promise determines its result, and what it leaves in a lent buffer: stated of the contracts as the source has them.
use mathlib.Core.Path.{sym, ◌∙◌}
use Rattle.base.specs.Promises.{OneResult, OneOutcome}
use Rattle.lines.proofs.no_bytes.Kinds as no-bytes-kinds
use Rattle.lines.proofs.no_bytes.Reads as no_bytes
use Rattle.lines.proofs.read_byte.Kinds as read-byte-kinds
use Rattle.lines.proofs.read_byte.Reads as read_byte
use Rattle.lines.proofs.is_command.Kinds as is-command-kinds
use Rattle.lines.proofs.is_command.Reads as is-command
use Rattle.lines.proofs.sheet_bytes.Kinds as sheet-bytes-kinds
use Rattle.lines.proofs.sheet_bytes.Reads as sheet-bytes
use Rattle.lines.proofs.put_answer.Kinds as put-answer-kinds
use Rattle.lines.proofs.put_answer.Reads as put-answer
use Rattle.lines.proofs.put_value.Kinds as put-value-kinds
use Rattle.lines.proofs.put_value.Reads as put-value
use Rattle.lines.proofs.put_opened.Kinds as put-opened-kinds
use Rattle.lines.proofs.put_opened.Reads as put-opened
use Rattle.lines.proofs.put_refused.Kinds as put-refused-kinds
use Rattle.lines.proofs.put_refused.Reads as Put-refused

pub no_bytes_one : OneResult 0 no-bytes-kinds.ps no-bytes-kinds.r no_bytes.Post
no_bytes_one κs a r r' x x' p q = p ∙ sym q

pub read-byte-one : OneResult 0 read-byte-kinds.ps read-byte-kinds.r read_byte.Post
read-byte-one κs a r r' x x' p q = p ∙ sym q

pub is_command_one : OneResult 0 is-command-kinds.ps is-command-kinds.r is-command.Post
is_command_one κs a r r' x x' p q = p ∙ sym q

pub sheet-bytes-one : OneResult 0 sheet-bytes-kinds.ps sheet-bytes-kinds.r sheet-bytes.Post
sheet-bytes-one κs a r r' x x' p q = p ∙ sym q

pub put-answer-one : OneOutcome 1 put-answer-kinds.ps put-answer-kinds.r put-answer.Post (λ κs x. x.0.now)
put-answer-one κs a r r' x x' p q = (p.0 ∙ sym q.0, p.1 ∙ sym q.1)

pub put-value-one : OneOutcome 1 put-value-kinds.ps put-value-kinds.r put-value.Post (λ κs x. x.0.now)
put-value-one κs a r r' x x' p q = (p.0 ∙ sym q.0, p.1 ∙ sym q.1)

pub put-opened-one : OneOutcome 1 put-opened-kinds.ps put-opened-kinds.r put-opened.Post (λ κs x. x.0.now)
put-opened-one κs a r r' x x' p q = (p.0 ∙ sym q.0, p.1 ∙ sym q.1)

pub put-refused-one : OneOutcome 1 put-refused-kinds.ps put-refused-kinds.r Put-refused.Post (λ κs x. x.0.now)
put-refused-one κs a r r' x x' p q = (p.0 ∙ sym q.0, p.1 ∙ sym q.1)
