-- `run_text::put_image`: a front of the image's text is written, or that text and a front of the last word.
use Rattle.run_text.proofs.Fronts.{image_before, image_behind, on_err}
use Rattle.run_text.proofs.put_image.Goals as goal

pub returns-in_err-put_same-clause-failed : goal.returns-in_err-put_same-clause-failed
returns-in_err-put_same-clause-failed g c = on_err _ (image_before c.args.length c.min-end.result c.args.buffer.now c.args.sheet.now c.min-end.ensures _ _ _ c.in_err-put_same.ensures.failed)

pub returns-clause-failed : goal.returns-clause-failed
returns-clause-failed g c = image_behind c.args.length c.min-end.result c.args.buffer.now c.args.sheet.now c.min-end.ensures _ _ _ c.put_either.result c.untouched.result c.untouched.ensures c.in_ok-put_same.ensures.printed c.put_either.ensures.failed
