use mir.Facts.{to_z-of_z}
use Rattle.text.proofs.StoreLaws.{adds_text}
use Rattle.text.proofs.AnswerLaws.{filed_text}
use Rattle.text.proofs.answering.put_filed.Goals as goal

pub returns : goal.returns
returns c = adds_text (filed_text _ (to_z-of_z c.ranges.part) c.unsigned_abs.ensures.value) c.fill_by_sign.ensures
