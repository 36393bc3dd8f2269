use mathlib.Core.Path.{ap, ◌∙◌}
use Rattle.text.specs.Held.{held_in}
use Rattle.text.proofs.ServeLaws.{a_last}
use Rattle.text.proofs.desk.Desk.take_end.Goals as goal

pub returns : goal.returns
returns c =
    a_last c.args.table c.args.self.now c.if-is_empty.ensures c.end_line-line.ensures.0 c.answer.ensures.book
    (ap held_in c.answer.ensures.held ∙ c.end_line-line.ensures.1) c.answer.ensures.text
