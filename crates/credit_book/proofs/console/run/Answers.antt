use Rattle.std.proofs.Common.{ap}
use Rattle.text.specs.declared.desk.Desk.{Desk}
use Rattle.credit_book.proofs.RunLaws.{ran_to_end, ran_short}
use Rattle.credit_book.proofs.console.run.Goals as goal

pub returns-in-Ended : goal.returns-in-Ended
returns-in-Ended c =
    let read = rw (ap (λ (d : Desk). d.book) c.open-desk.ensures) at c.read_all-input.ensures.read in
    let closes = rw (c.read_all-input.ensures.same_table, c.read_all-input.ensures.same_desk) at c.close.ensures in
    ran_to_end _ _ _ _ read c.in-Ended.is closes

pub returns-in_default : goal.returns-in_default
returns-in_default c =
    let read = rw (ap (λ (d : Desk). d.book) c.open-desk.ensures) at c.read_all-input.ensures.read in
    ran_short _ _ _ read c.in_default.not-Ended
