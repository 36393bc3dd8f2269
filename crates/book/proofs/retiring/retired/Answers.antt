use Rattle.book.specs.Postings.{retirement_done}
use Rattle.book.specs.Rules.{done}
use Rattle.book.specs.declared.kinds.Call.{Call}
use Rattle.book.proofs.TableLaws.{done_so}
use Rattle.book.proofs.MoveFacts.{Retirable, retirement_facts}
use Rattle.book.proofs.retiring.retired.Goals as goal
use Rattle.book.proofs.retiring.retired.Goals.{In_ok-retire_verdict}

facts : (c : In_ok-retire_verdict) → Retirable c.args.book.now c.args.p
facts c = retirement_facts _ _ c.retire_verdict.ensures c.in_ok-retire_verdict.was

pub at-lot-requires : goal.at-lot-requires
at-lot-requires c = (facts (goal.at.at-lot-requires c).In_ok-retire_verdict).payer.lot

pub returns : goal.returns
unfolding done retirement_done
returns c t =
    let paid = c.lower_figure-left.ensures in
    rw (paid.figures, paid.left, c.at-lot.ensures)
    (done_so t _ (Call.Retire _) (c.retire_verdict.ensures t) c.in_ok-retire_verdict.was)
