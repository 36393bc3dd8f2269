use Rattle.book.specs.Postings.{application_done}
use Rattle.book.specs.Rules.{done}
use Rattle.book.specs.declared.kinds.Call.{Call}
use Rattle.book.proofs.TableLaws.{done_so}
use Rattle.book.proofs.MoveFacts.{Applicable, application_facts}
use Rattle.book.proofs.applying.applied.Goals as goal
use Rattle.book.proofs.applying.applied.Goals.{In_ok-apply_verdict}

facts : (c : In_ok-apply_verdict) → Applicable c.args.book.now c.args.p
facts c = application_facts _ _ c.apply_verdict.ensures c.in_ok-apply_verdict.was

pub at-lot-requires : goal.at-lot-requires
at-lot-requires c = (facts (goal.at.at-lot-requires c).In_ok-apply_verdict).payer.lot

pub at-shortage-requires : goal.at-shortage-requires
at-shortage-requires c = (facts (goal.at.at-shortage-requires c).In_ok-apply_verdict).covered

pub returns : goal.returns
unfolding done application_done
returns c t =
    let paid = c.lower_figure-left.ensures in
    rw (c.lower_figure.ensures.figures, paid.figures, paid.left, c.at-lot.ensures, c.at-shortage.ensures)
    (done_so t _ (Call.Apply _) (c.apply_verdict.ensures t) c.in_ok-apply_verdict.was)
