use borrow.Author.Rules.{rules}
use Rattle.figuring.specs.Tables.{built_in}
use Rattle.book.specs.Companions.{Sized}
use Rattle.book.specs.Coverage.{coverage}
use Rattle.book.specs.Covering.{cover_done}
use Rattle.book.specs.Rules.{own_rows, done}
use Rattle.book.specs.declared.kinds.Call.{Call}
use Rattle.book.proofs.TableLaws.{done_so, sound_so, own_so}
use Rattle.book.proofs.CoverLaws.{Coverable, coverable}
use Rattle.book.proofs.OldestFirst.{moved_small}
use Rattle.book.proofs.PayLaws.{cover_payable}
use Rattle.book.proofs.covering.covered.Goals as goal
use Rattle.book.proofs.covering.covered.Goals.{In_ok-cover_verdict}

facts : (c : In_ok-cover_verdict) → Coverable c.args.book.now c.args.c
unfolding own_rows
facts c =
    let said = c.cover_verdict.ensures built_in in
    let h = c.in_ok-cover_verdict.was in
    coverable _ _ (sound_so built_in _ (Call.Cover _) said h) (own_so built_in _ (Call.Cover _) said h)

-- the arrays' lengths
sized : (c : In_ok-cover_verdict) → Sized c.args.book.now
sized c = record { marks = search rules; parts = search rules; lots = search rules; shortages = search rules }

pub pay_all-moved-requires : goal.pay_all-moved-requires
pay_all-moved-requires c =
    let w = (goal.at.pay_all-moved-requires c).In_ok-cover_verdict in
    cover_payable _ _ (sized w) (facts w) (moved_small _ _ (sized w) (facts w))

pub returns : goal.returns
unfolding done cover_done coverage
returns c t =
    let paid = c.pay_all-moved.ensures in
    rw (paid.book, paid.sum) (done_so t _ (Call.Cover _) (c.cover_verdict.ensures t) c.in_ok-cover_verdict.was)
