use native.Mathlib.Omega.{arith}
use Rattle.figuring.specs.Tables.{built_in}
use Rattle.book.specs.Postings.{close_done}
use Rattle.book.specs.Rules.{own_rows, done}
use Rattle.book.specs.declared.kinds.Call.{Call}
use Rattle.book.proofs.TableLaws.{done_so, sound_so, own_so}
use Rattle.book.proofs.CloseFacts.{Closable, closable}
use Rattle.book.proofs.closing.closed.Goals as goal
use Rattle.book.proofs.closing.closed.Goals.{In_ok-close_verdict}

facts : (c : In_ok-close_verdict) → Closable c.args.book.now c.args.year
unfolding own_rows
facts c =
    let said = c.close_verdict.ensures built_in in
    let h = c.in_ok-close_verdict.was in
    closable _ _ (sound_so built_in _ (Call.Close _) said h) (own_so built_in _ (Call.Close _) said h)

pub net_cells-short-requires : goal.net_cells-short-requires
net_cells-short-requires c =
    let w = facts (goal.at.net_cells-short-requires c).In_ok-close_verdict in
    (w.sound, w.upto)

pub overflow_add-book : goal.overflow_add-book
overflow_add-book c =
    rw c.net_cells-short.ensures.book (omega (arith, facts (goal.at.overflow_add-book c).In_ok-close_verdict))

pub returns : goal.returns
unfolding done close_done
returns c t =
    let e = c.net_cells-short.ensures in
    rw (e.book, e.short) (done_so t _ (Call.Close _) (c.close_verdict.ensures t) c.in_ok-close_verdict.was)
