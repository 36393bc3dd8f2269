use borrow.Author.Rules.{rules}
use Rattle.book.specs.Sizes.{places}
use Rattle.text.proofs.ListingLaws.{none_yet, room_left, one_more}
use Rattle.text.proofs.BookRoomLaws.{mg_fits}
use Rattle.text.proofs.StoreLaws.{adds_nothing}
use Rattle.text.proofs.WritingLaws.{mg_adds, no_mg}
use Rattle.text.proofs.writing.put_mgs.Goals.{then-mg-gt0+in-Some, else-mg-gt0}
use Rattle.text.proofs.writing.put_mgs.Goals.{else-mg-gt0-via-else-mg-gt0, else-mg-gt0-via-then-mg-gt0+in-None-1}
use Rattle.text.proofs.writing.put_mgs.Goals as goal

-- The invariant: the lines of the figures before this one stand on the page.

pub loop-index-init : goal.loop-index-init
loop-index-init c = none_yet

pub put_entry-requires-clause-room : goal.put_entry-requires-clause-room
put_entry-requires-clause-room c = room_left c.loop-index.invariant places c.loop-index-test.true c.requires.room

pub loop-index-preserved : goal.loop-index-preserved
loop-index-preserved c =
    let p = c.args.pattern.now in
    let l = c.args.figures.now in
    let i = c.loop-index.index in
    let short = mg_fits p l i c.loop-index-test.true c.requires.of_a_line.1 in
    elim c.if-mg-gt0.branch [
      | then-mg-gt0+in-Some w ↦
          rw w.page-is
          (one_more c.loop-index.invariant short (mg_adds p l i w.in-Some.at w.in-Some.ensures w.if-mg-gt0.true w.put_entry.ensures))
      | else-mg-gt0 w ↦
          rw w.page-is
          (one_more c.loop-index.invariant short
          (elim w.else-mg-gt0.branch [
            | else-mg-gt0-via-else-mg-gt0 w' ↦ adds_nothing (no_mg p l i w'.if-mg-gt0.false)
            | else-mg-gt0-via-then-mg-gt0+in-None-1 w' ↦ absurd (search rules)
          ]))
    ]
