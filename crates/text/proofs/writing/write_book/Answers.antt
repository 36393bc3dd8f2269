use native.Mathlib.Omega.{arith}
use mathlib.Core.Path.{◌≡◌, sym, ap, ◌∙◌}
use lib.ListN.{length}
use Rattle.text.specs.BookText.{book_text}
use Rattle.text.specs.Placing.{HasRoom}
use Rattle.text.proofs.StoreLaws.{front, written_room}
use Rattle.text.proofs.BookRoomLaws.{longest}
use Rattle.text.proofs.WritingLaws.{unsound, put_or_not}
use Rattle.text.proofs.writing.write_book.Goals as goal
use Rattle.text.proofs.writing.write_book.Goals.{After-new-page}

-- The text is put together on a page of the writer's own, and then put into the buffer, if it fits.

room : (c : After-new-page) → HasRoom (length (book_text c.args.book.now)) c.new-page.result
room c = omega (arith, longest c.args.book.now, c.new-page.ensures.at_start, ap length c.new-page.ensures.untouched)

pub returns-then-not-is_sound : goal.returns-then-not-is_sound
returns-then-not-is_sound c = unsound _ _ (sym c.if-not-is_sound.ensures)

pub written-requires : goal.written-requires
written-requires c =
    written_room c.put_book.ensures c.new-page.ensures.at_start (room (goal.at.written-requires c).After-new-page)

pub returns : goal.returns
returns c =
    let e : c.written.result.now ≡ book_text c.args.book.now =
    c.written.ensures
    ∙ front c.put_book.ensures c.new-page.ensures.at_start (room (goal.at.returns c).After-new-page) in
    rw c.ok_or.ensures.value
    (put_or_not c.args.book.now c.args.out.now (sym c.if-not-is_sound.ensures) (rw e at c.put_bytes.ensures))
