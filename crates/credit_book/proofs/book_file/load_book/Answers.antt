use Rattle.std.proofs.Common.{◌∙◌, sym}
use Rattle.std.proofs.lemmas.Result.{err_from_is_err_and}
use Rattle.text.proofs.BookRoomLaws.{room}
use Rattle.credit_book.proofs.FileLaws.{comes_to}
use Rattle.credit_book.proofs.book_file.load_book.Goals as goal

pub returns-in_err-read_book : goal.returns-in_err-read_book
returns-in_err-read_book c =
    let p = err_from_is_err_and c.from_residual-in_err-read_book.result c.from_residual-in_err-read_book.ensures.1 in
    rw (p.1, p.2)
    (comes_to room.first_bytes c.read_text.auto.text c.in_ok-read.ensures
    (sym c.read_book.ensures ∙ c.in_err-read_book.was))

pub returns : goal.returns
returns c =
    comes_to room.first_bytes c.read_text.auto.text c.in_ok-read.ensures
    (sym c.read_book.ensures ∙ c.in_ok-read_book.was)
