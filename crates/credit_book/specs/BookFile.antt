-- Card 8: the book that a run begins with, by what became of the file named after `--read`.
use Rattle.std.specs.Prelude.{ℕ, suc, ◌≡◌, Option, None, Some, Result, Ok, Err}
use Rattle.book.specs.Postings.{fresh_book}
use Rattle.book.specs.declared.ledger.Book.{Book}
use Rattle.text.specs.Loads.{Read, accepted, refused}
use Rattle.text.specs.BookText.{book_room}
use Rattle.text.specs.BookReading.{read_book}
use Rattle.credit_book.specs.declared.files.Unusable.{Unusable}
use Rattle.credit_book.specs.Files.{ComesTo, FileGives}

-- so many bytes of the file are read: one more than any book's text has
abbrev pub text_room : ℕ
text_room = suc book_room

-- its text comes to v
abbrev pub BookComesTo : Read Book → Type 0
BookComesTo v = ComesTo text_room read_book v

-- what became of a file that was opened
abbrev pub FromBookFile : Result Book Unusable → Type 0
FromBookFile r = FileGives text_room read_book r

-- where no file is named the book is a fresh one; one that is named may not open
abbrev pub FirstBookBy : Option ℕ → Result Book Unusable → Type 0
FirstBookBy None r = r ≡ Ok fresh_book
FirstBookBy (Some place) (Ok b) = BookComesTo (accepted b)
FirstBookBy (Some place) (Err (Unusable.Refused n)) = BookComesTo (refused n)
FirstBookBy (Some place) (Err Unusable.Unreadable) = Unit {0}
