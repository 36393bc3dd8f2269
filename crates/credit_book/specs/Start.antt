-- What comes before a run, by the arguments and by what became of the two files: its table of standards, and the book that
-- it begins with; or a refusal; or a failure, which was told.
use Rattle.std.specs.Prelude.{Option, None, Some, Result, Ok, Err, ◌≡◌, unwrap_or}
use Rattle.figuring.specs.Tables.{Table, built_in}
use Rattle.book.specs.declared.answers.Refusal.{Refusal}
use Rattle.credit_book.specs.declared.arguments.Asked.{Asked}
use Rattle.credit_book.specs.declared.files.Unusable.{Unusable}
use Rattle.credit_book.specs.declared.start.Start.{Start}
use Rattle.credit_book.specs.declared.start.Halt.{Halt}
use Rattle.credit_book.specs.StdFile.{StdFileBy}
use Rattle.credit_book.specs.BookFile.{FirstBookBy}

-- the table of a run, by that of std.txt: card 7, "(built-in table where it is absent)"
abbrev pub table_or_built_in : Option Table → Table
table_or_built_in found = unwrap_or found built_in

-- without known arguments there is no run. A run has what is asked for, what became of std.txt, and the book of the file
-- that is asked for. Else std.txt gives no table; or, with what became of std.txt at hand, that file gives no book
abbrev pub PreparedBy : Option Asked → Result Start Halt → Type 0
PreparedBy None result = result ≡ Err Halt.Arguments
PreparedBy (Some asked) (Ok start) =
    (start.asked ≡ asked) × (StdFileBy (Ok start.table) × FirstBookBy asked.read (Ok start.book))
PreparedBy (Some asked) (Err Halt.Arguments) = ⊥
PreparedBy (Some asked) (Err (Halt.Table why)) = StdFileBy (Err why)
PreparedBy (Some asked) (Err (Halt.Book why)) =
    ((found : Option Table) × StdFileBy (Ok found)) × FirstBookBy asked.read (Err why)

-- the refusal that is answered where there is no run
abbrev pub refusal_of : Halt → Option Refusal
refusal_of Halt.Arguments = None
refusal_of (Halt.Table (Unusable.Refused n)) = Some n
refusal_of (Halt.Table Unusable.Unreadable) = None
refusal_of (Halt.Book (Unusable.Refused n)) = Some n
refusal_of (Halt.Book Unusable.Unreadable) = None
