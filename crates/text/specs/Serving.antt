-- Private to the desk: a chunk served line by line comes to the terminal that takes it byte by byte. t is the table.
use Rattle.std.specs.Prelude.{ℕ, ◌<◌, ◌≡◌, List, ◌++◌, length, Option, Some, None, IfSome}
use Rattle.std.specs.Borrow.{Bor}
use Rattle.figuring.specs.Tables.{Table}
use Rattle.book.specs.declared.ledger.Book.{Book}
use Rattle.book.specs.declared.kinds.Call.{Call}
use Rattle.text.specs.Answers.{posted_line, text_of}
use Rattle.text.specs.Desk.{Terminal, takes_all}

-- what a terminal with this table and this book comes to, once its next line has been looked for: where one has ended it
-- is answered, and the rest of the chunk is taken
abbrev pub goes_on : Table → Book → List ℕ → List ℕ → Option (Option Call × Bor (List ℕ)) → Terminal
goes_on t b said held None = record { book = b; held = held; said = said }
goes_on t b said held (Some (line, rest)) =
    takes_all t
    (record {
      book = (posted_line t b line).book;
      held = held;
      said = said ++ text_of (posted_line t b line).answer;
    })
    rest.now

-- the contract of `next_line`: whatever the table, the book and what was said, the terminal that takes the chunk comes to
-- what the line that ended, if one has, and the bytes held then say
pub record NextLine (held chunk : List ℕ) (r : Option (Option Call × Bor (List ℕ))) (held' : List ℕ) : Type 0 where
  pub goes :
      (t : Table) (b : Book) (said : List ℕ)
      → takes_all t (record { book = b; held = held; said = said }) chunk ≡ goes_on t b said held' r
  pub shorter : IfSome r (λ x. length x.1.now < length chunk)
