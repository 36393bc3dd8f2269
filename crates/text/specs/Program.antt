-- What the program writes in all.
use Rattle.std.specs.Prelude.{ℕ, ◌+◌, ◌*◌, ◌≡◌, List, [], ◌∷◌, ◌++◌}
use Rattle.figuring.specs.Tables.{Table}
use Rattle.book.specs.declared.ledger.Book.{Book}
use Rattle.text.specs.Answers.{answer_room}
use Rattle.text.specs.Desk.{Terminal, takes_all, ends}
use Rattle.text.specs.Lines.{lines_of, answers_to, book_after_lines}
use Rattle.text.specs.Listing.{listing, listing_room}

-- "reads standard input, answers each line .., then lists the cells", with one table of standards for the run. The book
-- that it starts from may be any: "a fresh book", or one that was read in
unfoldable pub terminal : Table → Book → List ℕ → List ℕ
terminal t b input = answers_to t b (lines_of input) ++ listing (book_after_lines t b (lines_of input))

-- room for what an input of n bytes can be answered: an answer for each byte and for one line more, and any listing
abbrev pub session_room : ℕ → ℕ
session_room n = answer_room * (n + 1) + listing_room

abbrev pub opened : Book → Terminal
opened b = record { book = b; held = []; said = [] }

-- the terminal once what it has said is written
abbrev pub written : Terminal → Terminal
written x = record { book = x.book; held = x.held; said = [] }

-- the input in chunks: each is answered, and the answers written, before the next is read; then last line and listing
unfoldable pub in_chunks : Table → Terminal → List (List ℕ) → List ℕ
in_chunks t x [] = (ends t x).said ++ listing (ends t x).book
in_chunks t x (c ∷ cs) = (takes_all t x c).said ++ in_chunks t (written (takes_all t x c)) cs

unfoldable pub joined : List (List ℕ) → List ℕ
joined [] = []
joined (c ∷ cs) = c ++ joined cs

-- whatever the table, the book and the chunks that the input comes in, what is written is the terminal's answer to the
-- input
abbrev pub AnyChunks : Type 0
AnyChunks =
    (t : Table) (b : Book) (chunks : List (List ℕ)) → in_chunks t (opened b) chunks ≡ terminal t b (joined chunks)
