-- Claims about a book that goes from one terminal to the next: card 8, "Moving to a new terminal needs the whole book as
-- text". As those of Shown, whose numbers go on here, they are of every table, every input and every book b that the
-- first terminal begins with, a sound one where its text is spoken of.
use Rattle.std.specs.Prelude.{ℕ, true, List, ◌++◌, ◌≡◌}
use Rattle.figuring.specs.Tables.{Table}
use Rattle.book.specs.Soundness.{sound}
use Rattle.book.specs.Companions.{Sized}
use Rattle.book.specs.Demand3.{opening_of}
use Rattle.book.specs.declared.ledger.Book.{Book}
use Rattle.text.specs.Program.{terminal}
use Rattle.text.specs.BookText.{book_text}
use Rattle.text.specs.Loads.{accepted}
use Rattle.text.specs.BookReading.{read_book}
use Rattle.text.specs.RoundTrip.{Marks64, ReadSound}
use Rattle.shown.specs.Calls.{answers, texts, postings, final_book}
use Rattle.shown.specs.Statement.{statement}
use Rattle.shown.specs.Shown.{Demands, OnScreen}

-- One terminal, begun with b, takes some whole lines, and a new one, begun with c, takes the rest: together they answer,
-- post and list what one terminal would.
pub record GoesOn (t : Table) (b : Book) (first : List ℕ) (c : Book) (rest : List ℕ) : Type 0 where
  pub answered : answers t b (first ++ rest) ≡ answers t b first ++ answers t c rest
  pub posted : postings t b (first ++ rest) ≡ postings t b first ++ postings t c rest
  pub book : final_book t b (first ++ rest) ≡ final_book t c rest
  pub shows : terminal t b (first ++ rest) ≡ texts (answers t b first) ++ terminal t c rest
  -- of a sound book: what is counted from the book that was moved, which "carries no history", is what is counted from
  -- the first one with all that was posted since
  pub counts :
      Sized b → sound b ≡ true
      → statement (opening_of c) (postings t c rest) ≡ statement (opening_of b) (postings t b (first ++ rest))

-- 6, moving: the new terminal begins with the book that the first left.
abbrev pub MovesOn : Table → Book → List ℕ → List ℕ → Type 0
MovesOn t b first rest = GoesOn t b first (final_book t b first) rest

-- 7, written out: after any input the text of the terminal's book is read as that very book.
pub record WrittenOut (t : Table) (b : Book) (input : List ℕ) : Type 0 where
  -- no posting makes a mark of more than 64 bits
  pub marks : Marks64 (final_book t b input)
  pub same_book : read_book (book_text (final_book t b input)) ≡ accepted (final_book t b input)

-- 8, moved as text: the text of the book that the first terminal left is read as that very book, and a new terminal,
-- begun with the book that this text is read as, goes on as the first would have.
pub record MovedAsText (t : Table) (b : Book) (first rest : List ℕ) : Type 0 where
  pub same_book : read_book (book_text (final_book t b first)) ≡ accepted (final_book t b first)
  pub goes_on : (c : Book) → read_book (book_text (final_book t b first)) ≡ accepted c → GoesOn t b first c rest

-- 9, read in: whatever text a terminal's book was read from, all that is claimed of sound books holds of it.
pub record FromText (t : Table) (b : Book) (input : List ℕ) : Type 0 where
  pub begins : ReadSound b
  pub demands : Demands t b input
  pub on_screen : OnScreen t b input
  pub written_out : WrittenOut t b input
