-- Card 8: the book of a run, written out at its end to the file named after `--write`.
use Rattle.std.specs.Prelude.{ℕ, Bool, true, false, cond, ◌≡◌, List, [], length, take, Option, None, Some}
use Rattle.book.specs.Soundness.{sound}
use Rattle.book.specs.declared.ledger.Book.{Book}
use Rattle.text.specs.BookText.{book_text}
use Rattle.credit_book.specs.declared.console.Wrote.{Wrote}
use Rattle.credit_book.specs.declared.console.Closed.{Closed}

-- what a file is to have: the book's text. An unsound book has none to write out, and no run comes to one (`Demands` of
-- shown)
abbrev pub saved_text : Book → List ℕ
saved_text b = cond (sound b) (book_text b) []

-- how many bytes were handed over, none where nothing was written
abbrev pub handed : Option Wrote → ℕ
handed None = 0
handed (Some w) = w.handed

-- a book's text, handed over from the buffer that is out' after it
pub record SavesBook (b : Book) (r : Option Wrote) (out' : List ℕ) : Type 0 where
  pub handed_is : handed r ≡ length (saved_text b)
  pub bytes_are : take (handed r) out' ≡ saved_text b

-- whether a writing was there and was fine
abbrev pub is_fine : Option Wrote → Bool
is_fine None = false
is_fine (Some w) = w.fine

-- the end of a run, in which nothing was written if it did not come to the end of the input. Nothing is put in a file's
-- place where none is named, or once something failed: all that was said, the listing last, was written before
abbrev pub SavedBy : Option ℕ → Option Closed → Option Wrote → Type 0
SavedBy None closed r = r ≡ None
SavedBy (Some place) None r = r ≡ None
SavedBy (Some place) (Some c) r =
    (is_fine c.listed ≡ false → r ≡ None) × (is_fine c.listed ≡ true → handed r ≡ length (saved_text c.book))
