-- Private to the reader of a book's text: its steps.
use Rattle.std.specs.Prelude.{ℕ, List, leb, Option, Some, option_and_then}
use Rattle.book.specs.declared.ledger.Book.{Book}
use Rattle.text.specs.Line.{figure}
use Rattle.text.specs.Lines.{lines_of}
use Rattle.text.specs.BookReading.{only_if, entered, all_ended}

-- figures of which the fourth is not 0
abbrev pub above_0 : Option (List ℕ) → Option (List ℕ)
above_0 o = option_and_then (λ n. only_if (leb 1 (figure n 3)) (Some n)) o

-- a text that is entered into a book, line by line
abbrev pub entered_text : ℕ → Book → List ℕ → Option Book
entered_text least b s = only_if (all_ended s) (entered least b (lines_of s))
