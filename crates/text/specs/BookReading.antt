-- Card 8: the book that a text is. "22, a line is missing, malformed (0 Mg and -0 among these), out of order or repeated, or
-- a maker, set, number or year in it (but not the open year) isn't one of the book's. An unsound book gets 2, .. when read
-- after 22."
use Rattle.std.specs.Prelude.{ℕ, suc, Bool, true, false, cond, ◌&&◌, List, [], ◌∷◌, eqb, leb, Option, None, Some, option_and_then}
use Rattle.std.specs.Option.{option_or}
use Rattle.book.specs.Soundness.{sound}
use Rattle.book.specs.declared.ledger.Book.{Book}
use Rattle.book.specs.declared.answers.Refusal.TheVariants.{UnsoundBook, NotABook}
use Rattle.text.specs.declared.entries.Entry.{Entry}
use Rattle.text.specs.Pattern.{fit}
use Rattle.text.specs.Line.{figure}
use Rattle.text.specs.Desk.{line_feed}
use Rattle.text.specs.Lines.{lines_of}
use Rattle.text.specs.Loads.{Read, accepted, refused}
use Rattle.text.specs.Entries.{in_book, rank, enter, empty_at}
use Rattle.text.specs.BookText.{EntryForm, entry_forms, open_form}

-- "Numbers are as before but of up to 18 digits"
abbrev pub book_digits : ℕ
book_digits = 18

abbrev pub only_if : {A : Type 0} → Bool → Option A → Option A
only_if true o = o
only_if false o = None

-- ---- the entry of a line
-- of a form whose figures these are: none where the fourth is below the form's least, as in 0 Mg and -0
abbrev pub entry_by : EntryForm → List ℕ → Option Entry
entry_by f n = only_if (leb f.least (figure n 3)) (Some (f.entry n))

-- the entry that a line is by a form, if it fits it
abbrev pub entry_in : EntryForm → List ℕ → Option Entry
entry_in f s = option_and_then (λ n. entry_by f n) (fit book_digits f.pattern s)

-- by the first of some forms by which it is one; no line fits two of them (OneForm)
abbrev pub first_entry : List EntryForm → List ℕ → Option Entry
first_entry [] s = None
first_entry (f ∷ fs) s = option_or (entry_in f s) (first_entry fs s)

-- the entry that a line is, for any bytes; none where it is "malformed"
unfoldable pub entry_of : List ℕ → Option Entry
entry_of s = first_entry entry_forms s

-- ---- the book of a text
-- lines entered into a book, of which the first must have this rank or a higher one, and each a higher one than the line
-- before: so none is "out of order or repeated"
unfoldable pub entered : ℕ → Book → List (List ℕ) → Option Book
entered least b [] = Some b
entered least b (l ∷ ls) =
    option_and_then (λ e. only_if (in_book e && leb least (rank e)) (entered (suc (rank e)) (enter b e) ls)) (entry_of l)

-- `(open Y)` first, with any number for Y
unfoldable pub book_in : List (List ℕ) → Option Book
book_in [] = None
book_in (l ∷ ls) = option_and_then (λ n. entered 0 (empty_at (figure n 0)) ls) (fit book_digits open_form l)

-- whether the last byte of a text is a line feed; b, where it has none
unfoldable pub ends_in_feed : Bool → List ℕ → Bool
ends_in_feed b [] = b
ends_in_feed b (c ∷ s) = ends_in_feed (eqb c line_feed) s

-- "every line ends in a line feed"
abbrev pub all_ended : List ℕ → Bool
all_ended s = ends_in_feed true s

-- what a text is read as, for any bytes: 22 over the whole text, and then 2
abbrev pub judged : Option Book → Read Book
judged None = refused NotABook
judged (Some b) = cond (sound b) (accepted b) (refused UnsoundBook)

unfoldable pub read_book : List ℕ → Read Book
read_book t = judged (only_if (all_ended t) (book_in (lines_of t)))
