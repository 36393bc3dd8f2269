-- Card 8: the text of a book, "`(open Y)`, then `(family maker set number part)` for each filed family, then
-- `(lot maker set year Mg)`, then `(short maker set year Mg)` .. a part below 0 has a minus, and every line ends in a line
-- feed".
use Rattle.std.specs.Prelude.{ℕ, suc, ◌+◌, ◌*◌, List, [], ◌∷◌, ◌++◌, pos, negsuc, neg_ℤ}
use Rattle.book.specs.declared.ledger.Book.{Book}
use Rattle.text.specs.declared.entries.Entry.{Entry}
use Rattle.text.specs.Ascii.{ascii}
use Rattle.text.specs.Pattern.{filled}
use Rattle.text.specs.Line.{figure}
use Rattle.text.specs.Desk.{line_feed}
use Rattle.text.specs.Listing.{entry_room}
use Rattle.text.specs.Entries.{entries, all_entries}

-- the form of a line: its pattern, the least that its fourth figure may be, and the entry that its figures make. The
-- minus is the form's, so that -0 is malformed as 0 Mg is: its figure is below the least
pub record EntryForm : Type 0 where
  pub pattern : List ℕ
  pub least : ℕ
  pub entry : List ℕ → Entry

abbrev pub family : EntryForm
family =
    record {
      pattern = ascii "(family # # # #)";
      least = 0;
      entry = λ n. Entry.Family (figure n 0) (figure n 1) (figure n 2) (pos (figure n 3));
    }

abbrev pub family_below : EntryForm
family_below =
    record {
      pattern = ascii "(family # # # -#)";
      least = 1;
      entry = λ n. Entry.Family (figure n 0) (figure n 1) (figure n 2) (neg_ℤ (pos (figure n 3)));
    }

abbrev pub lot : EntryForm
lot =
    record {
      pattern = ascii "(lot # # # #)";
      least = 1;
      entry = λ n. Entry.Lot (figure n 0) (figure n 1) (figure n 2) (figure n 3);
    }

abbrev pub short : EntryForm
short =
    record {
      pattern = ascii "(short # # # #)";
      least = 1;
      entry = λ n. Entry.Shortage (figure n 0) (figure n 1) (figure n 2) (figure n 3);
    }

abbrev pub entry_forms : List EntryForm
entry_forms = family ∷ family_below ∷ lot ∷ short ∷ []

abbrev pub open_form : List ℕ
open_form = ascii "(open #)"

-- ---- writing
-- an entry's form, and its figures
abbrev pub form_for : Entry → EntryForm
form_for (Entry.Family m s n (pos part)) = family
form_for (Entry.Family m s n (negsuc part)) = family_below
form_for (Entry.Lot m s y mg) = lot
form_for (Entry.Shortage m s y mg) = short

abbrev pub entry_figures : Entry → List ℕ
entry_figures (Entry.Family m s n (pos part)) = m ∷ s ∷ n ∷ part ∷ []
entry_figures (Entry.Family m s n (negsuc part)) = m ∷ s ∷ n ∷ suc part ∷ []
entry_figures (Entry.Lot m s y mg) = m ∷ s ∷ y ∷ mg ∷ []
entry_figures (Entry.Shortage m s y mg) = m ∷ s ∷ y ∷ mg ∷ []

abbrev pub entry_line : Entry → List ℕ
entry_line e = filled (form_for e).pattern (entry_figures e)

-- the lines of entries, each with its line feed
unfoldable pub entry_lines : List Entry → List ℕ
entry_lines [] = []
entry_lines (e ∷ es) = entry_line e ++ (line_feed ∷ entry_lines es)

abbrev pub open_line : ℕ → List ℕ
open_line y = filled open_form (y ∷ [])

-- a book's text, for any book
unfoldable pub book_text : Book → List ℕ
book_text b = open_line b.open_year ++ (line_feed ∷ entry_lines (entries b))

-- no book's text is longer: the first line, and one for each place
abbrev pub book_room : ℕ
book_room = entry_room + all_entries * entry_room
