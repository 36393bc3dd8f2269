-- What lies at the edges of a book's text: which line is an entry, and which text is none.
use Rattle.std.specs.Prelude.{ℕ, Bool, true, false, ◌≡◌, List, [], ◌∷◌, pos, None, Some}
use Rattle.figuring.specs.Units.{neg}
use Rattle.book.specs.Rules.{numbers}
use Rattle.book.specs.declared.ledger.Book.{Book}
use Rattle.book.specs.declared.answers.Refusal.TheVariants.{NotABook}
use Rattle.text.specs.declared.entries.Entry.{Entry}
use Rattle.text.specs.Ascii.{ascii}
use Rattle.text.specs.Loads.{refused}
use Rattle.text.specs.Entries.{in_book}
use Rattle.text.specs.BookText.{entry_line, open_line}
use Rattle.text.specs.Writing.{writing_rows}
use Rattle.text.specs.BookReading.{entry_of, entered, read_book}

infix 10 ◌says◌
abbrev pub ◌says◌ : List ℕ → Entry → Type 0
s says e = entry_of s ≡ Some e

abbrev pub NoEntry : List ℕ → Type 0
NoEntry s = entry_of s ≡ None

abbrev pub NoBook : List ℕ → Type 0
NoBook t = read_book t ≡ refused NotABook

pub record BookEdges : Type 0 where
  -- each figure in its place
  pub family : ascii "(family 1 2 3 45)" says Entry.Family 1 2 3 (pos 45)
  pub family_below : ascii "(family 1 2 3 -45)" says Entry.Family 1 2 3 (neg 45)
  pub lot : ascii "(lot 1 2 2014 5)" says Entry.Lot 1 2 2014 5
  pub short : ascii "(short 1 2 2014 5)" says Entry.Shortage 1 2 2014 5
  pub written_below : entry_line (Entry.Family 1 2 3 (neg 45)) ≡ ascii "(family 1 2 3 -45)"
  pub written_open : open_line 2014 ≡ ascii "(open 2014)"
  -- 0 and -0
  pub zero_part : ascii "(family 7 3 63 0)" says Entry.Family 7 3 63 (pos 0)
  pub minus_zero : NoEntry (ascii "(family 7 3 63 -0)")
  pub zero_lot : NoEntry (ascii "(lot 1 2 2014 0)")
  pub zero_short : NoEntry (ascii "(short 1 2 2014 0)")
  -- numbers
  pub leading_zero : NoEntry (ascii "(lot 1 2 2014 05)")
  pub eighteen_digits : ascii "(lot 1 2 2014 999999999999999999)" says Entry.Lot 1 2 2014 999999999999999999
  pub nineteen_digits : NoEntry (ascii "(lot 1 2 2014 1000000000000000000)")
  pub minus_mg : NoEntry (ascii "(lot 1 2 2014 -5)")
  -- lines
  pub empty_line : NoEntry []
  pub listed : NoEntry (ascii "(lot 1 2 2014 live 5)")
  pub space_after : NoEntry (ascii "(lot 1 2 2014 5) ")
  -- the book's makers, sets, numbers and years
  pub last_family : in_book (Entry.Family 7 3 63 (pos 0)) ≡ true
  pub maker_above : in_book (Entry.Lot 8 3 2014 1) ≡ false
  pub set_above : in_book (Entry.Lot 7 4 2014 1) ≡ false
  pub number_above : in_book (Entry.Family 7 3 64 (pos 0)) ≡ false
  pub year_before : in_book (Entry.Shortage 0 0 2013 1) ≡ false
  pub last_year : in_book (Entry.Shortage 0 0 2037 1) ≡ true
  pub year_after : in_book (Entry.Shortage 0 0 2038 1) ≡ false
  -- whatever the book, a line that is repeated or out of order
  pub repeated : (b : Book) → entered 0 b (ascii "(lot 0 0 2014 5)" ∷ ascii "(lot 0 0 2014 5)" ∷ []) ≡ None
  pub group_before : (b : Book) → entered 0 b (ascii "(short 0 0 2014 5)" ∷ ascii "(lot 7 3 2037 5)" ∷ []) ≡ None
  -- texts
  pub empty : NoBook []
  pub no_line_feed : NoBook (ascii "(open 2014)")
  pub no_open_line : NoBook (ascii "(lot 0 0 2014 5)\n")
  -- the refusals of writing, by the paper's numbers
  pub writing_order : (is_sound : Bool) (text room : ℕ) → numbers (writing_rows is_sound text room) ≡ 2 ∷ 21 ∷ []
