-- Document 01, "Marked figures", P1 to P12, of the rules together, with the built-in table.
use Rattle.std.specs.Prelude.{ℕ, ◌≡◌, true, pos}
use Rattle.figuring.specs.Tables.{built_in}
use Rattle.figuring.specs.Marked.{FiguringMarked}
use Rattle.book.specs.Refusals.{refusal_in}
use Rattle.book.specs.Ledger.{key, figure_at}
use Rattle.book.specs.Postings.{empty_in, fresh_book, stored}
use Rattle.book.specs.Rules.{posted}
use Rattle.book.specs.Limits.{large_entry}
use Rattle.book.specs.Demand3.{is_accepted}
use Rattle.book.specs.declared.ledger.Book.{Book}
use Rattle.book.specs.declared.kinds.Call.{Call}

-- the run's first filing, with another family number and FCL
abbrev pub filing_with : ℕ → ℕ → Call
filing_with family fcl =
    Call.File (record {
      purpose = large_entry;
      maker = 0;
      set = 3;
      year = 2014;
      vehicle_use = 1;
      edition = 0;
      family = family;
      fcl = fcl;
      cf = 280000;
      volume = 1000;
      life = 435;
    })

-- a book with nothing in it whose open year is 2037
unfoldable pub last_open : Book
last_open = empty_in 2037

-- a fresh book, then with two parts of 40,000,000 stored in cell 0
unfoldable pub one_part : Book
one_part = (stored fresh_book 0 0 (pos 40000000)).book

unfoldable pub two_parts : Book
two_parts = (stored one_part 0 1 (pos 40000000)).book

pub record MarkedFigures : Type 0 where
  -- P1 to P9, and of P10 the limits
  pub figuring : FiguringMarked
  -- P7 once more, of a close: two parts of 40,000,000 in a cell earn 1 Mg
  pub P7 :
      (is_accepted (posted built_in two_parts (Call.Close 2014)).answer ≡ true)
      × (figure_at (posted built_in two_parts (Call.Close 2014)).book.lots (key 0 0 2014) ≡ 1)
  -- P10 FCL 1,200 taken; 0 and 1,201 refused by 8
  pub P10 :
      (is_accepted (posted built_in fresh_book (filing_with 0 1200)).answer ≡ true)
      × (refusal_in (posted built_in fresh_book (filing_with 0 0)).answer ≡ 8)
      × (refusal_in (posted built_in fresh_book (filing_with 0 1201)).answer ≡ 8)
  -- P11 family 63 taken, 64 refused by 7
  pub P11 :
      (is_accepted (posted built_in fresh_book (filing_with 63 465)).answer ≡ true)
      × (refusal_in (posted built_in fresh_book (filing_with 64 465)).answer ≡ 7)
  -- P12 close 2037 taken, then close 2038 refused by 5
  pub P12 :
      (is_accepted (posted built_in last_open (Call.Close 2037)).answer ≡ true)
      × (refusal_in (posted built_in (posted built_in last_open (Call.Close 2037)).book (Call.Close 2038)).answer ≡ 5)
