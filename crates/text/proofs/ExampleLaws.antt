-- Each example by computation.
use mathlib.Core.Path.{refl}
use Rattle.book.specs.Refusals.{refusal_in, values_in}
use Rattle.book.specs.Rules.{head_rows}
use Rattle.book.specs.Ledger.{is_family}
use Rattle.book.specs.Listing.{is_cell_year}
use Rattle.text.specs.Numeral.{leading, worth, value, number, numeral_of}
use Rattle.text.specs.Pattern.{fit, filled}
use Rattle.text.specs.Line.{line_at, line_of}
use Rattle.text.specs.Answers.{text_of}
use Rattle.text.specs.Lines.{lines_from}
use Rattle.text.specs.Examples.{Run, Fields, Edges}
use Rattle.text.specs.Entries.{in_book, rank}
use Rattle.text.specs.Writing.{writing_rows}
use Rattle.text.specs.BookReading.{entry_of, entered, book_in, ends_in_feed, read_book}
use Rattle.text.specs.BookExamples.{BookEdges}

pub run : Run
unfolding line_of line_at fit number leading value worth text_of refusal_in values_in filled numeral_of
run =
    record {
      file = refl;
      close = refl;
      trade = refl;
      apply = refl;
      retire = refl;
      filed = refl;
      filed_minus = refl;
      closed = refl;
      left = refl;
      refused = refl;
      lot = refl;
      short = refl;
    }

pub fields : Fields
unfolding line_of line_at fit number leading value worth text_of refusal_in values_in filled numeral_of
fields =
    record { file = refl; small = refl; amend = refl; trade = refl; apply = refl; retire = refl; cover = refl; covered = refl }

pub edges : Edges
unfolding line_of line_at fit number leading value worth lines_from
edges =
    record {
      zero = refl;
      twelve_digits = refl;
      thirteen_digits = refl;
      leading_zero = refl;
      no_digits = refl;
      empty = refl;
      two_spaces = refl;
      space_before = refl;
      space_after = refl;
      carriage_return = refl;
      no_edition = refl;
      other_order = refl;
      cover_mg = refl;
      rest_of_160 = refl;
      rest_of_161 = refl;
      empty_line = refl;
      empty_end = refl;
      no_input = refl;
    }

pub book_edges : BookEdges
unfolding entry_of fit number leading value worth filled numeral_of in_book is_family is_cell_year entered rank read_book ends_in_feed book_in lines_from writing_rows head_rows
book_edges =
    record {
      family = refl;
      family_below = refl;
      lot = refl;
      short = refl;
      written_below = refl;
      written_open = refl;
      zero_part = refl;
      minus_zero = refl;
      zero_lot = refl;
      zero_short = refl;
      leading_zero = refl;
      eighteen_digits = refl;
      nineteen_digits = refl;
      minus_mg = refl;
      empty_line = refl;
      listed = refl;
      space_after = refl;
      last_family = refl;
      maker_above = refl;
      set_above = refl;
      number_above = refl;
      year_before = refl;
      last_year = refl;
      year_after = refl;
      repeated = λ b. refl;
      group_before = λ b. refl;
      empty = refl;
      no_line_feed = refl;
      no_open_line = refl;
      writing_order = λ is_sound text room. refl;
    }
