-- What the steps of a cover promise one another: between functions of the book layer alone.
use Rattle.std.specs.Prelude.{ℕ, ◌^◌, ◌<◌, ◌≤◌, List, map, ◌≡◌, length}
use Rattle.book.specs.Sizes.{makers, sets, places, all_closed}
use Rattle.book.specs.Coverage.{Turn, turn, Payment, payments, turns, model_years, total}
use Rattle.book.specs.Covering.{application, in_book, all_applied}
use Rattle.book.specs.declared.ledger.Book.{Book}
use Rattle.book.specs.declared.kinds.Cover.{Cover}

-- a shortage's turns: each vintage, the oldest first; and those of every shortage
abbrev pub turns_of : ℕ → List Turn
turns_of y = map (turn y) model_years

abbrev pub all_turns : List Turn
all_turns = turns model_years model_years

-- what is paid in some turns from a book
abbrev pub paid_in : Book → Cover → List Turn → List Payment
paid_in b c ts = payments (in_book b c) ts

-- the turns can be paid: the cell is one of the book's, and the sum of the Mg is below 2 ^ 64
pub record Payable (b : Book) (c : Cover) (ts : List Turn) : Type 0 where
  pub maker : c.maker < makers
  pub set : c.set < sets
  pub upto : b.open_year ≤ all_closed
  pub lots : length b.lots ≡ places
  pub shortages : length b.shortages ≡ places
  pub small : total (paid_in b c ts) < 2 ^ 64

-- they were paid: the book after them, and the Mg moved
pub record Paid (b : Book) (c : Cover) (ts : List Turn) (after : Book) (mg : ℕ) : Type 0 where
  pub book : after ≡ all_applied b (map (application c) (paid_in b c ts))
  pub sum : mg ≡ total (paid_in b c ts)
