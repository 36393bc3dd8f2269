-- Card 7, "The customer's own standards", in the book: a call is handed a table beside the book. Rules, Postings and
-- Accounts have it; here the card's words stand by themselves. The proofs are in proofs/OwnStandards.antt.
use Rattle.std.specs.Prelude.{ℕ, ◌*◌, ◌≤◌, true, false, List, [], ◌∷◌, ◌++◌, ◌≡◌, nat_abs}
use Rattle.figuring.specs.Standards.{Standard, standard_for}
use Rattle.figuring.specs.Tables.{Table, accepted_table, built_in}
use Rattle.figuring.specs.Parts.{cf_most, volume_most, life_most}
use Rattle.book.specs.Soundness.{sound}
use Rattle.book.specs.Refusals.{Row, first_refusal, refusal_in}
use Rattle.book.specs.Postings.{part_for, part_beside, filing_cell, stored}
use Rattle.book.specs.Postings.{close_done, trade_done, application_done, retirement_done}
use Rattle.book.specs.Covering.{cover_done}
use Rattle.book.specs.Rules.{head_rows, figure_rows, mark_row, close_rows, trade_rows, apply_rows, retire_rows, cover_rows}
use Rattle.book.specs.Rules.{outcome, posted}
use Rattle.book.specs.Demand3.{is_accepted}
use Rattle.book.specs.declared.ledger.Book.{Book}
use Rattle.book.specs.declared.kinds.Call.{Call}
use Rattle.book.specs.declared.kinds.Filing.{Filing}
use Rattle.book.specs.declared.kinds.Trade.{Trade}
use Rattle.book.specs.declared.kinds.Application.{Application}
use Rattle.book.specs.declared.kinds.Retirement.{Retirement}
use Rattle.book.specs.declared.kinds.Cover.{Cover}
use Rattle.book.specs.declared.answers.Posted.{Posted}

-- ---- 20

-- "A call handed a table that breaks the limits or rises gives 20, after 2": whatever the filing's figures
pub record Twenty (t : Table) (b : Book) (f : Filing) : Type 0 where
  pub two_first : sound b ≡ false → refusal_in (posted t b (Call.File f)).answer ≡ 2
  pub then_twenty : sound b ≡ true → accepted_table t ≡ false → refusal_in (posted t b (Call.File f)).answer ≡ 20
  pub else_never : accepted_table t ≡ true → refusal_in (posted t b (Call.File f)).answer ≡ 20 → ⊥

-- The other calls read no table: whatever they are handed, they give the same.
pub record ReadNoTable (t u : Table) (b : Book) : Type 0 where
  pub close : (y : ℕ) → posted t b (Call.Close y) ≡ posted u b (Call.Close y)
  pub trade : (x : Trade) → posted t b (Call.Trade x) ≡ posted u b (Call.Trade x)
  pub apply : (p : Application) → posted t b (Call.Apply p) ≡ posted u b (Call.Apply p)
  pub retire : (p : Retirement) → posted t b (Call.Retire p) ≡ posted u b (Call.Retire p)
  pub cover : (c : Cover) → posted t b (Call.Cover c) ≡ posted u b (Call.Cover c)

-- ---- a part stays within its bound, whatever the table: 768 × the limits
abbrev pub WithinBound : Table → Book → Filing → Type 0
WithinBound t b f =
    is_accepted (posted t b (Call.File f)).answer ≡ true → nat_abs (part_for t f) ≤ 768 * (cf_most * volume_most * life_most)

-- ---- with the built-in table all is as before

-- the rules as they were before this card: a call is handed no table, there is no 20, and the ordinary standard is the
-- printed one. A cover and the pair of limits, which came after it (cards 9 and 10), are as they are now
abbrev pub printed_of : Filing → Standard
printed_of f = standard_for f.set f.vehicle_use f.year

abbrev pub rows_before : Book → Call → List Row
rows_before b (Call.File f) = figure_rows (printed_of f) b.open_year f ++ mark_row b.marks f ∷ []
rows_before b (Call.Close y) = close_rows b.open_year y
rows_before b (Call.Trade x) = trade_rows b.open_year b.lots b.shortages x
rows_before b (Call.Apply p) = apply_rows b.open_year b.lots b.shortages p
rows_before b (Call.Retire p) = retire_rows b.open_year b.lots b.shortages p
rows_before b (Call.Cover c) = cover_rows c

abbrev pub done_before : Book → Call → Posted
done_before b (Call.File f) = stored b (filing_cell f) f.family (part_beside (printed_of f) f)
done_before b (Call.Close y) = close_done b
done_before b (Call.Trade x) = trade_done b x
done_before b (Call.Apply p) = application_done b p
done_before b (Call.Retire p) = retirement_done b p
done_before b (Call.Cover c) = cover_done b c

unfoldable pub posted_before : Book → Call → Posted
posted_before b c = outcome (first_refusal (head_rows (sound b) [] ++ rows_before b c)) b (done_before b c)

-- every answer and every book is what it was
abbrev pub AsBefore : Book → Call → Type 0
AsBefore b c = posted built_in b c ≡ posted_before b c
