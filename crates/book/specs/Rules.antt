-- What a call gives, for any book and any call: the head of the refusals, then the call's own, each in the order of
-- document 01's "Refusal list", with card 5's 17 after 6, card 6's 18 in the place of 9 and card 7's 20 after 2; then the
-- outcome. `CheckingOrder` has the rows by the papers' numbers. Card 7 hands a call a table of standards beside the book:
-- filings and amendments read it, and no other call.
-- "A call skips the entries that don't concern it." Entries 3 (in a trade), 5 and 14 are two tests, so two rows.
use Rattle.std.specs.Prelude.{ℕ, Bool, true, false, not, List, [], ◌∷◌, ◌++◌, ◌≡◌, ◌||◌, ltb, leb, eqb, get_or, Ok, Err}
use Rattle.figuring.specs.Standards.{Standard, is_absent}
use Rattle.figuring.specs.Tables.{Table, accepted_table}
use Rattle.figuring.specs.Editions.{no_edition}
use Rattle.figuring.specs.Parts.{within_limits}
use Rattle.book.specs.Sizes.{makers, sets, families, all_closed}
use Rattle.book.specs.Limits.{limits_of, amends}
use Rattle.book.specs.Ledger.{figure_at, marked, has_shortage}
use Rattle.book.specs.Soundness.{sound}
use Rattle.figuring.specs.Life.{live, open_short}
use Rattle.book.specs.Refusals.{Answered, Verdict, Row, ◌⇒◌, first_refusal, number_of}
use Rattle.book.specs.Postings.{filing_done, close_done, trade_done, application_done, retirement_done}
use Rattle.book.specs.Postings.{ordinary_for, filing_cell, seller_lot, applied_lot, covered_shortage, retired_lot}
use Rattle.book.specs.Covering.{cover_done}
use Rattle.book.specs.declared.ledger.Book.{Book}
use Rattle.book.specs.declared.kinds.Call.{Call}
use Rattle.book.specs.declared.kinds.Filing.{Filing}
use Rattle.book.specs.declared.kinds.Trade.{Trade}
use Rattle.book.specs.declared.kinds.Application.{Application}
use Rattle.book.specs.declared.kinds.Retirement.{Retirement}
use Rattle.book.specs.declared.kinds.Cover.{Cover}
use Rattle.book.specs.declared.answers.Posted.{Posted}
use Rattle.book.specs.declared.answers.Refusal.{Refusal}
use Rattle.book.specs.declared.answers.Refusal.TheVariants.{UnsoundBook, UnknownMaker, UnknownSet, YearNotOpen}
use Rattle.book.specs.declared.answers.Refusal.TheVariants.{NoStandard, UnknownFamily, OutOfLimits, AlreadyFiled}
use Rattle.book.specs.declared.answers.Refusal.TheVariants.{VintageNotLive, ZeroAmount, SameMaker, HasShortage}
use Rattle.book.specs.declared.answers.Refusal.TheVariants.{NoOpenShortage, AboveLot, AboveShortage, NoEdition, NotFiled, UnfitTable}

-- ---- the head: what comes before all that a call tests itself. It reads of the book whether it is sound; then come the
-- rows of what stands beside the call
unfoldable pub head_rows : Bool → List Row → List Row
head_rows is_sound beside = (not is_sound ⇒ UnsoundBook) ∷ beside

-- "A call handed a table that breaks the limits or rises gives 20, after 2": filings and amendments alone read it
abbrev pub fit_row : Bool → Row
fit_row fit = not fit ⇒ UnfitTable

abbrev pub table_rows : Table → Call → List Row
table_rows t (Call.File f) = fit_row (accepted_table t) ∷ []
table_rows t (Call.Close y) = []
table_rows t (Call.Trade x) = []
table_rows t (Call.Apply p) = []
table_rows t (Call.Retire p) = []
table_rows t (Call.Cover c) = []

-- ---- each call's own rows, over what they read of the book and no more: Y is the open year

-- what a filing and an amendment are asked alike, beside an ordinary standard: of the book these read the open year alone.
-- 7 and 8 ask for document 01's limits and for the pair that the filing is under (card 10), so that a pair above document
-- 01's limits counts as these
abbrev pub figure_rows : Standard → ℕ → Filing → List Row
figure_rows ordinary Y f =
    (leb makers f.maker ⇒ UnknownMaker)
    ∷ (leb sets f.set ⇒ UnknownSet)
    ∷ (not (eqb f.year Y) ⇒ YearNotOpen)
    ∷ (eqb Y all_closed ⇒ YearNotOpen)
    ∷ (is_absent ordinary ⇒ NoStandard)
    ∷ (no_edition f.edition f.set f.year ⇒ NoEdition)
    ∷ (leb families f.family || ltb (limits_of f.purpose).number f.family ⇒ UnknownFamily)
    ∷ (not (within_limits f.fcl f.cf f.volume f.life) || ltb (limits_of f.purpose).volume f.volume ⇒ OutOfLimits)
    ∷ []

-- then 9 of a filing; of an amendment 18, which "stands in place of 9"
abbrev pub filed_row : Bool → Bool → Row
filed_row false is_filed = is_filed ⇒ AlreadyFiled
filed_row true is_filed = not is_filed ⇒ NotFiled

-- whether the family is filed, by the marks
abbrev pub mark_row : List ℕ → Filing → Row
mark_row marks f = filed_row (amends f.purpose) (marked (get_or marks (filing_cell f) 0) f.family)

unfoldable pub file_rows : Standard → ℕ → List ℕ → Filing → List Row
file_rows ordinary Y marks f = figure_rows ordinary Y f ++ mark_row marks f ∷ []

unfoldable pub close_rows : ℕ → ℕ → List Row
close_rows Y y = (not (eqb y Y) ⇒ YearNotOpen) ∷ (eqb Y all_closed ⇒ YearNotOpen) ∷ []

unfoldable pub trade_rows : ℕ → List ℕ → List ℕ → Trade → List Row
trade_rows Y lots shortages t =
    (leb makers t.from ⇒ UnknownMaker)
    ∷ (leb makers t.to ⇒ UnknownMaker)
    ∷ (leb sets t.set ⇒ UnknownSet)
    ∷ (not (live Y t.vintage) ⇒ VintageNotLive)
    ∷ (eqb t.mg 0 ⇒ ZeroAmount)
    ∷ (eqb t.from t.to ⇒ SameMaker)
    ∷ (has_shortage shortages t.from t.set ⇒ HasShortage)
    ∷ (ltb (figure_at lots (seller_lot t)) t.mg ⇒ AboveLot)
    ∷ []

unfoldable pub apply_rows : ℕ → List ℕ → List ℕ → Application → List Row
apply_rows Y lots shortages p =
    (leb makers p.maker ⇒ UnknownMaker)
    ∷ (leb sets p.set ⇒ UnknownSet)
    ∷ (not (live Y p.vintage) ⇒ VintageNotLive)
    ∷ (eqb p.mg 0 ⇒ ZeroAmount)
    ∷ (not (open_short Y p.year) ⇒ NoOpenShortage)
    ∷ (eqb (figure_at shortages (covered_shortage p)) 0 ⇒ NoOpenShortage)
    ∷ (ltb (figure_at lots (applied_lot p)) p.mg ⇒ AboveLot)
    ∷ (ltb (figure_at shortages (covered_shortage p)) p.mg ⇒ AboveShortage)
    ∷ []

unfoldable pub retire_rows : ℕ → List ℕ → List ℕ → Retirement → List Row
retire_rows Y lots shortages p =
    (leb makers p.maker ⇒ UnknownMaker)
    ∷ (leb sets p.set ⇒ UnknownSet)
    ∷ (not (live Y p.vintage) ⇒ VintageNotLive)
    ∷ (eqb p.mg 0 ⇒ ZeroAmount)
    ∷ (has_shortage shortages p.maker p.set ⇒ HasShortage)
    ∷ (ltb (figure_at lots (retired_lot p)) p.mg ⇒ AboveLot)
    ∷ []

-- Card 9: a cover is asked for its maker and its set, and for nothing else: with nothing to move it moves nothing
unfoldable pub cover_rows : Cover → List Row
cover_rows c = (leb makers c.maker ⇒ UnknownMaker) ∷ (leb sets c.set ⇒ UnknownSet) ∷ []

unfoldable pub own_rows : Table → Book → Call → List Row
own_rows t b (Call.File f) = file_rows (ordinary_for t f) b.open_year b.marks f
own_rows t b (Call.Close y) = close_rows b.open_year y
own_rows t b (Call.Trade x) = trade_rows b.open_year b.lots b.shortages x
own_rows t b (Call.Apply p) = apply_rows b.open_year b.lots b.shortages p
own_rows t b (Call.Retire p) = retire_rows b.open_year b.lots b.shortages p
own_rows t b (Call.Cover c) = cover_rows c

-- all that a call is asked
unfoldable pub rows_for : Table → Book → Call → List Row
rows_for t b c = head_rows (sound b) (table_rows t c) ++ own_rows t b c

-- ---- the outcome

-- what an accepted call gives
unfoldable pub done : Table → Book → Call → Posted
done t b (Call.File f) = filing_done t b f
done t b (Call.Close y) = close_done b
done t b (Call.Trade x) = trade_done b x
done t b (Call.Apply p) = application_done b p
done t b (Call.Retire p) = retirement_done b p
done t b (Call.Cover c) = cover_done b c

-- an answer or a refusal, and the book after it
abbrev pub answered : Answered → Book → Posted
answered a b = record { answer = a; book = b }

-- "A refusal gives its number, zero for the other results, and the book unchanged."
abbrev pub refused_with : Book → Refusal → Posted
refused_with b r = answered (Err r) b

abbrev pub outcome : Verdict → Book → Posted → Posted
outcome (Ok u) b p = p
outcome (Err r) b p = refused_with b r

-- what a call gives that is handed a table: its answer and the book after it
unfoldable pub posted : Table → Book → Call → Posted
posted t b c = outcome (first_refusal (rows_for t b c)) b (done t b c)

-- a call, and the table that it is handed
pub record Request : Type 0 where
  pub table : Table
  pub call : Call

abbrev pub handed : Table → Call → Request
handed t c = record { table = t; call = c }

abbrev pub posted_to : Book → Request → Posted
posted_to b r = posted r.table b r.call

-- ---- the checking order by the paper's numbers, whatever the table, the book and the figures
abbrev pub numbers : List Row → List ℕ
numbers [] = []
numbers (x ∷ xs) = number_of x.why ∷ numbers xs

-- a filing's
abbrev pub filing_order : List ℕ
filing_order = 2 ∷ 20 ∷ 3 ∷ 4 ∷ 5 ∷ 5 ∷ 6 ∷ 17 ∷ 7 ∷ 8 ∷ 9 ∷ []

pub record CheckingOrder : Type 0 where
  pub file :
      (t : Table) (b : Book) (f : Filing)
      → amends f.purpose ≡ false → numbers (rows_for t b (Call.File f)) ≡ filing_order
  pub amend :
      (t : Table) (b : Book) (f : Filing)
      → amends f.purpose ≡ true
      → numbers (rows_for t b (Call.File f)) ≡ 2 ∷ 20 ∷ 3 ∷ 4 ∷ 5 ∷ 5 ∷ 6 ∷ 17 ∷ 7 ∷ 8 ∷ 18 ∷ []
  pub close : (t : Table) (b : Book) (y : ℕ) → numbers (rows_for t b (Call.Close y)) ≡ 2 ∷ 5 ∷ 5 ∷ []
  pub trade :
      (t : Table) (b : Book) (x : Trade)
      → numbers (rows_for t b (Call.Trade x)) ≡ 2 ∷ 3 ∷ 3 ∷ 4 ∷ 10 ∷ 11 ∷ 12 ∷ 13 ∷ 15 ∷ []
  pub apply :
      (t : Table) (b : Book) (p : Application)
      → numbers (rows_for t b (Call.Apply p)) ≡ 2 ∷ 3 ∷ 4 ∷ 10 ∷ 11 ∷ 14 ∷ 14 ∷ 15 ∷ 16 ∷ []
  pub retire :
      (t : Table) (b : Book) (p : Retirement)
      → numbers (rows_for t b (Call.Retire p)) ≡ 2 ∷ 3 ∷ 4 ∷ 10 ∷ 11 ∷ 13 ∷ 15 ∷ []
  pub cover : (t : Table) (b : Book) (c : Cover) → numbers (rows_for t b (Call.Cover c)) ≡ 2 ∷ 3 ∷ 4 ∷ []
