-- Card 7: the customer's own table of standards as "a text of its own, the file `std.txt`": how it is read, and how it is
-- written.
use Rattle.std.specs.Prelude.{ℕ, zero, suc, ◌+◌, ◌<◌, Bool, true, false, cond, ◌⊎◌, ◌≡◌, List, [], ◌∷◌, ◌++◌, ltb, eqb, length, take, Option, None, Some}
use Rattle.figuring.specs.Years.{first_year}
use Rattle.figuring.specs.Grid.{grid_years, grid_columns}
use Rattle.figuring.specs.Tables.{Table, no_row, row_fits, accepted_table}
use Rattle.book.specs.declared.answers.Refusal.{Refusal}
use Rattle.book.specs.declared.answers.Refusal.TheVariants.{NotATable, UnfitTable}
use Rattle.text.specs.Ascii.{ascii}
use Rattle.text.specs.Pattern.{fit, filled}
use Rattle.text.specs.Line.{longest_line, most_digits}
use Rattle.text.specs.Desk.{line_feed}
use Rattle.text.specs.Lines.{lines_of}
use Rattle.text.specs.Loads.{Read, accepted, refused}

-- "24 lines `(std 2014 a b c d e f)`": a year, and its row
abbrev pub std_form : List ℕ
std_form = ascii "(std # # # # # # #)"

-- ---- reading

-- the row of a line's figures, if their first is the year y
abbrev pub of_year : ℕ → Option (List ℕ) → Option (List ℕ)
of_year y None = None
of_year y (Some []) = None
of_year y (Some (n ∷ row)) = cond (eqb n y) (Some row) None

-- the row that a line is for the year y, "by the terminal text's line and number rules"; none where 19 refuses it: it
-- "isn't of that form", or "its year is wrong"
unfoldable pub row_in : ℕ → List ℕ → Option (List ℕ)
row_in y s = cond (ltb longest_line (length s)) None (of_year y (fit most_digits std_form s))

-- a row before the others
abbrev pub with_row : List ℕ → Read Table → Read Table
with_row row (accepted t) = accepted (row ∷ t)
with_row row (refused r) = refused r

-- a row, and then what follows it; 20 where "an entry breaks the limits or rises"
abbrev pub on_fit : Bool → List ℕ → Read Table → Read Table
on_fit true row rest = with_row row rest
on_fit false row rest = refused UnfitTable

-- in one line "19 before 20"
abbrev pub on_row : List ℕ → Option (List ℕ) → (List ℕ → Read Table) → Read Table
on_row before None rest = refused NotATable
on_row before (Some row) rest = on_fit (row_fits before row) row (rest row)

-- the lines of n years, "rising by one" from y on, after the row of the year before: "The first line at fault decides"
unfoldable pub rows_from : ℕ → ℕ → List ℕ → List (List ℕ) → Read Table
rows_from zero y before [] = accepted []
-- one line "too many", whatever it says
rows_from zero y before (l ∷ ls) = refused NotATable
-- a line "is missing"
rows_from (suc n) y before [] = refused NotATable
rows_from (suc n) y before (l ∷ ls) = on_row before (row_in y l) (λ row. rows_from n (suc y) row ls)

-- what a text is read as, for any bytes
unfoldable pub table_of : List ℕ → Read Table
table_of s = rows_from grid_years first_year no_row (lines_of s)

-- ---- writing

-- the lines of the years from y on, each with its line feed
unfoldable pub lines_for : ℕ → Table → List ℕ
lines_for y [] = []
lines_for y (row ∷ rows) = filled std_form (y ∷ row) ++ (line_feed ∷ lines_for (suc y) rows)

-- a table's text
abbrev pub table_text : Table → List ℕ
table_text t = lines_for first_year t

-- ---- what reading and writing have to do with each other

-- 24 rows of 6 figures: every table of the program has them by its type
abbrev pub Wide : Table → Type 0
Wide [] = Unit {0}
Wide (row ∷ rows) = (length row ≡ grid_columns) × Wide rows

pub record Whole (t : Table) : Type 0 where
  pub rows : length t ≡ grid_years
  pub wide : Wide t

-- a text is a table's, "up to the last line feed", which the last line may lack
abbrev pub IsTableText : List ℕ → Table → Type 0
IsTableText s t = (s ≡ table_text t) ⊎ (s ++ (line_feed ∷ []) ≡ table_text t)

-- some lines are right, from the year y on and after the row of the year before: each is the row of its year, and may
-- follow the one before it
abbrev pub Right : ℕ → List ℕ → List (List ℕ) → Table → Type 0
Right y before [] [] = Unit {0}
Right y before [] (row ∷ rows) = ⊥
Right y before (l ∷ ls) [] = ⊥
Right y before (l ∷ ls) (row ∷ rows) =
    (row_in y l ≡ Some row) × ((row_fits before row ≡ true) × Right (suc y) row ls rows)

abbrev pub last_row : List ℕ → Table → List ℕ
last_row before [] = before
last_row before (row ∷ rows) = last_row row rows

-- "The first line at fault decides": ls are the lines before it, all right, with these rows
pub record Faults (s : List ℕ) (ls : List (List ℕ)) (rows : Table) : Type 0 where
  -- "19, a line isn't of that form, is missing or too many, or its year is wrong"
  pub malformed :
      (l : List ℕ) (after : List (List ℕ)) → lines_of s ≡ ls ++ l ∷ after → length ls < 24 → row_in (2014 + length ls) l ≡ None
      → table_of s ≡ refused NotATable
  pub missing : lines_of s ≡ ls → length ls < 24 → table_of s ≡ refused NotATable
  pub too_many :
      (l : List ℕ) (after : List (List ℕ)) → lines_of s ≡ ls ++ l ∷ after → length ls ≡ 24 → table_of s ≡ refused NotATable
  -- "20, an entry breaks the limits or rises"; "19 before 20", so of a line that is a row of its year
  pub unfit :
      (l : List ℕ) (after : List (List ℕ)) (row : List ℕ) → lines_of s ≡ ls ++ l ∷ after → length ls < 24
      → row_in (2014 + length ls) l ≡ Some row → row_fits (last_row no_row rows) row ≡ false → table_of s ≡ refused UnfitTable

-- so many bytes of a text decide: 24 lines of at most 160 bytes, each with its line feed, and one byte more
abbrev pub table_room : ℕ
table_room = 3865

pub record TableTexts : Type 0 where
  -- a text that is accepted is the written text of its table, and its table is an accepted one
  pub only : (s : List ℕ) (t : Table) → table_of s ≡ accepted t → IsTableText s t × (Whole t × (accepted_table t ≡ true))
  -- the written text of an accepted table, with or without its last line feed, is read as that table
  pub each : (s : List ℕ) (t : Table) → IsTableText s t → Whole t → accepted_table t ≡ true → table_of s ≡ accepted t
  -- by which refusal, whatever comes after the first line at fault
  pub faults : (s : List ℕ) (ls : List (List ℕ)) (rows : Table) → Right 2014 no_row ls rows → Faults s ls rows
  -- no text is refused but by 19 or 20
  pub refusals : (s : List ℕ) (r : Refusal) → table_of s ≡ refused r → (r ≡ NotATable) ⊎ (r ≡ UnfitTable)
  -- whatever a text's length, its first bytes decide: those past them cannot change what it is read as
  pub first_bytes : (s : List ℕ) → table_of (take table_room s) ≡ table_of s
