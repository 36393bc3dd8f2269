-- Card 7, "The customer's own standards": the tables that are accepted, and the ordinary standard that a table has.
-- A table is "an array of rows", 24 of 6 figures, a row a year from 2014 on; the columns are those of the grid of card 2.
-- Any figures make a table: which of them are accepted is said here.
use Rattle.std.specs.Prelude.{ℕ, zero, suc, ◌+◌, ◌*◌, ◌<◌, ◌≤◌, Bool, true, cond, ◌&&◌, ◌||◌, ◌⊎◌, List, [], ◌≡◌, leb, ltb, eqb, get_or, replicate, nat_abs, Some, None}
use Rattle.figuring.specs.Below.{all_below}
use Rattle.figuring.specs.Years.{first_year}
use Rattle.figuring.specs.Parts.{between, standard_least, standard_most, part_of, within_limits, cf_most, volume_most, life_most}
use Rattle.figuring.specs.Standards.{Standard, standard_for}
use Rattle.figuring.specs.Grid.{Grid, grid_years, grid_columns, row_of, column_of, printed_grid}

abbrev pub Table : Type 0
Table = Grid

-- "(built-in table where it is absent)": the grid of card 2
abbrev pub built_in : Table
built_in = printed_grid

-- what stands in a row and a column, both counted from 0
abbrev pub entry : Table → ℕ → ℕ → ℕ
entry t i j = get_or (get_or t i []) j 0

-- ---- which tables are accepted

-- "432 to 769"
unfoldable pub is_standard : ℕ → Bool
is_standard n = between standard_least standard_most n

-- "An entry is 0 (none) or 432 to 769, and no column rises from a year to the next unless it comes from 0": an entry,
-- after the one of the year before
unfoldable pub entry_fits : ℕ → ℕ → Bool
entry_fits before n = (eqb n 0 || is_standard n) && (eqb before 0 || leb n before)

unfoldable pub fits_at : List ℕ → List ℕ → ℕ → Bool
fits_at before row j = entry_fits (get_or before j 0) (get_or row j 0)

-- a row, after the row of the year before
unfoldable pub row_fits : List ℕ → List ℕ → Bool
row_fits before row = all_below grid_columns (fits_at before row)

-- before the first row there is nothing to come down from
abbrev pub no_row : List ℕ
no_row = replicate grid_columns 0

unfoldable pub row_before : Table → ℕ → List ℕ
row_before t zero = no_row
row_before t (suc i) = get_or t i []

unfoldable pub row_good : Table → ℕ → Bool
row_good t i = row_fits (row_before t i) (get_or t i [])

unfoldable pub accepted_table : Table → Bool
accepted_table t = all_below grid_years (row_good t)

-- ---- the standards of a table

-- The standard that an entry is; 0 is none. An entry that may not stand in a table is none either: a call that is handed
-- one gets 20 before any standard is read.
unfoldable pub standard_of : ℕ → Standard
standard_of n = cond (is_standard n) (Some n) None

-- The ordinary standard for a set, a use and a year: "edition 0 then means this table". Every later year is read in the
-- last row, as in the grid.
unfoldable pub ordinary_in : Table → ℕ → ℕ → ℕ → Standard
ordinary_in t s u y =
    cond (leb first_year y && ltb (column_of s u) grid_columns) (standard_of (entry t (row_of y) (column_of s u))) None

-- ---- the card's words, of every table

-- an entry as the card has it
abbrev pub Allowed : Table → ℕ → ℕ → Type 0
Allowed t i j = (entry t i j ≡ 0) ⊎ ((432 ≤ entry t i j) × (entry t i j ≤ 769))

-- from the row i to the next
abbrev pub Falls : Table → ℕ → ℕ → Type 0
Falls t i j = (entry t i j ≡ 0) ⊎ (entry t (suc i) j ≤ entry t i j)

-- an accepted entry as a standard: "0 (none)"
abbrev pub zero_none : ℕ → Standard
zero_none n = cond (eqb n 0) None (Some n)

pub record CardTables : Type 0 where
  -- accepted is what keeps the limits and does not rise, and nothing else
  pub limits : (t : Table) → accepted_table t ≡ true → (i j : ℕ) → i < 24 → j < 6 → Allowed t i j
  pub falls : (t : Table) → accepted_table t ≡ true → (i j : ℕ) → suc i < 24 → j < 6 → Falls t i j
  pub only :
      (t : Table) → ((i j : ℕ) → i < 24 → j < 6 → Allowed t i j) → ((i j : ℕ) → suc i < 24 → j < 6 → Falls t i j)
      → accepted_table t ≡ true
  -- "The columns are set 0, set 1, then the four of card 5", in rows from 2014 on: there stands the standard of an accepted
  -- table, for each set and use
  pub columns :
      (t : Table) → accepted_table t ≡ true → (i : ℕ) → i < 24
      → (ordinary_in t 0 0 (2014 + i) ≡ zero_none (entry t i 0))
      × (ordinary_in t 1 0 (2014 + i) ≡ zero_none (entry t i 1))
      × (ordinary_in t 2 0 (2014 + i) ≡ zero_none (entry t i 2))
      × (ordinary_in t 3 0 (2014 + i) ≡ zero_none (entry t i 3))
      × (ordinary_in t 2 1 (2014 + i) ≡ zero_none (entry t i 4))
      × (ordinary_in t 3 1 (2014 + i) ≡ zero_none (entry t i 5))
  -- no other set and use has one, nor an earlier year; a later year has that of 2037
  pub no_tractor : (t : Table) (s y : ℕ) → s < 2 → ordinary_in t s 1 y ≡ None
  pub no_set : (t : Table) (s u y : ℕ) → 3 < s → ordinary_in t s u y ≡ None
  pub no_use : (t : Table) (s u y : ℕ) → 1 < u → ordinary_in t s u y ≡ None
  pub no_year : (t : Table) (s u y : ℕ) → y < 2014 → ordinary_in t s u y ≡ None
  pub later : (t : Table) (s u y : ℕ) → 2037 ≤ y → ordinary_in t s u y ≡ ordinary_in t s u 2037
  -- "the built-in one being one of them", and its standards are the printed ones
  pub built_in_accepted : accepted_table built_in ≡ true
  pub as_printed : (s u y : ℕ) → ordinary_in built_in s u y ≡ standard_for s u y
  -- a part under a standard of whatever table is within ±3.84 × 10^16: 768 × the limits
  pub bound :
      (t : Table) (s u y fcl cf volume life : ℕ) {g : ℕ}
      → ordinary_in t s u y ≡ Some g → within_limits fcl cf volume life ≡ true
      → nat_abs (part_of g fcl cf volume life) ≤ 768 * (cf_most * volume_most * life_most)
