-- Card 2: the standards read from "a grid of 24 years by 6 columns", 0 for none.
-- `printed_grid` is what the grid in the source is promised to be. Card 7 takes it as the built-in table, and reads any
-- table by these rows and columns (Tables).
use Rattle.std.specs.Prelude.{ℕ, zero, suc, ◌-◌, min, cond, List, [], ◌∷◌, eqb, ltb, Option, Some, None}
use Rattle.figuring.specs.Standards.{standard_for, grams_of}
use Rattle.figuring.specs.Years.{first_year, last_year}

-- a row for each model year, an entry for each column
abbrev pub Grid : Type 0
Grid = List (List ℕ)

abbrev pub grid_years : ℕ
grid_years = 24

abbrev pub grid_columns : ℕ
grid_columns = 6

-- A year's row: set 0, set 1, medium vocational, heavy vocational, medium tractor, heavy tractor.
unfoldable pub grid_row : ℕ → List ℕ
grid_row y =
    grams_of (standard_for 0 0 y)
    ∷ grams_of (standard_for 1 0 y)
    ∷ grams_of (standard_for 2 0 y)
    ∷ grams_of (standard_for 3 0 y)
    ∷ grams_of (standard_for 2 1 y)
    ∷ grams_of (standard_for 3 1 y)
    ∷ []

-- The rows of n years, from a year on.
unfoldable pub grid_from : ℕ → ℕ → Grid
grid_from y zero = []
grid_from y (suc n) = grid_row y ∷ grid_from (suc y) n

-- The printed standards of 2014 to 2037 as a grid.
unfoldable pub printed_grid : Grid
printed_grid = grid_from first_year grid_years

-- The row of a year from 2014 on, counted from 0; every later year is read in the last.
abbrev pub row_of : ℕ → ℕ
row_of y = min y last_year - first_year

-- The column of a set and a use, counted from 0; past the last where there is none.
unfoldable pub column_of : ℕ → ℕ → ℕ
column_of s u =
    cond (eqb u 0)
    (cond (eqb s 0) 0 (cond (eqb s 1) 1 (cond (eqb s 2) 2 (cond (eqb s 3) 3 grid_columns))))
    (cond (eqb u 1) (cond (eqb s 2) 4 (cond (eqb s 3) 5 grid_columns)) grid_columns)

-- A column as the code answers it: none past the last.
abbrev pub in_grid : ℕ → Option ℕ
in_grid j = cond (ltb j grid_columns) (Some j) None
