-- The grid of the printed standards has, at every year's row and every column, what `standard_for` says.
use Prim.Native.Nat.{ℕ, zero, suc, ◌+◌, ◌<◌, ◌≤◌, min}
use mathlib.Core.Bool.{Bool, true, false}
use mathlib.Core.Path.{◌≡◌, refl, sym, ◌∙◌, ap}
use mathlib.Core.List.{[]}
use native.Mathlib.Omega.{arith}
use native.Mathlib.Nat.{add-zero}
use borrow.Author.Tests.{ltb-true, ltb-false}
use lib.Dec.{ltb}
use lib.ListN.{get_or, get_or-eq_default}
use Rattle.figuring.specs.Years.{first_year, last_year}
use Rattle.figuring.specs.Parts.{between}
use Rattle.figuring.specs.Standards.{Standard, standard_for, vocational, tractor, grams_of}
use Rattle.figuring.specs.Grid.{grid_years, grid_columns, grid_row, grid_from, printed_grid, row_of, column_of}
use Rattle.figuring.specs.Tables.{built_in, entry, is_standard, standard_of}
use Rattle.std.proofs.Common.{Some, None}
use Rattle.figuring.proofs.StandardLaws.{every, in_range, in_range_lem, last_after}

-- ---- entries: a standard is within the limits and none is 0, so the entry gives it back
back_of : (x : Standard) → in_range x ≡ true → standard_of (grams_of x) ≡ x
unfolding standard_of is_standard between
back_of (Some g) r = rw r
back_of None r = refl

back : (s u y : ℕ) → standard_of (grams_of (standard_for s u y)) ≡ standard_for s u y
back s u y = back_of (standard_for s u y) (in_range_lem s u y)

-- ---- columns
in_column : (s u y : ℕ) → get_or (grid_row y) (column_of s u) 0 ≡ grams_of (standard_for s u y)
unfolding grid_row standard_for vocational tractor
in_column s u y = every (λ j x. get_or (grid_row y) j 0 ≡ grams_of x) y refl refl refl refl refl refl refl s u

pub no_column : (s u y : ℕ) → grid_columns ≤ column_of s u → standard_for s u y ≡ None
unfolding standard_of is_standard between grid_row
no_column s u y h =
    sym (back s u y)
    ∙ ap standard_of (sym (in_column s u y) ∙ get_or-eq_default (grid_row y) 0 {n = column_of s u} (omega arith))

-- ---- rows
row_at : (y n i : ℕ) → i < n → get_or (grid_from y n) i [] ≡ grid_row (y + i)
unfolding grid_from
row_at y zero i l = absurd (omega arith)
row_at y (suc n) zero l = ap grid_row (sym (add-zero y))
row_at y (suc n) (suc i) l = row_at (suc y) n i (omega arith) ∙ ap grid_row (omega arith)

row_read : (y : ℕ) → first_year ≤ y → get_or printed_grid (row_of y) [] ≡ grid_row (min y last_year)
unfolding printed_grid
row_read y l = row_at first_year grid_years (row_of y) (omega arith) ∙ ap grid_row (omega arith)

same_standard : (s u y : ℕ) → standard_for s u (min y last_year) ≡ standard_for s u y
same_standard s u y = go (ltb last_year y) refl
  where
    go : (b : Bool) → ltb last_year y ≡ b → standard_for s u (min y last_year) ≡ standard_for s u y
    go true h = ap (standard_for s u) (omega (arith, ltb-true)) ∙ sym (last_after s u y (omega (arith, ltb-true)))
    go false h = ap (standard_for s u) (omega (arith, ltb-false))

-- ---- what is read at a row and a column
pub standard_read : (s u y : ℕ) → first_year ≤ y → standard_of (entry built_in (row_of y) (column_of s u)) ≡ standard_for s u y
standard_read s u y l =
    ap standard_of (rw (row_read y l) (in_column s u (min y last_year)) ∙ ap grams_of (same_standard s u y)) ∙ back s u y
