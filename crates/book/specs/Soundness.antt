-- Document 01, "Sound means": decided for any book whatever.
use Rattle.std.specs.Prelude.{ℕ, ◌+◌, Bool, ◌&&◌, ◌||◌, List, ltb, leb, eqb, ℤ, nat_abs, get_or}
use Rattle.figuring.specs.Years.{first_year}
use Rattle.figuring.specs.Parts.{part_most}
use Rattle.book.specs.Sizes.{makers, sets, families, years, all_closed, shortage_most, lots_most}
use Rattle.figuring.specs.Below.{all_below}
use Rattle.book.specs.Below.{sum_below}
use Rattle.book.specs.Ledger.{key, cell, figure_at, marked, part_at}
use Rattle.book.specs.declared.ledger.Book.{Book}

-- Card 4: "A sound part lies within ±3.84 × 10^16"; document 01: "and zero where unmarked"
unfoldable pub part_sound : ℕ → ℕ → ℤ → Bool
part_sound mark family z = leb (nat_abs z) part_most && (marked mark family || eqb (nat_abs z) 0)

unfoldable pub family_sound : Book → ℕ → ℕ → Bool
family_sound b c f = part_sound (get_or b.marks c 0) f (part_at b.parts c f)

-- "every shortage at most 2.5 × 10^10"; "lots and shortages of the open year and later zero"
unfoldable pub figures_sound : ℕ → ℕ → ℕ → ℕ → Bool
figures_sound open_year year lot shortage =
    leb shortage shortage_most && (ltb year open_year || (eqb lot 0 && eqb shortage 0))

-- i counts the years from the first
unfoldable pub year_sound : Book → ℕ → ℕ → ℕ → Bool
year_sound b m s i =
    figures_sound b.open_year (first_year + i) (figure_at b.lots (key m s (first_year + i)))
    (figure_at b.shortages (key m s (first_year + i)))

unfoldable pub cell_sound : Book → ℕ → ℕ → Bool
cell_sound b m s = all_below families (family_sound b (cell m s)) && all_below years (year_sound b m s)

unfoldable pub maker_sound : Book → ℕ → Bool
maker_sound b m = all_below sets (cell_sound b m)

-- "A fault in any cell makes the whole book unsound."
unfoldable pub cells_sound : Book → Bool
cells_sound b = all_below makers (maker_sound b)

-- "for each set and vintage the lots of all makers together at most 2 × 10^11"
abbrev pub lot_of : List ℕ → ℕ → ℕ → ℕ → ℕ
lot_of l s i m = figure_at l (key m s (first_year + i))

unfoldable pub total_sound : List ℕ → ℕ → ℕ → Bool
total_sound l s i = leb (sum_below makers (lot_of l s i)) lots_most

unfoldable pub set_sound : List ℕ → ℕ → Bool
set_sound l s = all_below years (total_sound l s)

unfoldable pub totals_sound : List ℕ → Bool
totals_sound l = all_below sets (set_sound l)

-- "open year in range"
unfoldable pub year_in_range : ℕ → Bool
year_in_range y = leb first_year y && leb y all_closed

unfoldable pub sound : Book → Bool
sound b = year_in_range b.open_year && (cells_sound b && totals_sound b.lots)
