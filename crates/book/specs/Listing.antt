-- What a listing shows of a cell and year: a lot above 0 that is live or expired, a shortage above 0 that is open or
-- overdue.
use Rattle.std.specs.Prelude.{ℕ, Bool, ◌&&◌, cond, List, ltb, leb, Option, Some, None}
use Rattle.figuring.specs.Years.{first_year, last_year}
use Rattle.book.specs.Sizes.{makers, sets}
use Rattle.book.specs.Ledger.{key, figure_at}
use Rattle.figuring.specs.Life.{live, expired, open_short, overdue}
use Rattle.book.specs.declared.listing.LotEntry.{LotEntry}
use Rattle.book.specs.declared.listing.ShortageEntry.{ShortageEntry}

-- a maker, a set and a year of the book
unfoldable pub is_cell_year : ℕ → ℕ → ℕ → Bool
is_cell_year m s y = ltb m makers && (ltb s sets && (leb first_year y && leb y last_year))

-- what is shown of a lot: o is the open year, l the book's lots
unfoldable pub lot_entry : ℕ → List ℕ → ℕ → ℕ → ℕ → Option LotEntry
lot_entry o l m s v =
    let mg = figure_at l (key m s v) in
    cond (is_cell_year m s v && ltb 0 mg)
    (cond (live o v) (Some (LotEntry.Live (record { 0 = mg })))
    (cond (expired o v) (Some (LotEntry.Expired (record { 0 = mg }))) None))
    None

-- what is shown of a shortage: o is the open year, l the book's shortages
unfoldable pub shortage_entry : ℕ → List ℕ → ℕ → ℕ → ℕ → Option ShortageEntry
shortage_entry o l m s y =
    let mg = figure_at l (key m s y) in
    cond (is_cell_year m s y && ltb 0 mg)
    (cond (open_short o y) (Some (ShortageEntry.Open (record { 0 = mg })))
    (cond (overdue o y) (Some (ShortageEntry.Overdue (record { 0 = mg }))) None))
    None
