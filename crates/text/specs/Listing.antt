-- Document 01: "then lists the cells, maker before set, in rising order: for each cell the lots above 0, then its
-- shortages above 0, by year, as maker, set, year, state (live or expired; open or overdue), Mg". What there is to show
-- of a cell and a year is the book layer's to say.
use Rattle.std.specs.Prelude.{ℕ, ◌+◌, ◌*◌, List, [], ◌∷◌, ◌++◌, Option, Some, None}
use Rattle.figuring.specs.Years.{first_year}
use Rattle.book.specs.Sizes.{makers, sets, years}
use Rattle.book.specs.Listing.{lot_entry, shortage_entry}
use Rattle.book.specs.declared.ledger.Book.{Book}
use Rattle.book.specs.declared.listing.LotEntry.{LotEntry}
use Rattle.book.specs.declared.listing.ShortageEntry.{ShortageEntry}
use Rattle.text.specs.Ascii.{ascii}
use Rattle.text.specs.Pattern.{filled}
use Rattle.text.specs.Gather.{gather}

-- no line of the listing is longer
abbrev pub entry_room : ℕ
entry_room = 64

-- room for a line for each maker, set and year, twice: its lot and its shortage
abbrev pub listing_room : ℕ
listing_room = makers * (sets * (years * entry_room + years * entry_room))

abbrev pub lot_text : ℕ → ℕ → ℕ → Option LotEntry → List ℕ
lot_text m s y (Some (LotEntry.Live mg)) = filled (ascii "(lot # # # live #)\n") (m ∷ s ∷ y ∷ mg.0 ∷ [])
lot_text m s y (Some (LotEntry.Expired mg)) = filled (ascii "(lot # # # expired #)\n") (m ∷ s ∷ y ∷ mg.0 ∷ [])
lot_text m s y None = []

abbrev pub shortage_text : ℕ → ℕ → ℕ → Option ShortageEntry → List ℕ
shortage_text m s y (Some (ShortageEntry.Open mg)) = filled (ascii "(short # # # open #)\n") (m ∷ s ∷ y ∷ mg.0 ∷ [])
shortage_text m s y (Some (ShortageEntry.Overdue mg)) = filled (ascii "(short # # # overdue #)\n") (m ∷ s ∷ y ∷ mg.0 ∷ [])
shortage_text m s y None = []

-- o is the open year, l the book's lots; i counts the years from the first
unfoldable pub lot_line : ℕ → List ℕ → ℕ → ℕ → ℕ → List ℕ
lot_line o l m s i = lot_text m s (first_year + i) (lot_entry o l m s (first_year + i))

-- o is the open year, l the book's shortages
unfoldable pub shortage_line : ℕ → List ℕ → ℕ → ℕ → ℕ → List ℕ
shortage_line o l m s i = shortage_text m s (first_year + i) (shortage_entry o l m s (first_year + i))

unfoldable pub cell_text : Book → ℕ → ℕ → List ℕ
cell_text b m s =
    gather years (lot_line b.open_year b.lots m s)
    ++ gather years (shortage_line b.open_year b.shortages m s)

unfoldable pub maker_text : Book → ℕ → List ℕ
maker_text b m = gather sets (cell_text b m)

unfoldable pub listing : Book → List ℕ
listing b = gather makers (maker_text b)
