-- Card 8: a book as its open year and its entries, "`(family maker set number part)` for each filed family, then
-- `(lot maker set year Mg)`, then `(short maker set year Mg)`, both for Mg above 0. Each group rises by its first three
-- figures."
use Rattle.std.specs.Prelude.{ℕ, ◌+◌, ◌*◌, ◌/◌, ◌%◌, Bool, true, false, List, [], ◌∷◌, ◌++◌, ltb, get_or, set as store, ℤ, pos}
use Rattle.figuring.specs.Years.{first_year}
use Rattle.book.specs.Sizes.{sets, families, years, places, all_parts}
use Rattle.book.specs.Ledger.{key, cell, place, marked, is_family}
use Rattle.book.specs.Listing.{is_cell_year}
use Rattle.book.specs.Postings.{empty_in, stored, moved}
use Rattle.book.specs.declared.ledger.Book.{Book}
use Rattle.text.specs.declared.entries.Entry.{Entry}
use Rattle.text.specs.Gather.{gather}

-- ---- the entries of a book
abbrev pub entry_if : Bool → Entry → List Entry
entry_if true e = e ∷ []
entry_if false e = []

-- place i of the parts is that of family i % 64 of cell i / 64: whether it is filed
abbrev pub filed_at : List ℕ → ℕ → Bool
filed_at marks i = marked (get_or marks (i / families) 0) (i % families)

-- it has an entry where it is filed, whatever its part
abbrev pub family_entry : ℕ → ℤ → ℕ → List Entry
family_entry mark part i =
    let c = i / families in
    entry_if (marked mark (i % families)) (Entry.Family (c / sets) (c % sets) (i % families) part)

unfoldable pub family_at : List ℕ → List ℤ → ℕ → List Entry
family_at marks parts i = family_entry (get_or marks (i / families) 0) (get_or parts i (pos 0)) i

-- place i of the lots, and of the shortages, is that of year 2014 + i % 24 of cell i / 24; it has an entry, of this kind,
-- where its Mg are above 0
abbrev pub figure_entry : (ℕ → ℕ → ℕ → ℕ → Entry) → ℕ → ℕ → List Entry
figure_entry kind mg i =
    let c = i / years in
    entry_if (ltb 0 mg) (kind (c / sets) (c % sets) (first_year + i % years) mg)

unfoldable pub mg_at : (ℕ → ℕ → ℕ → ℕ → Entry) → List ℕ → ℕ → List Entry
mg_at kind figures i = figure_entry kind (get_or figures i 0) i

-- a book's entries, in the order of the lines
unfoldable pub entries : Book → List Entry
entries b =
    gather all_parts (family_at b.marks b.parts)
    ++ (gather places (mg_at Entry.Lot b.lots) ++ gather places (mg_at Entry.Shortage b.shortages))

-- ---- a book made of entries
-- "a maker, set, number or year in it .. isn't one of the book's"
unfoldable pub in_book : Entry → Bool
in_book (Entry.Family m s n part) = is_family m s n
in_book (Entry.Lot m s y mg) = is_cell_year m s y
in_book (Entry.Shortage m s y mg) = is_cell_year m s y

-- an entry's rank in the order of the lines: that it rises as the card's groups and figures do is `RankOrders`
unfoldable pub rank : Entry → ℕ
rank (Entry.Family m s n part) = cell m s * families + n
rank (Entry.Lot m s y mg) = all_parts + place (key m s y)
rank (Entry.Shortage m s y mg) = all_parts + (places + place (key m s y))

-- as many ranks as there are places
abbrev pub all_entries : ℕ
all_entries = all_parts + (places + places)

-- a book with one entry more; a family is stored as a filing stores it
unfoldable pub enter : Book → Entry → Book
enter b (Entry.Family m s n part) = (stored b (cell m s) n part).book
enter b (Entry.Lot m s y mg) = moved b (store b.lots (place (key m s y)) mg) b.shortages
enter b (Entry.Shortage m s y mg) = moved b b.lots (store b.shortages (place (key m s y)) mg)

-- a book with no entries
unfoldable pub empty_at : ℕ → Book
empty_at open_year = empty_in open_year
