-- The statement that postings come to: a function of the opening figures that they begin with, the open year among them,
-- and of the accepted calls, each with the table that it was handed, by their accounts; and of no book.
use Rattle.std.specs.Prelude.{ℕ, zero, suc, ◌+◌, ◌-◌, ◌*◌, cond, List, [], ◌∷◌, ◌++◌, map}
use Rattle.figuring.specs.Years.{first_year}
use Rattle.book.specs.Sizes.{makers, sets, years}
use Rattle.book.specs.Ledger.{Key, key, cell}
use Rattle.figuring.specs.Life.{live, open_short}
use Rattle.book.specs.Rules.{Request}
use Rattle.book.specs.Accounts.{Opening, Accounts, Entry, as_accepted, accounts_from, lot_by, shortage_by}
use Rattle.text.specs.Ascii.{ascii}
use Rattle.text.specs.Pattern.{filled}
use Rattle.text.specs.Gather.{gather}
use Rattle.text.specs.Desk.{line_feed}

-- a posting, entered as accepted
abbrev pub as_posting : Request → Entry
as_posting r = as_accepted r.table r.call

-- the accounts of postings, begun with opening figures
unfoldable pub accounts_by : Opening → List Request → Accounts
accounts_by o ps = accounts_from o (map as_posting ps)

-- a line of the statement: a lot or a shortage, with its Mg
pub data Item : Type 0 where
  lot : Key → ℕ → Item
  short : Key → ℕ → Item

-- no line for 0 Mg
abbrev pub above0 : ℕ → Item → List Item
above0 zero x = []
above0 (suc n) x = x ∷ []

-- a cell's lots, then its shortages, by year; i counts the years from the first. No difference of the accounts stops at
-- zero here: `Tells.exactly` of Shown
abbrev pub lot_item : Accounts → ℕ → ℕ → ℕ → List Item
lot_item a m s i = let k = key m s (first_year + i) in above0 (lot_by a k) (lot k (lot_by a k))

abbrev pub short_item : Accounts → ℕ → ℕ → ℕ → List Item
short_item a m s i = let k = key m s (first_year + i) in above0 (shortage_by a k) (short k (shortage_by a k))

unfoldable pub cell_items : Accounts → ℕ → ℕ → List Item
cell_items a m s = gather years (lot_item a m s) ++ gather years (short_item a m s)

-- makers rising, then sets
unfoldable pub items : Accounts → List Item
items a = gather makers (λ m. gather sets (cell_items a m))

-- an item's place in the order: makers rising, then sets; of a cell the lots by year, then the shortages by year
abbrev pub rank : Item → ℕ
rank (lot k n) = cell k.maker k.set * (years + years) + (k.year - first_year)
rank (short k n) = cell k.maker k.set * (years + years) + years + (k.year - first_year)

-- a line's form: Y is the open year; a lot shown that is not live is expired, a shortage that is not open is overdue
abbrev pub item_pattern : ℕ → Item → List ℕ
item_pattern Y (lot k n) = cond (live Y k.year) (ascii "(lot # # # live #)") (ascii "(lot # # # expired #)")
item_pattern Y (short k n) =
    cond (open_short Y k.year) (ascii "(short # # # open #)") (ascii "(short # # # overdue #)")

-- and its figures: maker, set, year, Mg
abbrev pub item_figures : Item → List ℕ
item_figures (lot k n) = k.maker ∷ k.set ∷ k.year ∷ n ∷ []
item_figures (short k n) = k.maker ∷ k.set ∷ k.year ∷ n ∷ []

unfoldable pub item_line : ℕ → Item → List ℕ
item_line Y x = filled (item_pattern Y x) (item_figures x)

unfoldable pub item_lines : ℕ → List Item → List ℕ
item_lines Y [] = []
item_lines Y (x ∷ xs) = item_line Y x ++ line_feed ∷ item_lines Y xs

-- what postings come to, begun with the opening figures o, printed
abbrev pub statement : Opening → List Request → List ℕ
statement o ps = item_lines (accounts_by o ps).open_year (items (accounts_by o ps))
