-- Document 01, "The book": what stands where. Lots and shortages are read by `figure_at` and moved by `lower` and
-- `raise`, at a key; a close writes them by `netted`, and a filing its part by `stored` (Postings).
use Rattle.std.specs.Prelude.{ℕ, ◌+◌, ◌-◌, ◌*◌, ◌/◌, ◌%◌, ◌^◌, ◌≤◌, ◌<◌, Bool, ◌&&◌, List, ltb, eqb, get_or, set as store, ℤ, pos}
use Rattle.std.specs.Int.Bits.{bit_or}
use Rattle.std.specs.Int.Count.{ones}
use Rattle.figuring.specs.Years.{first_year, last_year}
use Rattle.book.specs.Sizes.{makers, sets, families, years}
use Rattle.book.specs.Below.{any_below, sum_below_ℤ}
use Rattle.book.specs.declared.ledger.Book.{Book}

-- the book that an open year and four arrays make
abbrev pub book_of : ℕ → List ℕ → List ℤ → List ℕ → List ℕ → Book
book_of y m p l s = record { open_year = y; marks = m; parts = p; lots = l; shortages = s }

-- a maker, a set and a year
pub record Key : Type 0 where
  pub maker : ℕ
  pub set : ℕ
  pub year : ℕ

abbrev pub key : ℕ → ℕ → ℕ → Key
key m s y = record { maker = m; set = s; year = y }

-- a maker, a set and a year of the book
pub record In (k : Key) : Type 0 where
  pub maker : k.maker < makers
  pub set : k.set < sets
  pub from : first_year ≤ k.year
  pub upto : k.year ≤ last_year

-- whether a maker and a set are the book's
unfoldable pub is_cell : ℕ → ℕ → Bool
is_cell m s = ltb m makers && ltb s sets

-- whether a maker, a set and a family number are the book's
unfoldable pub is_family : ℕ → ℕ → ℕ → Bool
is_family m s n = ltb m makers && (ltb s sets && ltb n families)

-- "A cell is one maker and one set."
abbrev pub cell : ℕ → ℕ → ℕ
cell m s = m * sets + s

-- Where a key's lot and shortage stand, of a key of the book (`In`). A year outside 2014 to 2037 has no place of its
-- own: `place` gives it that of 2014, or of another cell. No call reads a figure there: the rows that do (14, 15, 16)
-- come after those that refuse an open year out of range (2), a maker or a set that the book has not (3, 4) and such
-- a year (10, 14); a cover's payments are of live lots and open shortages. A listing asks `is_cell_year` first.
abbrev pub place : Key → ℕ
place k = (k.maker * sets + k.set) * years + (k.year - first_year)

unfoldable pub figure_at : List ℕ → Key → ℕ
figure_at l k = get_or l (place k) 0

unfoldable pub lower : List ℕ → Key → ℕ → List ℕ
lower l k n = store l (place k) (figure_at l k - n)

unfoldable pub raise : List ℕ → Key → ℕ → List ℕ
raise l k n = store l (place k) (figure_at l k + n)

-- a shortage above 0 in any year; in a sound book that year is closed, so the shortage is open or overdue
abbrev pub short_in : List ℕ → ℕ → ℕ → ℕ → Bool
short_in shortages m s i = ltb 0 (figure_at shortages (key m s (first_year + i)))

unfoldable pub has_shortage : List ℕ → ℕ → ℕ → Bool
has_shortage shortages m s = any_below years (short_in shortages m s)

-- "a 64-bit filing mark, one bit a family"
unfoldable pub marked : ℕ → ℕ → Bool
marked mark family = eqb (mark / 2 ^ family % 2) 1

unfoldable pub with_mark : ℕ → ℕ → ℕ
with_mark mark family = bit_or mark (2 ^ family)

-- how many families a mark says are filed: the number of its ones
abbrev pub filed_in : ℕ → ℕ
filed_in mark = ones mark

-- "64 parts for the open year"
abbrev pub part_at : List ℤ → ℕ → ℕ → ℤ
part_at l c f = get_or l (c * families + f) (pos 0)

-- a cell's parts, added exactly
unfoldable pub cell_sum : List ℤ → ℕ → ℤ
cell_sum l c = sum_below_ℤ families (part_at l c)
