-- Card 8: which lines a book's text has, and in which order, in the card's words: a line "for each filed family", for each lot
-- and for each shortage "for Mg above 0", and "each group rises by its first three figures". So nobody need trust the places
-- by which `entries` goes.
use Rattle.std.specs.Prelude.{ℕ, ◌<◌, true, ◌↔◌, List, [], ◌∷◌, ◌≡◌, get_or}
use Rattle.book.specs.Sizes.{makers, sets, families}
use Rattle.book.specs.Ledger.{In, key, cell, figure_at, marked, part_at}
use Rattle.book.specs.Orders.{Among}
use Rattle.book.specs.declared.ledger.Book.{Book}
use Rattle.text.specs.declared.entries.Entry.{Entry}
use Rattle.text.specs.Entries.{entries}
use Rattle.text.specs.BookOrder.{ordering, lesser}

-- a family of the book
pub record FamilyIn (m s n : ℕ) : Type 0 where
  pub maker : m < makers
  pub set : s < sets
  pub number : n < families

-- what an entry says of a book: that a family is filed, with its part; that a lot, or a shortage, is so many Mg, above 0
abbrev pub Says : Book → Entry → Type 0
Says b (Entry.Family m s n part) =
    FamilyIn m s n
    × ((marked (get_or b.marks (cell m s) 0) n ≡ true) × (part_at b.parts (cell m s) n ≡ part))
Says b (Entry.Lot m s y mg) = In (key m s y) × ((0 < mg) × (figure_at b.lots (key m s y) ≡ mg))
Says b (Entry.Shortage m s y mg) = In (key m s y) × ((0 < mg) × (figure_at b.shortages (key m s y) ≡ mg))

-- each comes before the next, by group and by the first three figures: so none stands twice
abbrev pub Rises : List Entry → Type 0
Rises [] = Unit {0}
Rises (e ∷ []) = Unit {0}
Rises (e ∷ f ∷ es) = (lesser (ordering e) (ordering f) ≡ true) × Rises (f ∷ es)

-- of any book, sound or not
pub record EachEntry (b : Book) : Type 0 where
  pub exactly : (e : Entry) → Among e (entries b) ↔ Says b e
  pub rises : Rises (entries b)
