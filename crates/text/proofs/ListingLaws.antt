-- Laws of the listing: what stands in the buffer after each turn of its loops, and how long it can be.
use Prim.Native.Nat.{ℕ, zero, suc, ◌+◌, ◌-◌, ◌*◌, ◌≤◌, ◌<◌}
use native.Mathlib.Nat.{suc-mul, mul-le-mul_right}
use native.Mathlib.Numerals.{add-one}
use native.Mathlib.Omega.{arith}
use mathlib.Core.Path.{◌≡◌, refl, ap}
use mathlib.Core.List.{List, [], ◌∷◌}
use lib.Dec.{lit≤}
use lib.ListN.{length, length-append}
use Rattle.figuring.specs.Years.{first_year}
use Rattle.book.specs.Sizes.{makers, sets, years}
use Rattle.book.specs.Listing.{lot_entry, shortage_entry}
use Rattle.book.specs.declared.ledger.Book.{Book}
use Rattle.book.specs.declared.listing.LotEntry.{LotEntry}
use Rattle.book.specs.declared.listing.ShortageEntry.{ShortageEntry}
use Rattle.book.proofs.PlaceLaws.{counted, counted_on}
use Rattle.text.specs.Gather.{gather}
use Rattle.text.specs.Pattern.{filled}
use Rattle.text.specs.declared.page.Page.{Page}
use Rattle.text.specs.Placing.{HasRoom, Adds}
use Rattle.std.specs.Prelude.{Option, Some, None}
use Rattle.text.specs.Listing.{entry_room, lot_text, shortage_text, lot_line, shortage_line, cell_text}
use Rattle.text.specs.Listing.{maker_text, listing, listing_room}
use Rattle.text.proofs.FillLaws.{filled_digits, numeral_length}
use Rattle.text.proofs.NumeralLaws.{numeral_short}
use Rattle.text.proofs.StoreLaws.{adds_nothing, adds_text, adds_then, after_adds}

-- ---- one line: a maker, a set and a year are short numbers, and an amount has at most 20 digits
module _ (p : List ℕ) (m s y mg : ℕ) (hm : m < 10) (hs : s < 10) (hy : y < 10000)
    (t : length p + 26 ≤ entry_room) where
  pub entry_length : length (filled p (m ∷ s ∷ y ∷ mg ∷ [])) ≤ entry_room
  entry_length =
      omega (
        arith,
        filled_digits p (m ∷ s ∷ y ∷ mg ∷ []),
        numeral_short 0 20 m hm,
        numeral_short 0 20 s hs,
        numeral_short 3 20 y hy,
        numeral_length 20 mg,
        t,
      )

module _ (o : ℕ) (l : List ℕ) (m s i : ℕ) where
  module _ (hm : m < makers) (hs : s < sets) (hi : i < years) where
    pub lot_length : length (lot_line o l m s i) ≤ entry_room
    unfolding lot_line
    lot_length = go (lot_entry o l m s (first_year + i))
      where
        go : (e : Option LotEntry) → length (lot_text m s (first_year + i) e) ≤ entry_room
        go (Some (LotEntry.Live mg)) = entry_length _ _ _ _ _ (omega arith) (omega arith) (omega arith) (lit≤ tt)
        go (Some (LotEntry.Expired mg)) = entry_length _ _ _ _ _ (omega arith) (omega arith) (omega arith) (lit≤ tt)
        go None = omega arith

    pub shortage_length : length (shortage_line o l m s i) ≤ entry_room
    unfolding shortage_line
    shortage_length = go (shortage_entry o l m s (first_year + i))
      where
        go : (e : Option ShortageEntry) → length (shortage_text m s (first_year + i) e) ≤ entry_room
        go (Some (ShortageEntry.Open mg)) = entry_length _ _ _ _ _ (omega arith) (omega arith) (omega arith) (lit≤ tt)
        go (Some (ShortageEntry.Overdue mg)) = entry_length _ _ _ _ _ (omega arith) (omega arith) (omega arith) (lit≤ tt)
        go None = omega arith

-- the line of a year, as the loops have it
module _ (o : ℕ) (l : List ℕ) (m s y : ℕ) (f : first_year ≤ y) where
  pub lot_adds :
      {entry : Option LotEntry} {a b : Page} → entry ≡ lot_entry o l m s y
      → Adds (lot_text m s y entry) a b → Adds (lot_line o l m s (y - first_year)) a b
  unfolding lot_line
  lot_adds e h = rw (counted y f) (adds_text (ap (lot_text m s y) e) h)

  pub shortage_adds :
      {entry : Option ShortageEntry} {a b : Page} → entry ≡ shortage_entry o l m s y
      → Adds (shortage_text m s y entry) a b → Adds (shortage_line o l m s (y - first_year)) a b
  unfolding shortage_line
  shortage_adds e h = rw (counted y f) (adds_text (ap (shortage_text m s y) e) h)

-- ---- a loop that puts f 0, f 1, .. one after the other, each of at most m bytes: page a has come to b
pub record Gathered (f : ℕ → List ℕ) (m : ℕ) (a b : Page) (i : ℕ) : Type 0 where
  pub adds : Adds (gather i f) a b
  pub short : length (gather i f) ≤ i * m

pub none_yet : {f : ℕ → List ℕ} {m : ℕ} {a : Page} → Gathered f m a a 0
unfolding gather
none_yet = record { adds = adds_nothing refl; short = omega arith }

module _ {f : ℕ → List ℕ} {m : ℕ} {a b : Page} {i : ℕ} (g : Gathered f m a b i) where
  -- there is room for one more
  pub room_left : (n : ℕ) → i < n → HasRoom (n * m) a → HasRoom m b
  room_left n l h =
      omega (arith, g.short, h, after_adds g.adds, mul-le-mul_right m l, suc-mul i m)

  pub one_more : {c : Page} → length (f i) ≤ m → Adds (f i) b c → Gathered f m a c (i + 1)
  unfolding gather
  one_more h k =
      rw (add-one i)
      (record {
        adds = adds_then g.adds k;
        short = rw (suc-mul, length-append) (omega (arith, g.short));
      })

  pub all_gathered : (n : ℕ) → i ≤ n → n ≤ i → Adds (gather n f) a b
  all_gathered n l h = let e : i ≡ n = omega arith in rw (← e) g.adds

-- the same, where the loop goes by years
pub one_more_year :
    {f : ℕ → List ℕ} {m : ℕ} {a b c : Page} (y : ℕ) → first_year ≤ y → Gathered f m a b (y - first_year)
    → length (f (y - first_year)) ≤ m → Adds (f (y - first_year)) b c → Gathered f m a c (y + 1 - first_year)
one_more_year y l g h k = rw (counted_on y l) (one_more g h k)

pub gather_length : (f : ℕ → List ℕ) (m n : ℕ) → ((i : ℕ) → i < n → length (f i) ≤ m) → length (gather n f) ≤ n * m
unfolding gather
gather_length f m zero h = omega arith
gather_length f m (suc n) h =
    rw (length-append, suc-mul) (omega (arith, gather_length f m n (λ i l. h i (omega arith)), h n (omega arith)))

-- ---- a cell, and a maker
module _ (b : Book) (m : ℕ) (hm : m < makers) where
  pub lots_length :
      (s : ℕ) → s < sets → length (gather years (lot_line b.open_year b.lots m s)) ≤ years * entry_room
  lots_length s hs =
      gather_length (lot_line b.open_year b.lots m s) entry_room years (λ i hi. lot_length _ _ m s i hm hs hi)

  pub cell_length : (s : ℕ) → s < sets → length (cell_text b m s) ≤ years * entry_room + years * entry_room
  unfolding cell_text
  cell_length s hs =
      rw length-append
      (omega (
        arith,
        lots_length s hs,
        gather_length (shortage_line b.open_year b.shortages m s) entry_room years
            (λ i hi. shortage_length _ _ m s i hm hs hi),
      ))

  pub maker_length : length (maker_text b m) ≤ sets * (years * entry_room + years * entry_room)
  unfolding maker_text
  maker_length = gather_length (cell_text b m) (years * entry_room + years * entry_room) sets cell_length

pub listing_length : (b : Book) → length (listing b) ≤ listing_room
unfolding listing
listing_length b =
    gather_length (maker_text b) (sets * (years * entry_room + years * entry_room)) makers (λ m h. maker_length b m h)
