-- What the tests of an entry say: its maker, set, and number or year are the book's, and its rank is below all ranks.
use Prim.Native.Nat.{ℕ, ◌+◌, ◌*◌, ◌<◌}
use native.Mathlib.Omega.{arith}
use mathlib.Core.Bool.{true}
use mathlib.Core.Path.{◌≡◌}
use lib.Dec.{ltb}
use lib.IntN.{ℤ}
use borrow.Author.Tests.{lt-ltb, le-leb, ltb-true}
use Rattle.figuring.specs.Years.{first_year, last_year}
use Rattle.figuring.proofs.BoolLaws.{both, and_intro}
use Rattle.book.specs.Sizes.{makers, sets, families, places, all_parts}
use Rattle.book.specs.Ledger.{In, key, cell, place, is_family}
use Rattle.book.specs.Listing.{is_cell_year}
use Rattle.book.proofs.ListingLaws.{cell_year}
use Rattle.text.specs.declared.entries.Entry.{Entry}
use Rattle.text.specs.Entries.{in_book, rank, all_entries}
use Rattle.std.specs.Prelude.{Some}
use Rattle.text.specs.BookReading.{only_if}
use Rattle.text.specs.EachEntry.{FamilyIn}
use Rattle.text.proofs.EntryLineLaws.{AboveZero}

pub family_in_lem : {m s n : ℕ} → is_family m s n ≡ true → FamilyIn m s n
unfolding is_family
family_in_lem {m} {s} {n} e =
    let v = both (ltb m makers) _ e in
    let w = both (ltb s sets) _ v.1 in
    record { maker = ltb-true m makers v.0; set = ltb-true s sets w.0; number = ltb-true n families w.1 }

pub in_family : {m s n : ℕ} → FamilyIn m s n → is_family m s n ≡ true
unfolding is_family
in_family {m} {s} {n} i =
    and_intro (lt-ltb m makers i.maker) (and_intro (lt-ltb s sets i.set) (lt-ltb n families i.number))

pub in_figure : {m s y : ℕ} → In (key m s y) → is_cell_year m s y ≡ true
unfolding is_cell_year
in_figure {m} {s} {y} i =
    and_intro (lt-ltb m makers i.maker)
    (and_intro (lt-ltb s sets i.set) (and_intro (le-leb first_year y i.from) (le-leb y last_year i.upto)))

-- the test of an entry, by its kind
module _ {e : Entry} (h : in_book e ≡ true) where
  pub family_test : {m s n : ℕ} {z : ℤ} → e ≡ Entry.Family m s n z → is_family m s n ≡ true
  unfolding in_book
  family_test q = rw q at h

  pub family_facts : {m s n : ℕ} {z : ℤ} → e ≡ Entry.Family m s n z → FamilyIn m s n
  family_facts q = family_in_lem (family_test q)

  pub lot_test : {m s y mg : ℕ} → e ≡ Entry.Lot m s y mg → is_cell_year m s y ≡ true
  unfolding in_book
  lot_test q = rw q at h

  pub shortage_test : {m s y mg : ℕ} → e ≡ Entry.Shortage m s y mg → is_cell_year m s y ≡ true
  unfolding in_book
  shortage_test q = rw q at h

-- an entry of the book, above 0 where it must be
abbrev pub Inside : Entry → Type 0
Inside (Entry.Family m s n part) = FamilyIn m s n
Inside (Entry.Lot m s y mg) = In (key m s y) × (0 < mg)
Inside (Entry.Shortage m s y mg) = In (key m s y) × (0 < mg)

pub inside_is : (e : Entry) → in_book e ≡ true → AboveZero e → Inside e
unfolding in_book
inside_is (Entry.Family m s n part) e a = family_in_lem e
inside_is (Entry.Lot m s y mg) e a = (cell_year m s y e, a)
inside_is (Entry.Shortage m s y mg) e a = (cell_year m s y e, a)

pub is_inside : (e : Entry) → Inside e → (in_book e ≡ true) × AboveZero e
unfolding in_book
is_inside (Entry.Family m s n part) i = (in_family i, tt)
is_inside (Entry.Lot m s y mg) i = (in_figure i.0, i.1)
is_inside (Entry.Shortage m s y mg) i = (in_figure i.0, i.1)

pub rank_below : (e : Entry) → Inside e → rank e < all_entries
unfolding rank
rank_below (Entry.Family m s n part) i = omega arith
rank_below (Entry.Lot m s y mg) i = omega arith
rank_below (Entry.Shortage m s y mg) i = omega arith

-- where an entry ranks whose place, or family, is the book's
pub family_ranks :
    {e : Entry} {m s n i : ℕ} {z : ℤ} → e ≡ Entry.Family m s n z → FamilyIn m s n → i ≡ cell m s * families + n
    → Some i ≡ only_if (in_book e) (Some (rank e))
unfolding in_book rank
family_ranks q h e = rw (q, in_family h, e)

module _ {e : Entry} {m s y mg i : ℕ} (h : In (key m s y)) where
  pub lot_ranks : e ≡ Entry.Lot m s y mg → i ≡ all_parts + place (key m s y) → Some i ≡ only_if (in_book e) (Some (rank e))
  unfolding in_book rank
  lot_ranks q at = rw (q, in_figure h, at)

  pub shortage_ranks :
      e ≡ Entry.Shortage m s y mg → i ≡ all_parts + (places + place (key m s y)) → Some i ≡ only_if (in_book e) (Some (rank e))
  unfolding in_book rank
  shortage_ranks q at = rw (q, in_figure h, at)

-- the test of an entry, for each kind
pub ruleset entry_tests = (family_test, family_facts, lot_test, shortage_test)
