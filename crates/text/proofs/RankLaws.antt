-- The rank of an entry orders as its group and its first three figures do.
use Prim.Native.Nat.{ℕ, ◌+◌, ◌*◌, ◌≤◌, ◌<◌}
use native.Mathlib.Omega.{arith}
use native.Mathlib.Decide.{dec_lt, ℕ_discrete}
use mathlib.Core.Bool.{Bool, false, ◌&&◌, ◌||◌}
use mathlib.Core.List.{[], ◌∷◌}
use mathlib.Core.Path.{◌≡◌}
use lib.Dec.{ltb, eqb}
use borrow.Author.Tests.{lt-ltb, le-ltb, eq-eqb, ne_eqb}
use Rattle.book.specs.Sizes.{families, places, all_parts}
use Rattle.book.specs.Ledger.{In, key, cell, place}
use Rattle.book.proofs.ListingLaws.{cell_year}
use Rattle.text.specs.declared.entries.Entry.{Entry}
use Rattle.text.specs.Entries.{in_book, rank}
use Rattle.text.specs.BookOrder.{lesser, RankOrders}
use Rattle.text.specs.EachEntry.{FamilyIn}
use Rattle.text.proofs.EntryFacts.{family_in_lem}

-- a test by the first figure that differs is that of a number x against y, if x and y order so
module _ (x y a b : ℕ) (t : Bool) (up : a < b → x < y) (down : b < a → y ≤ x) (level : a ≡ b → ltb x y ≡ t) where
  decides : ltb x y ≡ (ltb a b || (eqb a b && t))
  decides = go (dec_lt a b) (ℕ_discrete a b)
    where
      go : Dec (a < b) → Dec (a ≡ b) → ltb x y ≡ (ltb a b || (eqb a b && t))
      go (yes h) e = rw (lt-ltb x y (up h), lt-ltb a b h)
      go (no h) (yes e) = rw (le-ltb a b (omega arith), eq-eqb a b e) (level e)
      go (no h) (no e) = rw (le-ltb a b (omega arith), ne_eqb a b e) (le-ltb x y (down (omega (arith, e))))

same : (x y a b : ℕ) → (a < b → x < y) → (b ≤ a → y ≤ x) → ltb x y ≡ (ltb a b || (eqb a b && false))
same x y a b up down = decides x y a b false up (λ h. down (omega arith)) (λ e. le-ltb x y (down (omega arith)))

module _ (m s n m' s' n' : ℕ) (i : FamilyIn m s n) (j : FamilyIn m' s' n') where
  abbrev here : ℕ
  here = cell m s * families + n

  abbrev there : ℕ
  there = cell m' s' * families + n'

  families_order : ltb here there ≡ lesser (m ∷ s ∷ n ∷ []) (m' ∷ s' ∷ n' ∷ [])
  families_order =
      decides here there m m' (lesser (s ∷ n ∷ []) (s' ∷ n' ∷ [])) (λ h. omega arith) (λ h. omega arith)
      (λ e. decides here there s s' (lesser (n ∷ []) (n' ∷ [])) (λ h. omega arith) (λ h. omega arith)
      (λ f. same here there n n' (λ h. omega arith) (λ h. omega arith)))

module _ (k m s y m' s' y' : ℕ) (i : In (key m s y)) (j : In (key m' s' y')) where
  abbrev first : ℕ
  first = k + place (key m s y)

  abbrev second : ℕ
  second = k + place (key m' s' y')

  figures_order : ltb first second ≡ lesser (m ∷ s ∷ y ∷ []) (m' ∷ s' ∷ y' ∷ [])
  figures_order =
      decides first second m m' (lesser (s ∷ y ∷ []) (s' ∷ y' ∷ [])) (λ h. omega arith) (λ h. omega arith)
      (λ e. decides first second s s' (lesser (y ∷ []) (y' ∷ [])) (λ h. omega arith) (λ h. omega arith)
      (λ f. same first second y y' (λ h. omega arith) (λ h. omega arith)))

pub rank_orders : RankOrders
unfolding rank in_book
rank_orders (Entry.Family m s n z) (Entry.Family m' s' n' z') h k =
    families_order m s n m' s' n' (family_in_lem h) (family_in_lem k)
rank_orders (Entry.Family m s n z) (Entry.Lot m' s' y' mg) h k =
    lt-ltb (cell m s * families + n) (all_parts + place (key m' s' y')) (omega (arith, family_in_lem {m = m} {s = s} {n = n} h))
rank_orders (Entry.Family m s n z) (Entry.Shortage m' s' y' mg) h k =
    lt-ltb (cell m s * families + n) (all_parts + (places + place (key m' s' y')))
    (omega (arith, family_in_lem {m = m} {s = s} {n = n} h))
rank_orders (Entry.Lot m s y mg) (Entry.Family m' s' n' z) h k =
    le-ltb (all_parts + place (key m s y)) (cell m' s' * families + n') (omega (arith, family_in_lem {m = m'} {s = s'} {n = n'} k))
rank_orders (Entry.Lot m s y mg) (Entry.Lot m' s' y' mg') h k =
    figures_order all_parts m s y m' s' y' (cell_year m s y h) (cell_year m' s' y' k)
rank_orders (Entry.Lot m s y mg) (Entry.Shortage m' s' y' mg') h k =
    lt-ltb (all_parts + place (key m s y)) (all_parts + (places + place (key m' s' y')))
    (omega (arith, cell_year m s y h))
rank_orders (Entry.Shortage m s y mg) (Entry.Family m' s' n' z) h k =
    le-ltb (all_parts + (places + place (key m s y))) (cell m' s' * families + n')
    (omega (arith, family_in_lem {m = m'} {s = s'} {n = n'} k))
rank_orders (Entry.Shortage m s y mg) (Entry.Lot m' s' y' mg') h k =
    le-ltb (all_parts + (places + place (key m s y))) (all_parts + place (key m' s' y'))
    (omega (arith, cell_year m' s' y' k))
rank_orders (Entry.Shortage m s y mg) (Entry.Shortage m' s' y' mg') h k =
    let e : all_parts + (places + place (key m s y)) ≡ (all_parts + places) + place (key m s y) = omega arith in
    let f : all_parts + (places + place (key m' s' y')) ≡ (all_parts + places) + place (key m' s' y') = omega arith in
    rw (e, f) (figures_order (all_parts + places) m s y m' s' y' (cell_year m s y h) (cell_year m' s' y' k))
