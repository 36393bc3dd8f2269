-- The walks of the soundness test: what they read, as the specification says it, and that one fault decides.
use Prim.Native.Nat.{ℕ, zero, suc, ◌+◌, ◌-◌, ◌*◌, ◌^◌, ◌<◌, ◌≤◌}
use mathlib.Core.Bool.{Bool, true, false, ◌||◌}
use mathlib.Core.List.{List}
use mathlib.Core.Path.{◌≡◌, refl, sym, ◌∙◌, ap, ap₂}
use native.Mathlib.Omega.{arith}
use borrow.Author.Tests.{lt-leb, le-leb}
use lib.Dec.{ltb}
use lib.ListN.{get_or, take, drop, length}
use Rattle.std.specs.List.{list_any}
use Rattle.std.proofs.Common.{add-one}
use Rattle.std.proofs.lemmas.List.{get_or-drop, length-drop}
use Rattle.std.proofs.lemmas.List.Folds.{list_any_more}
use lib.Signed.{mag}
use mir.Syntax.{w64}
use mir.Val.{to_z, of_z}
use Rattle.figuring.specs.Years.{first_year}
use Rattle.figuring.proofs.SignedLaws.{heard}
use Rattle.book.specs.Sizes.{makers, sets, families, years, places, lots_most}
use Rattle.figuring.specs.Below.{all_below}
use Rattle.book.specs.Below.{any_below, sum_below}
use Rattle.book.specs.Places.{key_of}
use Rattle.book.specs.declared.places.Place.{Place}
use Rattle.book.specs.Ledger.{In, key, cell, figure_at, part_at, has_shortage}
use Rattle.book.specs.Soundness.{part_sound, family_sound, figures_sound, year_sound, cell_sound, maker_sound, cells_sound}
use Rattle.book.specs.Soundness.{lot_of, total_sound, set_sound, totals_sound}
use Rattle.book.specs.declared.ledger.Book.{Book}
use Rattle.figuring.proofs.BelowLaws.{all_fails}
use Rattle.book.proofs.BelowLaws.{sum_more, sum_rises, sum_done}
use Rattle.figuring.proofs.BoolLaws.{first_fails, second_fails}

-- ---- a year, counted from the first
module _ (y : ℕ) (h : first_year ≤ y) where
  pub counted : first_year + (y - first_year) ≡ y
  counted = omega arith

  pub counted_on : y + 1 - first_year ≡ (y - first_year) + 1
  counted_on = omega arith

-- where it stands
pub at_year : (l : List ℕ) (m s i : ℕ) → figure_at l (key m s (first_year + i)) ≡ get_or l ((m * sets + s) * years + i) 0
unfolding figure_at
at_year l m s i = ap (λ (n : ℕ). get_or l ((m * sets + s) * years + n) 0) (omega arith)

-- a place is one of the book
pub of_the_book : (p : Place) → In (key_of p)
of_the_book p = record { maker = p.cell.maker_in; set = p.cell.set_in; from = p.from; upto = p.upto }

-- ---- what is said of the figures read
pub heard_family :
    (b : Book) (c f : ℕ) {r : Bool}
    → mag (part_at b.parts c f) < 2 ^ 63
    → r ≡ part_sound (get_or b.marks c 0) f (to_z w64 (of_z w64 (part_at b.parts c f)))
    → r ≡ family_sound b c f
unfolding family_sound
heard_family b c f g e = heard (part_sound (get_or b.marks c 0) f) (part_at b.parts c f) g e

pub heard_year :
    (b : Book) (m s y : ℕ) {r : Bool} → first_year ≤ y
    → r ≡ figures_sound b.open_year y (figure_at b.lots (key m s y)) (figure_at b.shortages (key m s y))
    → r ≡ year_sound b m s (y - first_year)
unfolding year_sound
heard_year b m s y h e = rw (counted y h) e

-- ---- one fault decides
cell_fault : (b : Book) (m s : ℕ) → m < makers → s < sets → cell_sound b m s ≡ false → cells_sound b ≡ false
unfolding cells_sound maker_sound
cell_fault b m s hm hs e = all_fails (maker_sound b) makers m hm (all_fails (cell_sound b m) sets s hs e)

pub family_fault :
    (b : Book) (m s f : ℕ)
    → m < makers → s < sets → f < families → family_sound b (cell m s) f ≡ false → cells_sound b ≡ false
unfolding cell_sound
family_fault b m s f hm hs hf e = cell_fault b m s hm hs (first_fails _ (all_fails _ families f hf e))

pub year_fault :
    (b : Book) (m s i : ℕ) → m < makers → s < sets → i < years → year_sound b m s i ≡ false → cells_sound b ≡ false
unfolding cell_sound
year_fault b m s i hm hs hi e =
    cell_fault b m s hm hs (second_fails (all_below families (family_sound b (cell m s))) (all_fails _ years i hi e))

-- the lots of one set and year already pass the most with maker m's
pub total_fault :
    (l : List ℕ) (s y m : ℕ)
    → first_year ≤ y → s < sets → y - first_year < years → m < makers
    → lots_most < sum_below m (lot_of l s (y - first_year)) + figure_at l (key m s y)
    → totals_sound l ≡ false
unfolding totals_sound set_sound total_sound
total_fault l s y m g hs hi hm h =
    let i = y - first_year in
    let f = lot_of l s i in
    let k : lots_most < sum_below m f + f m = rw (counted y g) h in
    all_fails (set_sound l) sets s hs
    (all_fails (total_sound l s) years i hi
    (lt-leb (sum_below makers f) lots_most (omega (arith, k, sum_more f m, sum_rises f makers (m + 1) (omega arith)))))

-- ---- a sum of all makers' lots within the most
pub total_more :
    (l : List ℕ) (s y m : ℕ) → first_year ≤ y
    → sum_below (m + 1) (lot_of l s (y - first_year)) ≡ sum_below m (lot_of l s (y - first_year)) + figure_at l (key m s y)
total_more l s y m h =
    let f = lot_of l s (y - first_year) in
    sum_more f m ∙ ap (λ (k : ℕ). sum_below m f + figure_at l (key m s k)) (counted y h)

pub total_done :
    (l : List ℕ) (s i m : ℕ)
    → m ≤ makers → makers ≤ m → sum_below m (lot_of l s i) ≤ lots_most → total_sound l s i ≡ true
unfolding total_sound
total_done l s i m u g h = le-leb (sum_below makers (lot_of l s i)) lots_most (omega (arith, sum_done (lot_of l s i) makers m u g))

-- ---- a cell's figures, read as one slice
any_in :
    (p : ℕ → Bool) (n : ℕ) (xs : List ℕ) → n ≤ length xs
    → list_any p (take n xs) ≡ any_below n (λ i. p (get_or xs i 0))
unfolding any_below
any_in p zero xs h = refl
any_in p (suc n) xs h =
    rw (← add-one n) (list_any_more p xs n 0 (omega arith))
    ∙ ap (λ (t : Bool). t || p (get_or xs n 0)) (any_in p n xs (omega arith))

any_same : (n : ℕ) (p q : ℕ → Bool) → ((i : ℕ) → p i ≡ q i) → any_below n p ≡ any_below n q
unfolding any_below
any_same zero p q h = refl
any_same (suc n) p q h = ap₂ ◌||◌ (any_same n p q h) (h n)

pub any_year :
    (l : List ℕ) (m s : ℕ) → length l ≡ places → m < makers → s < sets
    → list_any (ltb 0) (take years (drop (cell m s * years) l)) ≡ has_shortage l m s
unfolding has_shortage
any_year l m s h hm hs =
    any_in (ltb 0) years (drop (cell m s * years) l) (omega (arith, h, length-drop (cell m s * years) l))
    ∙ any_same years _ _ (λ i. ap (ltb 0) (get_or-drop (cell m s * years) l i 0 ∙ sym (at_year l m s i)))
