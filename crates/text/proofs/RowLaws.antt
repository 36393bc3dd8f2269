-- The rows of a table: each is read off its own text and no other, and a table is accepted where each row may follow the
-- one before.
use Prim.Native.Nat.{ℕ, zero, suc, ◌^◌, ◌≤◌, ◌<◌}
use native.Mathlib.Decide.{dec_le}
use native.Mathlib.Omega.{arith}
use mathlib.Core.Bool.{Bool, true, false, cond, ◌&&◌, ◌||◌}
use Rattle.std.proofs.Common.{Option, None, Some}
use mathlib.Core.Path.{◌≡◌, refl, ap}
use mathlib.Core.List.{List, [], ◌∷◌}
use lib.Dec.{ltb, leb, eqb, lit≤}
use lib.ListN.{length, get_or, take}
use lib.Seq.{take_all, length-take-le}
use borrow.Author.Tests.{lt-ltb, le-ltb, ltb-false, leb-true, eqb-true, eq-eqb}
use Rattle.figuring.specs.Grid.{grid_years, grid_columns}
use Rattle.figuring.specs.Parts.{between, standard_least, standard_most}
use Rattle.figuring.specs.Tables.{Table, no_row, is_standard, entry_fits, fits_at, row_fits, row_before, row_good, accepted_table}
use Rattle.figuring.proofs.BelowLaws.{all_at, all_of}
use Rattle.figuring.proofs.BoolLaws.{both}
use Rattle.text.specs.Pattern.{fit, filled, hashes}
use Rattle.text.specs.Line.{longest_line, most_digits}
use Rattle.text.specs.Rendered.{FewDigits}
use Rattle.text.specs.TableText.{std_form, of_year, row_in}
use Rattle.text.proofs.FillLaws.{filled_length}
use Rattle.text.proofs.RenderLaws.{fit_fills, fills_fit, separate}

-- ---- a line that is a row
pub record IsRow (y : ℕ) (l row : List ℕ) : Type 0 where
  pub text : l ≡ filled std_form (y ∷ row)
  pub wide : length row ≡ grid_columns
  pub short : length l ≤ longest_line

no_row_lem : {X : Type 0} {row : List ℕ} → ◌≡◌ {A = Option (List ℕ)} None (Some row) → X
no_row_lem e = let z : ◌≡◌ {A = ℕ} 0 1 = cc in absurd (omega arith)

pub row_is : (y : ℕ) (l row : List ℕ) → row_in y l ≡ Some row → IsRow y l row
unfolding row_in hashes
row_is y l row e = long (ltb longest_line (length l)) refl e
  where
    figured :
        (o : Option (List ℕ)) → fit most_digits std_form l ≡ o → of_year y o ≡ Some row
        → (l ≡ filled std_form (y ∷ row)) × (length row ≡ grid_columns)
    figured None p q = no_row_lem q
    figured (Some []) p q = no_row_lem q
    figured (Some (n ∷ ns)) p q = dated (eqb n y) refl q
      where
        dated :
            (b : Bool) → eqb n y ≡ b → cond b (Some ns) None ≡ Some row
            → (l ≡ filled std_form (y ∷ row)) × (length row ≡ grid_columns)
        dated true a q =
            let w = fit_fills most_digits (lit≤ tt) std_form l (n ∷ ns) p in
            let r : ns ≡ row = cc in
            let d : n ≡ y = eqb-true n y a in
            (rw (← d, ← r) w.text, rw (← r) (omega (arith, w.count)))
        dated false a q = no_row_lem q

    long :
        (b : Bool) → ltb longest_line (length l) ≡ b → cond b None (of_year y (fit most_digits std_form l)) ≡ Some row
        → IsRow y l row
    long true p q = no_row_lem q
    long false p q =
        let w = figured (fit most_digits std_form l) refl q in
        record { text = w.0; wide = w.1; short = ltb-false longest_line (length l) p }

-- its text is short enough whatever its figures: 19 bytes, and 20 for each of the 7
pub row_read :
    (y : ℕ) (row : List ℕ) → y < 10 ^ most_digits → FewDigits most_digits row → length row ≡ grid_columns
    → row_in y (filled std_form (y ∷ row)) ≡ Some row
unfolding row_in hashes separate
row_read y row h s w =
    let f : fit most_digits std_form (filled std_form (y ∷ row)) ≡ Some (y ∷ row) =
    fills_fit most_digits (lit≤ tt) (lit≤ tt) std_form (y ∷ row) refl (ap suc w) (h, s) in
    rw (
      le-ltb longest_line (length (filled std_form (y ∷ row))) (omega (arith, filled_length std_form (y ∷ row))),
      f,
      eq-eqb y y refl,
    )

-- a line is refused alike, whatever follows its first 161 bytes
pub row_cut : (y k : ℕ) (l : List ℕ) → longest_line < k → row_in y (take k l) ≡ row_in y l
unfolding row_in
row_cut y k l h = go (dec_le (length l) k)
  where
    go : Dec (length l ≤ k) → row_in y (take k l) ≡ row_in y l
    go (yes m) = ap (row_in y) (take_all k l m)
    go (no m) =
        let e : length (take k l) ≡ k = length-take-le k l (omega arith) in
        rw (lt-ltb longest_line (length l) (omega arith), lt-ltb longest_line (length (take k l)) (omega arith))

pub empty_line : (y : ℕ) → row_in y [] ≡ None
unfolding row_in fit
empty_line y = refl

-- ---- a row that may follow another has figures of few digits
either : (a b : Bool) {X : Type 0} → (a || b) ≡ true → (a ≡ true → X) → (b ≡ true → X) → X
either true b e f g = f refl
either false b e f g = g e

entry_small : (before n : ℕ) → entry_fits before n ≡ true → n ≤ standard_most
unfolding entry_fits is_standard between
entry_small before n e =
    either (eqb n 0) (leb standard_least n && leb n standard_most)
    (both (eqb n 0 || (leb standard_least n && leb n standard_most)) (eqb before 0 || leb n before) e).0
    (λ a. omega (arith, eqb-true n 0 a))
    (λ a. leb-true n standard_most (both (leb standard_least n) (leb n standard_most) a).1)

small_all : (row : List ℕ) → ((j : ℕ) → j < length row → get_or row j 0 < 10 ^ most_digits) → FewDigits most_digits row
small_all [] h = tt
small_all (n ∷ row) h = (h 0 (omega arith), small_all row (λ j l. h (suc j) (omega arith)))

pub row_small :
    (before row : List ℕ) → length row ≡ grid_columns → row_fits before row ≡ true → FewDigits most_digits row
unfolding row_fits fits_at
row_small before row w e =
    small_all row
    (λ j l.
    omega (
      arith,
      entry_small (get_or before j 0) (get_or row j 0) (all_at (fits_at before row) grid_columns j (omega arith) e),
    ))

-- ---- rows that follow each other
abbrev pub Follow : List ℕ → Table → Type 0
Follow before [] = Unit {0}
Follow before (row ∷ rows) = (row_fits before row ≡ true) × Follow row rows

follow_at :
    (before : List ℕ) (t : Table) (i : ℕ) → Follow before t → i < length t
    → row_fits (get_or (before ∷ t) i []) (get_or t i []) ≡ true
follow_at before [] i f h = absurd (omega arith)
follow_at before (row ∷ t) zero f h = f.0
follow_at before (row ∷ t) (suc i) f h = follow_at row t i f.1 (omega arith)

follow_of :
    (before : List ℕ) (t : Table)
    → ((i : ℕ) → i < length t → row_fits (get_or (before ∷ t) i []) (get_or t i []) ≡ true) → Follow before t
follow_of before [] f = tt
follow_of before (row ∷ t) f = (f 0 (omega arith), follow_of row t (λ i l. f (suc i) (omega arith)))

before_is : (t : Table) (i : ℕ) → row_before t i ≡ get_or (no_row ∷ t) i []
unfolding row_before
before_is t zero = refl
before_is t (suc i) = refl

module _ (t : Table) (long : length t ≡ grid_years) where
  pub follow_accepted : Follow no_row t → accepted_table t ≡ true
  unfolding accepted_table row_good
  follow_accepted f =
      all_of (row_good t) grid_years (λ i l. rw (before_is t i) (follow_at no_row t i f (omega arith)))

  pub accepted_follow : accepted_table t ≡ true → Follow no_row t
  unfolding accepted_table row_good
  accepted_follow e =
      follow_of no_row t (λ i l. rw (← before_is t i) (all_at (row_good t) grid_years i (omega arith) e))
