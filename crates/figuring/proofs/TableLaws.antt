-- Card 7: the standards that any table has, what an accepted one says of its entries, and that the built-in one is accepted.
use Prim.Native.Nat.{ℕ, zero, suc, ◌+◌, ◌<◌, ◌≤◌}
use mathlib.Core.Bool.{Bool, true, false, cond, ◌&&◌, ◌||◌, and-false, or-true, true≢false}
use mathlib.Core.Logic.{⊎_elim, ◌⊎◌, inl, inr}
use mathlib.Core.List.{[]}
use mathlib.Core.Path.{◌≡◌, refl, sym, ◌∙◌, ap}
use native.Mathlib.Omega.{arith}
use native.Mathlib.Numerals.{add-one}
use native.Mathlib.Decide.{dec_lt}
use borrow.Author.Tests.{le-leb, lt-leb, lt-ltb, le-ltb, leb-true, eqb-true, eq-eqb, ne_eqb}
use lib.Dec.{leb, ltb, eqb}
use lib.ListN.{get_or, get_or-replicate, length}
use Rattle.std.specs.List.{IsAllAdjacentAnswer}
use Rattle.figuring.specs.Years.{first_year, last_year}
use Rattle.figuring.specs.Below.{all_below}
use Rattle.figuring.specs.Parts.{between, standard_least, standard_most}
use Rattle.figuring.specs.Standards.{standard_for, vocational, tractor, spark, printed_for, is_absent}
use Rattle.figuring.specs.Grid.{grid_years, grid_columns, grid_row, grid_from, printed_grid, row_of, column_of}
use Rattle.figuring.specs.Tables.{Table, built_in, entry, no_row, standard_of, ordinary_in}
use Rattle.figuring.specs.Tables.{is_standard, entry_fits, fits_at, row_fits, row_before, row_good, accepted_table}
use Rattle.figuring.specs.Tables.{Allowed, Falls, zero_none, CardTables}
use Rattle.std.proofs.Common.{Some, None}
use Rattle.figuring.proofs.BoolLaws.{both, and_intro}
use Rattle.figuring.proofs.BelowLaws.{all_at, all_of, all_fails}
use Rattle.figuring.proofs.PartLaws.{part_bound}
use Rattle.figuring.proofs.StandardLaws.{in_range, in_either, is_standard_lem, range_is, none_before}
use Rattle.figuring.proofs.GridLaws.{no_column, standard_read}

-- ---- where a table has a standard
read_in_lem :
    (t : Table) (s u y : ℕ) {i j : ℕ} → first_year ≤ y → j < grid_columns → i ≡ row_of y → j ≡ column_of s u
    → standard_of (entry t i j) ≡ ordinary_in t s u y
unfolding ordinary_in
read_in_lem t s u y {i} {j} l h p q = rw (le-leb first_year y l, ← q, ← p, lt-ltb j grid_columns h)

none_early : (t : Table) (s u y : ℕ) → y < first_year → ordinary_in t s u y ≡ None
unfolding ordinary_in
none_early t s u y h = rw (lt-leb first_year y h)

none_in : (t : Table) (s u y : ℕ) {j : ℕ} → grid_columns ≤ j → j ≡ column_of s u → ordinary_in t s u y ≡ None
unfolding ordinary_in
none_in t s u y {j} h q = rw (← q, le-ltb j grid_columns h, and-false (leb first_year y))

-- a use above 1 has no column, nor a set above 3, nor a tractor of sets 0 and 1
module _ (t : Table) where
  no_use : (s u y : ℕ) → 1 < u → ordinary_in t s u y ≡ None
  unfolding column_of
  no_use s u y h =
      none_in t s u y {j = grid_columns} (omega arith) (rw (ne_eqb u 0 (λ z. omega arith), ne_eqb u 1 (λ z. omega arith)))

  no_set : (s u y : ℕ) → 3 < s → ordinary_in t s u y ≡ None
  unfolding column_of
  no_set s u y h =
      none_in t s u y {j = grid_columns} (omega arith)
      (rw (ne_eqb s 0 (λ z. omega arith), ne_eqb s 1 (λ z. omega arith), ne_eqb s 2 (λ z. omega arith), ne_eqb s 3 (λ z. omega arith))
      (sym (same (eqb u 0) (same (eqb u 1) refl))))
    where
      same : (b : Bool) {n : ℕ} → n ≡ grid_columns → cond b grid_columns n ≡ grid_columns
      same true e = refl
      same false e = e

  no_tractor : (s y : ℕ) → s < 2 → ordinary_in t s 1 y ≡ None
  unfolding column_of
  no_tractor s y h =
      none_in t s 1 y {j = grid_columns} (omega arith) (rw (ne_eqb s 2 (λ z. omega arith), ne_eqb s 3 (λ z. omega arith)))

  pub use_known : (s u y : ℕ) → is_absent (ordinary_in t s u y) ≡ false → u < 2
  use_known s u y h = go (dec_lt u 2)
    where
      go : Dec (u < 2) → u < 2
      go (yes l) = l
      go (no n) = absurd (true≢false (sym (ap is_absent (no_use s u y (omega arith))) ∙ h))

  -- every later year is read where 2037 is
  later : (s u y : ℕ) → last_year ≤ y → ordinary_in t s u y ≡ ordinary_in t s u last_year
  unfolding ordinary_in
  later s u y h =
      let r : row_of y ≡ row_of last_year = omega arith in
      rw (le-leb first_year y (omega arith))
      (ap (λ (i : ℕ). cond (ltb (column_of s u) grid_columns) (standard_of (entry t i (column_of s u))) None) r)

-- ---- every standard of a table, accepted or not, is within the limits
entry_in_range : (n : ℕ) → in_range (standard_of n) ≡ true
unfolding standard_of
entry_in_range n = go (is_standard n) refl
  where
    go : (b : Bool) → is_standard n ≡ b → in_range (cond b (Some n) None) ≡ true
    go true e = e
    go false e = refl

pub ordinary_in_range : (t : Table) (s u y : ℕ) → in_range (ordinary_in t s u y) ≡ true
unfolding ordinary_in
ordinary_in_range t s u y =
    in_either (leb first_year y && ltb (column_of s u) grid_columns) _ _
    (entry_in_range (entry t (row_of y) (column_of s u))) refl

-- ---- rows, as they are held against the one before
good_first : (t : Table) → row_good t 0 ≡ row_fits no_row (get_or t 0 [])
unfolding row_good row_before
good_first t = refl

good_next : (t : Table) (i : ℕ) → row_good t (i + 1) ≡ row_fits (get_or t i []) (get_or t (i + 1) [])
unfolding row_good row_before
good_next t i = rw add-one

-- by the first row, and by each row and the next, as `is_sorted_by` says it
pub first_unfit : (t : Table) → row_fits no_row (get_or t 0 []) ≡ false → false ≡ accepted_table t
unfolding accepted_table
first_unfit t e = sym (all_fails (row_good t) grid_years 0 (omega arith) (good_first t ∙ e))

pub fit_in_turn :
    (t : Table) {r : Bool} → length t ≡ grid_years → row_fits no_row (get_or t 0 []) ≡ true
    → IsAllAdjacentAnswer (λ x y b. b ≡ row_fits x y) t r → r ≡ accepted_table t
unfolding accepted_table
fit_in_turn t {r = true} z f h = sym (all_of (row_good t) grid_years each)
  where
    each : (i : ℕ) → i < grid_years → row_good t i ≡ true
    each zero l = good_first t ∙ f
    each (suc i) l = rw add-one at (good_next t i ∙ sym (h i [] (omega arith)))
fit_in_turn t {r = false} z f h =
    sym (all_fails (row_good t) grid_years (h.0 + 1) (omega arith) (good_next t h.0 ∙ sym (h.2 [])))

-- ---- the test of an entry in the card's words, either way
one_of : {A B : Type 0} (a b : Bool) → (a ≡ true → A) → (b ≡ true → B) → (a || b) ≡ true → A ⊎ B
one_of true b f g e = inl (f refl)
one_of false b f g e = inr (g e)

of_one : {A B : Type 0} (a b : Bool) → (A → a ≡ true) → (B → b ≡ true) → A ⊎ B → (a || b) ≡ true
of_one a b f g = ⊎_elim (λ x. rw (f x)) (λ x. rw (g x) (or-true a))

abbrev Within : ℕ → Type 0
Within n = (standard_least ≤ n) × (n ≤ standard_most)

abbrev Fits : ℕ → ℕ → Type 0
Fits before n = ((n ≡ 0) ⊎ Within n) × ((before ≡ 0) ⊎ (n ≤ before))

standard_is : (n : ℕ) → Within n → is_standard n ≡ true
unfolding is_standard between
standard_is n h = and_intro (le-leb standard_least n h.0) (le-leb n standard_most h.1)

fits_is : (before n : ℕ) → entry_fits before n ≡ true → Fits before n
unfolding entry_fits
fits_is before n e =
    let f = both (eqb n 0 || is_standard n) (eqb before 0 || leb n before) e in (
      one_of (eqb n 0) (is_standard n) (eqb-true n 0) (is_standard_lem n) f.0,
      one_of (eqb before 0) (leb n before) (eqb-true before 0) (leb-true n before) f.1,
    )

is_fits : (before n : ℕ) → Fits before n → entry_fits before n ≡ true
unfolding entry_fits
is_fits before n h =
    and_intro (of_one (eqb n 0) (is_standard n) (eq-eqb n 0) (standard_is n) h.0)
    (of_one (eqb before 0) (leb n before) (eq-eqb before 0) (le-leb n before) h.1)

-- ---- accepted is what keeps the limits and does not rise
accepted_at :
    (t : Table) → accepted_table t ≡ true → (i j : ℕ) → i < grid_years → j < grid_columns
    → Fits (get_or (row_before t i) j 0) (entry t i j)
unfolding accepted_table row_good row_fits fits_at
accepted_at t a i j hi hj =
    fits_is (get_or (row_before t i) j 0) (entry t i j)
    (all_at (fits_at (row_before t i) (get_or t i [])) grid_columns j hj (all_at (row_good t) grid_years i hi a))

limits : (t : Table) → accepted_table t ≡ true → (i j : ℕ) → i < grid_years → j < grid_columns → Allowed t i j
limits t a i j hi hj = (accepted_at t a i j hi hj).0

falls : (t : Table) → accepted_table t ≡ true → (i j : ℕ) → suc i < grid_years → j < grid_columns → Falls t i j
unfolding row_before
falls t a i j hi hj = (accepted_at t a (suc i) j hi hj).1

module _ (t : Table) (p : (i j : ℕ) → i < grid_years → j < grid_columns → Allowed t i j)
    (q : (i j : ℕ) → suc i < grid_years → j < grid_columns → Falls t i j) where
  after : (i j : ℕ) → i < grid_years → j < grid_columns
      → (get_or (row_before t i) j 0 ≡ 0) ⊎ (entry t i j ≤ get_or (row_before t i) j 0)
  unfolding row_before
  after zero j hi hj = inl (get_or-replicate grid_columns j 0 0 hj)
  after (suc i) j hi hj = q i j hi hj

  only : accepted_table t ≡ true
  unfolding accepted_table row_good row_fits fits_at
  only =
      all_of (row_good t) grid_years (λ i hi.
      all_of (fits_at (row_before t i) (get_or t i [])) grid_columns (λ j hj.
      is_fits (get_or (row_before t i) j 0) (entry t i j) (p i j hi hj, after i j hi hj)))

-- ---- an accepted table's standard is its entry
zero_none_lem : (n : ℕ) → (n ≡ 0) ⊎ Within n → standard_of n ≡ zero_none n
unfolding standard_of is_standard between
zero_none_lem n = ⊎_elim (λ z. rw z) (λ h. rw (standard_is n h, ne_eqb n 0 (λ z. omega arith)))

module _ (t : Table) (a : accepted_table t ≡ true) (i : ℕ) (hi : i < grid_years) where
  read : (s u j : ℕ) → j < grid_columns → j ≡ column_of s u → ordinary_in t s u (first_year + i) ≡ zero_none (entry t i j)
  read s u j hj q =
      sym (read_in_lem t s u (first_year + i) (omega arith) hj (omega arith) q) ∙ zero_none_lem (entry t i j) (limits t a i j hi hj)

  columns :
      (ordinary_in t 0 0 (first_year + i) ≡ zero_none (entry t i 0))
      × (ordinary_in t 1 0 (first_year + i) ≡ zero_none (entry t i 1))
      × (ordinary_in t 2 0 (first_year + i) ≡ zero_none (entry t i 2))
      × (ordinary_in t 3 0 (first_year + i) ≡ zero_none (entry t i 3))
      × (ordinary_in t 2 1 (first_year + i) ≡ zero_none (entry t i 4))
      × (ordinary_in t 3 1 (first_year + i) ≡ zero_none (entry t i 5))
  unfolding column_of
  columns = (
    read 0 0 0 (omega arith) refl,
    read 1 0 1 (omega arith) refl,
    read 2 0 2 (omega arith) refl,
    read 3 0 3 (omega arith) refl,
    read 2 1 4 (omega arith) refl,
    read 3 1 5 (omega arith) refl,
  )

-- ---- the built-in table: all its rows, computed
pub built_in_accepted : accepted_table built_in ≡ true
unfolding accepted_table all_below row_good row_fits fits_at entry_fits is_standard between row_before
    printed_grid grid_from grid_row standard_for vocational tractor spark printed_for
built_in_accepted = refl

-- and its standards are the printed ones
pub as_printed : (s u y : ℕ) → ordinary_in built_in s u y ≡ standard_for s u y
as_printed s u y = go (dec_lt y first_year) (dec_lt (column_of s u) grid_columns)
  where
    go : Dec (y < first_year) → Dec (column_of s u < grid_columns) → ordinary_in built_in s u y ≡ standard_for s u y
    go (yes e) d = none_early built_in s u y e ∙ sym (none_before s u y e)
    go (no e) (yes d) = sym (read_in_lem built_in s u y (omega arith) d refl refl) ∙ standard_read s u y (omega arith)
    go (no e) (no d) = none_in built_in s u y (omega arith) refl ∙ sym (no_column s u y (omega arith))

-- ---- the card's words
pub card_tables : CardTables
card_tables =
    record {
      limits = limits;
      falls = falls;
      only = only;
      columns = columns;
      no_tractor = no_tractor;
      no_set = no_set;
      no_use = no_use;
      no_year = none_early;
      later = later;
      built_in_accepted = built_in_accepted;
      as_printed = as_printed;
      bound = λ t s u y fcl cf volume life e w.
          let r = range_is (ordinary_in t s u y) (ordinary_in_range t s u y) e in
          part_bound _ fcl cf volume life r.0 r.1 w;
    }
