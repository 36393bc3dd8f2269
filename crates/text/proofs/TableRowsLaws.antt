-- The rows of a text, line by line; a text that is read as a table is that table's.
use Prim.Native.Nat.{ℕ, zero, suc}
use native.Mathlib.Omega.{arith}
use mathlib.Core.Bool.{Bool, true, false}
use mathlib.Core.Logic.{◌⊎◌, inl, inr}
use Rattle.std.proofs.Common.{Option, None, Some}
use mathlib.Core.Path.{◌≡◌, refl, sym, ap, subst, ◌∙◌}
use mathlib.Core.List.{List, [], ◌∷◌, ◌++◌, append_assoc}
use lib.ListN.{length}
use Rattle.figuring.specs.Grid.{grid_years}
use Rattle.figuring.specs.Years.{first_year}
use Rattle.figuring.specs.Tables.{Table, no_row, row_fits, accepted_table}
use Rattle.book.specs.declared.answers.Refusal.{Refusal}
use Rattle.book.specs.declared.answers.Refusal.TheVariants.{NotATable}
use Rattle.text.specs.Pattern.{filled}
use Rattle.text.specs.Desk.{line_feed}
use Rattle.text.specs.Lines.{lines_from, lines_of}
use Rattle.text.specs.Loads.{Read, accepted, refused}
use Rattle.text.specs.TableText.{std_form, row_in, on_fit, on_row, rows_from, table_of}
use Rattle.text.specs.TableText.{lines_for, Wide, Whole, IsTableText}
use Rattle.text.specs.FirstLine.{first_line, after_line}
use Rattle.text.proofs.FirstLineLaws.{parted, first_lines}
use Rattle.text.proofs.RowLaws.{IsRow, row_is, empty_line}
use Rattle.text.proofs.RowLaws.{Follow, follow_accepted}

-- ---- the rows of a text, by its first line
pub onward :
    (n y : ℕ) (before s : List ℕ) → rows_from (suc n) y before (lines_of s)
    ≡ on_row before (row_in y (first_line s)) (λ row. rows_from n (suc y) row (lines_of (after_line s)))
unfolding rows_from lines_from first_line
onward n y before [] = rw (empty_line y)
onward n y before (b ∷ s) = ap (rows_from (suc n) y before) (first_lines b s)

pub too_many :
    (y : ℕ) (before : List ℕ) (b : ℕ) (s : List ℕ) → rows_from zero y before (lines_of (b ∷ s)) ≡ refused NotATable
unfolding rows_from
too_many y before b s = ap (rows_from zero y before) (first_lines b s)

-- a refusal is no table
pub not_read : {X : Type 0} {r : Refusal} {t : Table} → refused r ≡ accepted t → X
not_read e = let z : ◌≡◌ {A = ℕ} 0 1 = cc in absurd (omega arith)

-- a line, and those after it, that are read as a table: the line is a row, which may follow the one before
record ReadOn (before : List ℕ) (o : Option (List ℕ)) (rest : List ℕ → Read Table) (t : Table) : Type 0 where
  row : List ℕ
  rows : Table
  is : row ∷ rows ≡ t
  line : o ≡ Some row
  fits : row_fits before row ≡ true
  after : rest row ≡ accepted rows

read_on :
    (before : List ℕ) (o : Option (List ℕ)) (rest : List ℕ → Read Table) (t : Table) → on_row before o rest ≡ accepted t
    → ReadOn before o rest t
read_on before None rest t e = not_read e
read_on before (Some row) rest t e = go (row_fits before row) refl (rest row) refl e
  where
    go :
        (b : Bool) → row_fits before row ≡ b → (q : Read Table) → rest row ≡ q → on_fit b row q ≡ accepted t
        → ReadOn before (Some row) rest t
    go false f q p e = not_read e
    go true f (refused r) p e = not_read e
    go true f (accepted rows) p e =
        let z : row ∷ rows ≡ t = cc in
        record { row = row; rows = rows; is = z; line = refl; fits = f; after = p }

-- ---- a text that is read is its table's
abbrev pub IsRows : ℕ → List ℕ → Table → Type 0
IsRows y s t = (s ≡ lines_for y t) ⊎ (s ++ (line_feed ∷ []) ≡ lines_for y t)

record Rows (n y : ℕ) (before s : List ℕ) (t : Table) : Type 0 where
  text : IsRows y s t
  count : length t ≡ n
  wide : Wide t
  follow : Follow before t

no_lines : (n y : ℕ) (before : List ℕ) (t : Table) → rows_from n y before [] ≡ accepted t → t ≡ []
unfolding rows_from
no_lines zero y before t e = let z : [] ≡ t = cc in sym z
no_lines (suc n) y before t e = not_read e

-- the line l of a row, and after it the rows of the rest
line_on :
    (n y : ℕ) (s l rest row : List ℕ) (t : Table) → IsRow y l row → rows_from n (suc y) row (lines_of rest) ≡ accepted t
    → IsRows (suc y) rest t → ((s ≡ l) × (rest ≡ [])) ⊎ (s ≡ l ++ line_feed ∷ rest) → IsRows y s (row ∷ t)
unfolding lines_for lines_from
line_on n y s l rest row t i e h (inl p) =
    let z : t ≡ [] = no_lines n (suc y) row t (rw p.1 at e) in
    inr (rw (p.0, i.text, z))
line_on n y s l rest row t i e (inl h) (inr p) = inl (rw (p, i.text, h))
line_on n y s l rest row t i e (inr h) (inr p) =
    inr (rw (p, i.text, append_assoc (filled std_form (y ∷ row)) (line_feed ∷ rest) (line_feed ∷ []), h))

only_rows :
    (n y : ℕ) (before s : List ℕ) (t : Table) → rows_from n y before (lines_of s) ≡ accepted t → Rows n y before s t
unfolding rows_from lines_from lines_for
only_rows zero y before [] t e =
    let z : [] ≡ t = cc in
    subst (Rows zero y before []) z (record { text = inl refl; count = refl; wide = tt; follow = tt })
only_rows zero y before (b ∷ s) t e = not_read (sym (too_many y before b s) ∙ e)
only_rows (suc n) y before s t e =
    let r = read_on before (row_in y (first_line s)) _ t (sym (onward n y before s) ∙ e) in
    let i = row_is y (first_line s) r.row r.line in
    let w = only_rows n (suc y) r.row (after_line s) r.rows r.after in
    subst (Rows (suc n) y before s) r.is (record {
      text = line_on n y s (first_line s) (after_line s) r.row r.rows i r.after w.text (parted s);
      count = ap suc w.count;
      wide = (i.wide, w.wide);
      follow = (r.fits, w.follow);
    })

pub only : (s : List ℕ) (t : Table) → table_of s ≡ accepted t → IsTableText s t × (Whole t × (accepted_table t ≡ true))
unfolding table_of
only s t e =
    let w = only_rows grid_years first_year no_row s t e in
    (w.text, (record { rows = w.count; wide = w.wide }, follow_accepted t w.count w.follow))
