-- What the reader of a table needs: the row of a line, and the loop over the years.
use Prim.Native.Nat.{ℕ, suc, ◌+◌, ◌-◌, ◌≤◌, ◌<◌}
use native.Mathlib.Numerals.{add-one}
use native.Mathlib.Omega.{arith}
use mathlib.Core.Bool.{true, false, cond}
use Rattle.std.proofs.Common.{Option, None, Some}
use mathlib.Core.Path.{◌≡◌, refl, sym, ap, subst, ◌∙◌}
use mathlib.Core.List.{List, [], ◌∷◌, ◌++◌, append_assoc, append-nil}
use lib.Dec.{eqb, lit≤}
use lib.ListN.{length, get_or, take, set, replicate, length-set}
use lib.Seq.{take_all, take-suc-set}
use borrow.Author.Tests.{lt-ltb, le-ltb, eq-eqb, ne_eqb}
use Rattle.figuring.specs.Grid.{grid_years}
use Rattle.figuring.specs.Years.{first_year}
use Rattle.figuring.specs.Tables.{Table, no_row, row_fits}
use Rattle.book.specs.declared.answers.Refusal.TheVariants.{NotATable, UnfitTable}
use Rattle.text.specs.Pattern.{fit, hashes}
use Rattle.text.specs.Line.{longest_line, most_digits}
use Rattle.text.specs.Lines.{lines_from, lines_of}
use Rattle.text.specs.Loads.{Read, accepted, refused}
use Rattle.text.specs.TableText.{std_form, of_year, row_in, with_row, on_row, rows_from, table_of}
use Rattle.text.specs.FirstLine.{first_line, after_line}
use Rattle.text.proofs.FormLaws.{listed}
use Rattle.text.proofs.RenderLaws.{fit_fills}
use Rattle.std.proofs.lemmas.List.{nil_from_length}
use Rattle.text.proofs.TableRowsLaws.{onward, too_many}

-- ---- the row of a line
-- the entries after a year
abbrev entries_in : List ℕ → List ℕ
entries_in n = get_or n 1 0 ∷ get_or n 2 0 ∷ get_or n 3 0 ∷ get_or n 4 0 ∷ get_or n 5 0 ∷ get_or n 6 0 ∷ []

module _ (y : ℕ) (l : List ℕ) where
  pub long_line : longest_line < length l → None ≡ row_in y l
  unfolding row_in
  long_line h = rw (lt-ltb longest_line (length l) h)

  module _ (short : length l ≤ longest_line) where
    pub no_form : fit most_digits std_form l ≡ None → None ≡ row_in y l
    unfolding row_in
    no_form e = rw (le-ltb longest_line (length l) short, e)

    module _ {ns : List ℕ} (fits : fit most_digits std_form l ≡ Some ns) where
      -- seven figures, of which the first is the year
      dated : row_in y l ≡ cond (eqb (get_or ns 0 0) y) (Some (entries_in ns)) None
      unfolding row_in hashes
      dated =
          rw (le-ltb longest_line (length l) short, fits)
          (subst
          (λ (x : List ℕ). of_year y (Some x) ≡ cond (eqb (get_or x 0 0) y) (Some (entries_in x)) None)
          (listed 7 ns (fit_fills most_digits (lit≤ tt) std_form l ns fits).count) refl)

      pub other_year : (get_or ns 0 0 ≡ y → ⊥) → None ≡ row_in y l
      other_year e = sym (dated ∙ rw (ne_eqb (get_or ns 0 0) y e))

      pub a_row : get_or ns 0 0 ≡ y → Some (entries_in ns) ≡ row_in y l
      a_row e = sym (dated ∙ rw (eq-eqb (get_or ns 0 0) y e))

-- ---- the loop
-- rows before those that are read
abbrev with_rows : Table → Read Table → Read Table
with_rows rows (accepted t) = accepted (rows ++ t)
with_rows rows (refused r) = refused r

with_none : (q : Read Table) → q ≡ with_rows [] q
with_none (accepted t) = refl
with_none (refused r) = refl

with_one : (rows : Table) (row : List ℕ) (q : Read Table) → with_rows rows (with_row row q) ≡ with_rows (rows ++ (row ∷ [])) q
with_one rows row (accepted t) = ap {B = Read Table} accepted (sym (append_assoc rows (row ∷ []) t))
with_one rows row (refused r) = refl

-- the rows of i years stand in the grid, the last of them is `before`, and `rest` is left of the text
pub record Loaded (text : List ℕ) (grid : Table) (before rest : List ℕ) (i : ℕ) : Type 0 where
  pub in_grid : i ≤ grid_years
  pub long : length grid ≡ grid_years
  pub so_far :
      table_of text ≡ with_rows (take i grid) (rows_from (grid_years - i) (first_year + i) before (lines_of rest))

pub start : (text : List ℕ) → Loaded text (replicate grid_years no_row) no_row text 0
unfolding table_of
start text = record { in_grid = omega arith; long = refl; so_far = with_none _ }

module _ {text : List ℕ} {grid : Table} {before rest : List ℕ} {i : ℕ} (h : Loaded text grid before rest i) where
  module _ (more : i < grid_years) {line after : List ℕ} (first : line ≡ first_line rest) (left : after ≡ after_line rest) where
    step :
        (o : Option (List ℕ)) → row_in (first_year + i) line ≡ o
        → table_of text
        ≡ with_rows (take i grid)
        (on_row before o (λ row. rows_from (grid_years - (i + 1)) (first_year + (i + 1)) row (lines_of after)))
    step o e =
        let q : grid_years - i ≡ suc (grid_years - (i + 1)) = omega arith in
        let y : first_year + (i + 1) ≡ suc (first_year + i) = omega arith in
        h.so_far
        ∙ ap (λ (n : ℕ). with_rows (take i grid) (rows_from n (first_year + i) before (lines_of rest))) q
        ∙ ap (with_rows (take i grid)) (onward (grid_years - (i + 1)) (first_year + i) before rest)
        ∙ rw (y, ← left, ← first, e)

    module _ {o : Option (List ℕ)} (read : o ≡ row_in (first_year + i) line) where
      pub no_line : o ≡ None → table_of text ≡ refused NotATable
      no_line e = step None (sym read ∙ e)

      module _ {row : List ℕ} (is : o ≡ Some row) where
        pub unfit : row_fits before row ≡ false → table_of text ≡ refused UnfitTable
        unfit e = step (Some row) (sym read ∙ is) ∙ rw e

        pub one_more : row_fits before row ≡ true → Loaded text (set grid i row) row after (i + 1)
        one_more e =
            let k : take (i + 1) (set grid i row) ≡ take i grid ++ (row ∷ []) =
            rw (add-one i) (take-suc-set grid i row (omega (arith, h.long))) in
            record {
              in_grid = omega arith;
              long = length-set grid i row ∙ h.long;
              so_far =
                  step (Some row) (sym read ∙ is)
                  ∙ rw (e, k)
                  (with_one (take i grid) row
                  (rows_from (grid_years - (i + 1)) (first_year + (i + 1)) row (lines_of after)));
            }

  module _ (done : grid_years ≤ i) where
    left : table_of text ≡ with_rows grid (rows_from 0 (first_year + i) before (lines_of rest))
    left =
        let z : grid_years - i ≡ 0 = omega arith in
        h.so_far ∙ rw (z, take_all i grid (omega (arith, h.long)))

    pub line_more : (length rest ≡ 0 → ⊥) → table_of text ≡ refused NotATable
    line_more l = left ∙ go rest l
      where
        go : (s : List ℕ) → (length s ≡ 0 → ⊥) → with_rows grid (rows_from 0 (first_year + i) before (lines_of s)) ≡ refused NotATable
        go [] l = absurd (l refl)
        go (b ∷ s) l = rw (too_many (first_year + i) before b s)

    pub whole_table : length rest ≡ 0 → table_of text ≡ accepted grid
    unfolding rows_from lines_from
    whole_table l = left ∙ rw (nil_from_length rest l, append-nil grid)

-- what each reader needs: of a row, of the table
pub ruleset reads_row = (long_line, no_form, other_year, a_row)

pub ruleset reads_table = (start, no_line, unfit, line_more, whole_table)
