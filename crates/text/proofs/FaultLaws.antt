-- The first line at fault decides: right lines before it only put their rows before what follows.
use Prim.Native.Nat.{ℕ, suc, ◌+◌, ◌-◌}
use mathlib.Core.Path.{◌≡◌, refl, sym, ap, ◌∙◌}
use mathlib.Core.List.{List, [], ◌∷◌, ◌++◌, append-nil}
use native.Mathlib.Omega.{arith}
use lib.ListN.{length}
use Rattle.figuring.specs.Grid.{grid_years}
use Rattle.figuring.specs.Years.{first_year}
use Rattle.figuring.specs.Tables.{Table, no_row}
use Rattle.book.specs.declared.answers.Refusal.{Refusal}
use Rattle.book.specs.declared.answers.Refusal.TheVariants.{NotATable, UnfitTable}
use Rattle.text.specs.Lines.{lines_of}
use Rattle.text.specs.Loads.{refused}
use Rattle.text.specs.TableText.{rows_from, table_of, Right, last_row, Faults}

-- what the lines after right ones are refused by, all are
past :
    (ls : List (List ℕ)) (rows : Table) (n y : ℕ) (before : List ℕ) (rest : List (List ℕ)) (r : Refusal)
    → Right y before ls rows → rows_from n (y + length ls) (last_row before rows) rest ≡ refused r
    → rows_from (length ls + n) y before (ls ++ rest) ≡ refused r
unfolding rows_from
past [] [] n y before rest r h e =
    let w : 0 + n ≡ n = omega arith in
    let z : y ≡ y + 0 = omega arith in
    ap (λ (m : ℕ). rows_from m y before rest) w ∙ ap (λ (k : ℕ). rows_from n k before rest) z ∙ e
past [] (row ∷ rows) n y before rest r h e = absurd h
past (l ∷ ls) [] n y before rest r h e = absurd h
past (l ∷ ls) (row ∷ rows) n y before rest r h e =
    let z : suc y + length ls ≡ y + suc (length ls) = omega arith in
    let k = ap (λ (m : ℕ). rows_from n m (last_row row rows) rest) z ∙ e in
    let w : suc (length ls) + n ≡ suc (length ls + n) = omega arith in
    ap (λ (m : ℕ). rows_from m y before (l ∷ (ls ++ rest))) w
    ∙ rw (h.0, h.1.0, past ls rows n (suc y) row rest r h.1.1 k)

module _ (s : List ℕ) (ls : List (List ℕ)) (rows : Table) (h : Right first_year no_row ls rows) where
  -- the lines of s are right ones and then others, of which n years are to come
  decides :
      (n : ℕ) (rest : List (List ℕ)) (r : Refusal) → lines_of s ≡ ls ++ rest → length ls + n ≡ grid_years
      → rows_from n (first_year + length ls) (last_row no_row rows) rest ≡ refused r → table_of s ≡ refused r
  unfolding table_of
  decides n rest r e q f =
      ap (rows_from grid_years first_year no_row) e
      ∙ ap (λ (m : ℕ). rows_from m first_year no_row (ls ++ rest)) (omega (arith, q))
      ∙ past ls rows n first_year no_row rest r h f

  pub faults : Faults s ls rows
  unfolding rows_from
  faults =
      record {
        malformed = λ l after e k o. decides (suc (23 - length ls)) (l ∷ after) NotATable e (omega arith) (rw o);
        missing = λ e k.
            decides (suc (23 - length ls)) [] NotATable (e ∙ sym (append-nil ls)) (omega arith) refl;
        too_many = λ l after e k. decides 0 (l ∷ after) NotATable e (omega arith) refl;
        unfit = λ l after row e k o f. decides (suc (23 - length ls)) (l ∷ after) UnfitTable e (omega arith) (rw (o, f));
      }
