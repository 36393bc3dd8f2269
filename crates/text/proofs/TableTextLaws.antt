-- A table's text is read as it, and nothing else is but by 19 or 20; and how many bytes of a text decide.
use Prim.Native.Nat.{ℕ, zero, suc, ◌+◌, ◌-◌, ◌*◌, ◌^◌, ◌≤◌}
use native.Mathlib.Omega.{arith}
use mathlib.Core.Bool.{Bool, true, false}
use mathlib.Core.Logic.{◌⊎◌, inl, inr}
use Rattle.std.proofs.Common.{Option, None, Some}
use mathlib.Core.Path.{◌≡◌, refl, sym, ap, ap₂, ◌∙◌}
use mathlib.Core.List.{List, [], ◌∷◌, ◌++◌, append-nil}
use lib.Dec.{lit≤}
use lib.ListN.{length, take, length-append}
use lib.Seq.{take-nil}
use Rattle.figuring.specs.Grid.{grid_years}
use Rattle.figuring.specs.Years.{first_year}
use Rattle.figuring.specs.Tables.{Table, no_row, row_fits, accepted_table}
use Rattle.book.specs.declared.answers.Refusal.{Refusal}
use Rattle.book.specs.declared.answers.Refusal.TheVariants.{NotATable, UnfitTable}
use Rattle.text.specs.Pattern.{filled}
use Rattle.text.specs.Line.{most_digits}
use Rattle.text.specs.Desk.{line_feed}
use Rattle.text.specs.Lines.{lines_from, lines_of}
use Rattle.text.specs.Loads.{Read, accepted, refused}
use Rattle.text.specs.TableText.{std_form, row_in, on_fit, on_row, rows_from, table_of}
use Rattle.text.specs.TableText.{lines_for, Wide, Whole, IsTableText, table_room, TableTexts}
use Rattle.text.specs.FirstLine.{first_line, after_line}
use Rattle.text.proofs.SessionLaws.{lines}
use Rattle.text.proofs.FirstLineLaws.{no_feed, one_filled, first_cut, after_cut}
use Rattle.text.proofs.RowLaws.{row_is, row_read, row_cut, row_small}
use Rattle.text.proofs.RowLaws.{Follow, accepted_follow}
use Rattle.text.proofs.TableRowsLaws.{onward, too_many, not_read, IsRows, only}
use Rattle.text.proofs.FaultLaws.{faults}

-- ---- a table's text is read as it
-- a list that ends in x, in two parts of which the second is not empty
last_in :
    (x b : ℕ) (a r s : List ℕ) → s ++ (x ∷ []) ≡ a ++ b ∷ r → (q : List ℕ) × (s ≡ a ++ q) × (q ++ (x ∷ []) ≡ b ∷ r)
last_in x b [] r s e = (s, refl, e)
last_in x b (c ∷ a) r [] e =
    let z : [] ≡ a ++ b ∷ r = cc in
    absurd (omega (arith, simp length-append at (ap length z)))
last_in x b (c ∷ a) r (d ∷ s) e =
    let h : d ≡ c = cc in
    let k : s ++ (x ∷ []) ≡ a ++ b ∷ r = cc in
    let w = last_in x b a r s k in
    (w.0, ap₂ ◌∷◌ h w.1, w.2)

line_of : (ns s : List ℕ) → lines_of (filled std_form ns ++ line_feed ∷ s) ≡ filled std_form ns ∷ lines_of s
unfolding no_feed
line_of ns s = lines.ended (filled std_form ns) s (one_filled std_form ns refl)

last_line : (ns : List ℕ) → lines_of (filled std_form ns) ≡ filled std_form ns ∷ []
unfolding no_feed filled
last_line ns = lines.last (filled std_form ns) (one_filled std_form ns refl)

first_row :
    (y : ℕ) (s row : List ℕ) (t : Table) → IsRows y s (row ∷ t)
    → (r : List ℕ) × (lines_of s ≡ filled std_form (y ∷ row) ∷ lines_of r) × IsRows (suc y) r t
unfolding lines_for lines_from
first_row y s row t (inl e) =
    (lines_for (suc y) t, ap lines_of e ∙ line_of (y ∷ row) (lines_for (suc y) t), inl refl)
first_row y s row t (inr e) =
    let w = last_in line_feed line_feed (filled std_form (y ∷ row)) (lines_for (suc y) t) s e in
    go w.0 w.1 w.2
  where
    go :
        (q : List ℕ) → s ≡ filled std_form (y ∷ row) ++ q → q ++ (line_feed ∷ []) ≡ line_feed ∷ lines_for (suc y) t
        → (r : List ℕ) × (lines_of s ≡ filled std_form (y ∷ row) ∷ lines_of r) × IsRows (suc y) r t
    go [] h k =
        let z : [] ≡ lines_for (suc y) t = cc in
        ([], ap lines_of (h ∙ append-nil (filled std_form (y ∷ row))) ∙ last_line (y ∷ row), inl z)
    go (b ∷ q) h k =
        let a : b ≡ line_feed = cc in
        let z : q ++ (line_feed ∷ []) ≡ lines_for (suc y) t = cc in
        (q, ap lines_of (rw a at h) ∙ line_of (y ∷ row) q, inr z)

each_rows :
    (t : Table) (y : ℕ) (before s : List ℕ) → y + length t ≤ 10 ^ most_digits → Follow before t → Wide t → IsRows y s t
    → rows_from (length t) y before (lines_of s) ≡ accepted t
unfolding rows_from lines_from lines_for
each_rows [] y before s h f w (inl e) = rw e
each_rows [] y before s h f w (inr e) = absurd (omega (arith, simp length-append at (ap length e)))
each_rows (row ∷ t) y before s h f w i =
    let r = first_row y s row t i in
    let k : row_in y (filled std_form (y ∷ row)) ≡ Some row =
    row_read y row (omega arith) (row_small before row w.0 f.0) w.0 in
    ap (rows_from (suc (length t)) y before) r.1
    ∙ rw (k, f.0, each_rows t (suc y) row r.0 (omega arith) f.1 w.1 r.2)

each : (s : List ℕ) (t : Table) → IsTableText s t → Whole t → accepted_table t ≡ true → table_of s ≡ accepted t
unfolding table_of
each s t i w e =
    rw (← w.rows)
    (each_rows t first_year no_row s (rw w.rows (lit≤ tt)) (accepted_follow t w.rows e) w.wide i)

-- ---- which refusals there are
abbrev OfTables : Refusal → Type 0
OfTables r = (r ≡ NotATable) ⊎ (r ≡ UnfitTable)

refused_on :
    (before : List ℕ) (o : Option (List ℕ)) (rest : List ℕ → Read Table) (r : Refusal)
    → ((row : List ℕ) → rest row ≡ refused r → OfTables r) → on_row before o rest ≡ refused r → OfTables r
refused_on before None rest r ih e = let z : NotATable ≡ r = cc in inl (sym z)
refused_on before (Some row) rest r ih e = go (row_fits before row) (rest row) refl e
  where
    go : (b : Bool) (q : Read Table) → rest row ≡ q → on_fit b row q ≡ refused r → OfTables r
    go false q p e = let z : UnfitTable ≡ r = cc in inr (sym z)
    go true (accepted t) p e = not_read (sym e)
    go true (refused a) p e = ih row (p ∙ e)

refusals :
    (n y : ℕ) (before : List ℕ) (ls : List (List ℕ)) (r : Refusal) → rows_from n y before ls ≡ refused r → OfTables r
unfolding rows_from
refusals zero y before [] r e = not_read (sym e)
refusals zero y before (l ∷ ls) r e = let z : NotATable ≡ r = cc in inl (sym z)
refusals (suc n) y before [] r e = let z : NotATable ≡ r = cc in inl (sym z)
refusals (suc n) y before (l ∷ ls) r e =
    refused_on before (row_in y l) _ r (λ row. refusals n (suc y) row ls r) e

-- ---- how many bytes decide: 161 for each year that is left, and one more
decided :
    (n y : ℕ) (before : List ℕ) (k : ℕ) (s : List ℕ) → 161 * n + 1 ≤ k
    → rows_from n y before (lines_of (take k s)) ≡ rows_from n y before (lines_of s)
decided zero y before k [] h = rw (take-nil k)
decided zero y before zero (b ∷ s) h = absurd (omega arith)
decided zero y before (suc k) (b ∷ s) h = too_many y before b (take k s) ∙ sym (too_many y before b s)
decided (suc n) y before k s h =
    onward n y before (take k s)
    ∙ ap (λ (o : Option (List ℕ)). on_row before o (λ row. rows_from n (suc y) row (lines_of (after_line (take k s)))))
    (ap (row_in y) (first_cut k s) ∙ row_cut y k (first_line s) (omega arith))
    ∙ read (row_in y (first_line s)) refl (λ row. decided n (suc y) row)
    ∙ sym (onward n y before s)
  where
    read :
        (o : Option (List ℕ)) → row_in y (first_line s) ≡ o
        → ((row : List ℕ) (k : ℕ) (s : List ℕ) → 161 * n + 1 ≤ k
        → rows_from n (suc y) row (lines_of (take k s)) ≡ rows_from n (suc y) row (lines_of s))
        → on_row before o (λ row. rows_from n (suc y) row (lines_of (after_line (take k s))))
        ≡ on_row before o (λ row. rows_from n (suc y) row (lines_of (after_line s)))
    read None e ih = refl
    read (Some row) e ih =
        let i = (row_is y (first_line s) row e).short in
        ap (on_fit (row_fits before row) row)
        (ap (λ (l : List ℕ). rows_from n (suc y) row (lines_of l)) (after_cut k s (omega arith))
        ∙ ih row (k - suc (length (first_line s))) (after_line s) (omega arith))

pub table_texts : TableTexts
unfolding table_of
table_texts =
    record {
      only = only;
      each = each;
      faults = faults;
      refusals = λ s r e. refusals grid_years first_year no_row (lines_of s) r e;
      first_bytes = λ s. decided grid_years first_year no_row table_room s (lit≤ tt);
    }
