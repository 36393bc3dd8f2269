-- Card 6: what an accepted amendment replaces, which amendments are accepted, and that in the book the last one counts.
use Prim.Native.Nat.{ℕ, ◌+◌, ◌*◌, ◌<◌}
use mathlib.Core.Bool.{Bool, true, false, true≢false}
use mathlib.Core.List.{List, [], ◌∷◌, ◌++◌}
use mathlib.Core.Path.{◌≡◌, refl, sym, ◌∙◌, ap, subst}
use native.Mathlib.Omega.{arith}
use lib.ListN.{get_or, set as store, length}
use lib.Seq.{get_or-set_same, set-get_or, set-set}
use lib.IntN.{ℤ}
use Rattle.figuring.specs.Tables.{Table, accepted_table}
use Rattle.book.specs.Filings.{with_purpose}
use Rattle.book.specs.Limits.{amends, large_entry, in_large_entry}
use Rattle.book.specs.Sizes.{families}
use Rattle.book.specs.Ledger.{cell, with_mark}
use Rattle.book.specs.Soundness.{sound}
use Rattle.book.specs.Refusals.{Verdict, Row, first_refusal, refusal_in}
use Rattle.book.specs.Postings.{ordinary_for, part_for, part_beside, filing_cell, stored}
use Rattle.book.specs.Rules.{posted, done, outcome, rows_for, head_rows, own_rows, fit_row, figure_rows, file_rows, filed_row}
use Rattle.book.specs.Demand3.{is_accepted}
use Rattle.book.specs.Companions.{Sized}
use Rattle.book.specs.FilingOrder.{Family, family_of, is_filed}
use Rattle.book.specs.Amendments.{replaced, Amended, in_place_of9, StandsInPlaceOf9, LastCounts}
use Rattle.book.specs.declared.ledger.Book.{Book}
use Rattle.book.specs.declared.kinds.Call.{Call}
use Rattle.book.specs.declared.kinds.Filing.{Filing}
use Rattle.book.specs.declared.kinds.Purpose.{Purpose}
use Rattle.book.specs.declared.answers.Posted.{Posted}
use Rattle.std.specs.Prelude.{Ok, Err}
use Rattle.book.proofs.TableLaws.{alike, numbered, told_after, same_after, by_verdict}
use Rattle.book.proofs.FileFacts.{Fileable, fileable}
use Rattle.book.proofs.FilingLaws.{mark_here, still_sound}
use Rattle.book.proofs.MarkLaws.{marked_same, mark_kept}

-- ---- what an accepted amendment replaces
pub replaces : (t : Table) (b : Book) (f : Filing) → Amended t b f
unfolding own_rows done stored part_beside is_accepted
replaces t b f =
    by_verdict t b (Call.File (with_purpose Purpose.Amend f)) (λ p. is_accepted p.answer ≡ true → p ≡ replaced t b f)
    (λ r a. absurd (true≢false (sym a)))
    (λ s e a.
    let mark = get_or b.marks (filing_cell f) 0 in
    let k : with_mark mark f.family ≡ mark = mark_kept mark f.family (fileable t b (with_purpose Purpose.Amend f) s e).mark in
    let m : store b.marks (filing_cell f) mark ≡ b.marks = set-get_or b.marks (filing_cell f) 0 in
    rw (k, m))

-- ---- which are accepted
-- 18 or none in the place of none or 9
in_place :
    (is_filed : Bool)
    → numbered (first_refusal (filed_row true is_filed ∷ [])) ≡ in_place_of9 (numbered (first_refusal (filed_row false is_filed ∷ [])))
in_place true = refl
in_place false = refl

-- the rows before the last, which read neither the marks nor, by the large limits, whether the call amends
abbrev rows_before : Table → Book → Filing → List Row
rows_before t b f =
    head_rows (sound b) (fit_row (accepted_table t) ∷ [])
    ++ figure_rows (ordinary_for t f) b.open_year (with_purpose Purpose.Amend f)

pub number_of_lem :
    (t : Table) (b : Book) (f : Filing)
    → refusal_in (posted t b (Call.File f)).answer ≡ numbered (first_refusal (rows_for t b (Call.File f)))
unfolding posted done stored refusal_in
number_of_lem t b f = go (first_refusal (rows_for t b (Call.File f)))
  where
    go : (v : Verdict) → refusal_in (outcome v b (done t b (Call.File f))).answer ≡ numbered v
    go (Ok u) = refl
    go (Err r) = refl

pub stands_in_place : (t : Table) (b : Book) (f : Filing) → StandsInPlaceOf9 t b f
unfolding rows_for head_rows own_rows file_rows
stands_in_place t b f =
    number_of_lem t b (with_purpose Purpose.Amend f)
    ∙ told_after in_place_of9 (rows_before t b f) (filed_row true (is_filed b (family_of f)) ∷ [])
    (filed_row false (is_filed b (family_of f)) ∷ []) refl (in_place (is_filed b (family_of f)))
    ∙ ap in_place_of9 (sym (number_of_lem t b (with_purpose large_entry f)))

-- ---- the last one counts
-- a part stored over another: as if it alone had been stored
stored_again :
    (b : Book) (c f : ℕ) (y z : ℤ) → c < length b.marks → stored (stored b c f y).book c f z ≡ stored b c f z
unfolding stored
stored_again b c f y z h =
    let mark = get_or b.marks c 0 in
    let m = get_or-set_same b.marks c (with_mark mark f) 0 h in
    let k = mark_kept (with_mark mark f) f (marked_same mark f) in
    let s = set-set b.marks c (with_mark mark f) (with_mark mark f) in
    let p = set-set b.parts (c * families + f) y z in
    rw (m, k, s, p)

-- a family that is filed as the call would have it
as_asked : (amending is_filed : Bool) → is_filed ≡ amending → first_refusal (filed_row amending is_filed ∷ []) ≡ Ok tt
as_asked true is_filed e = rw e
as_asked false is_filed e = rw e

-- one answer, and where it accepts one book
abbrev SameAs : Posted → Posted → Type 0
SameAs p q = (p.answer ≡ q.answer) × (is_accepted q.answer ≡ true → p.book ≡ q.book)

module _ (t u : Table) (b : Book) (f g : Filing) (z : Sized b) (h : Fileable t b f) (same : family_of f ≡ family_of g) where
  abbrev after : Book
  after = (done t b (Call.File f)).book

  -- g in f's place, and after it
  abbrev there : Filing
  there = with_purpose (in_large_entry f.purpose) g

  same_cell : filing_cell g ≡ filing_cell f
  same_cell = ap (λ (k : Family). cell k.maker k.set) (sym same)

  same_number : g.family ≡ f.family
  same_number = ap (λ (k : Family). k.number) (sym same)

  -- its family is filed after f, and before it was if f amends
  filed_after : is_filed after (family_of g) ≡ true
  unfolding done stored
  filed_after =
      mark_here b (filing_cell f) f.family (part_for t f) z (omega (arith, h.maker, h.set)) h.family
      (filing_cell g) g.family (same_cell, same_number)

  filed_before : is_filed b (family_of g) ≡ amends f.purpose
  filed_before = rw (same_cell, same_number) h.mark

  there_rows :
      first_refusal (rows_before u b g ++ filed_row (amends f.purpose) (is_filed b (family_of g)) ∷ [])
      ≡ first_refusal (rows_for u b (Call.File there))
  unfolding rows_for head_rows own_rows file_rows
  there_rows = go f.purpose
    where
      go :
          (p : Purpose)
          → first_refusal (rows_before u b g ++ filed_row (amends p) (is_filed b (family_of g)) ∷ [])
          ≡ first_refusal (rows_for u b (Call.File (with_purpose (in_large_entry p) g)))
      go (Purpose.File l) = refl
      go Purpose.Amend = refl

  same_verdict :
      first_refusal (rows_for u after (Call.File (with_purpose Purpose.Amend g))) ≡ first_refusal (rows_for u b (Call.File there))
  unfolding done stored rows_for head_rows own_rows file_rows
  same_verdict =
      ap
      (λ (s : Bool). first_refusal
      (head_rows s (fit_row (accepted_table u) ∷ []) ++ file_rows (ordinary_for u g) b.open_year after.marks (with_purpose Purpose.Amend g)))
      (still_sound t b f z h)
      ∙ same_after (rows_before u b g) (filed_row true (is_filed after (family_of g)) ∷ []) (filed_row (amends f.purpose) (is_filed b (family_of g)) ∷ [])
      (as_asked true (is_filed after (family_of g)) filed_after ∙ sym (as_asked (amends f.purpose) (is_filed b (family_of g)) filed_before))
      ∙ there_rows

  same_done : done u after (Call.File (with_purpose Purpose.Amend g)) ≡ done u b (Call.File there)
  unfolding done part_beside
  same_done =
      rw (same_cell, same_number)
      (stored_again b (filing_cell f) f.family (part_for t f) (part_for u g) (omega (arith, h.maker, h.set, z.marks)))

  in_its_place_lem : SameAs (posted u after (Call.File (with_purpose Purpose.Amend g))) (posted u b (Call.File there))
  unfolding posted is_accepted
  in_its_place_lem =
      subst
      (λ (v : Verdict). SameAs (outcome v after (done u after (Call.File (with_purpose Purpose.Amend g)))) (posted u b (Call.File there)))
      (sym same_verdict)
      (alike SameAs (first_refusal (rows_for u b (Call.File there))) _ _ _ _ (λ r. (refl, λ a. absurd (true≢false (sym a))))
      (ap (λ (p : Posted). p.answer) same_done, λ a. ap (λ (p : Posted). p.book) same_done))

pub last_counts : (t u : Table) (b : Book) (f g : Filing) → LastCounts t u b f g
unfolding own_rows is_accepted
last_counts t u b f g z a same =
    let w =
    by_verdict t b (Call.File f)
    (λ p. is_accepted p.answer ≡ true
    → SameAs (posted u p.book (Call.File (with_purpose Purpose.Amend g))) (posted u b (Call.File (with_purpose (in_large_entry f.purpose) g))))
    (λ r d. absurd (true≢false (sym d))) (λ s e d. in_its_place_lem t u b f g z (fileable t b f s e) same) a
    in
    record { answer = w.0; book = w.1 }
