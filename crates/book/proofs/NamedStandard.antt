-- Card 5: an accepted filing has passed 6 and 17, so the edition that it names has a standard, and its part is by it.
-- And which of 6 and 17 a filing gets.
use mathlib.Core.Bool.{true, false, false≢true}
use mathlib.Core.Path.{◌≡◌, refl, ◌∙◌, ap}
use native.Mathlib.Omega.{arith}
use borrow.Author.Tests.{lt-leb, eq-eqb, ne_eqb}
use Rattle.figuring.specs.Standards.{grams_of}
use Rattle.figuring.specs.Editions.{standard_under, no_edition}
use Rattle.figuring.proofs.EditionLaws.{named, card_editions}
use Rattle.figuring.specs.Tables.{Table}
use Rattle.book.specs.Sizes.{makers, sets, all_closed}
use Rattle.book.specs.Refusals.{Answered, Verdict, first_refusal, refusal_in, values_in, result_in}
use Rattle.book.specs.Postings.{ordinary_for, part_for, part_beside, stored}
use Rattle.book.specs.Rules.{posted, rows_for, head_rows, own_rows, file_rows, done, outcome}
use Rattle.book.specs.Demand3.{is_accepted}
use Rattle.book.specs.Editions.{UnderNamed, Reaches6, SixThenSeventeen, ElseTheSame}
use Rattle.book.specs.Filings.{with_edition}
use Rattle.book.specs.declared.ledger.Book.{Book}
use Rattle.book.specs.declared.kinds.Call.{Call}
use Rattle.book.specs.declared.kinds.Filing.{Filing}
use Rattle.book.proofs.TableLaws.{alike, by_verdict}
use Rattle.book.proofs.FileFacts.{accepted_filing}

answers_part :
    (t : Table) (b : Book) (f : Filing) → is_accepted (posted t b (Call.File f)).answer ≡ true
    → result_in (posted t b (Call.File f)).answer 0 ≡ part_for t f
unfolding done stored is_accepted values_in
answers_part t b f =
    by_verdict t b (Call.File f) (λ p. is_accepted p.answer ≡ true → result_in p.answer 0 ≡ part_for t f)
    (λ r a. absurd (false≢true a)) (λ s e a. refl)

pub under_named : (t : Table) (b : Book) (f : Filing) → UnderNamed t b f
unfolding part_beside
under_named t b f a =
    let h = accepted_filing t b f a in
    record {
      standard = grams_of (standard_under (ordinary_for t f) f.edition f.set f.vehicle_use f.year);
      named = named t f.set f.vehicle_use f.year h.standard f.edition h.edition;
      part = refl;
      answered = answers_part t b f a;
    }

-- 6 and 17, where the entries before 6 have passed
pub six_then_seventeen : (t : Table) (b : Book) (f : Filing) → Reaches6 t b f → SixThenSeventeen t b f
unfolding posted rows_for head_rows own_rows file_rows refusal_in
six_then_seventeen t b f h =
    let m = lt-leb makers f.maker h.maker in
    let s = lt-leb sets f.set h.set in
    let y = eq-eqb f.year b.open_year h.year in
    let o = ne_eqb b.open_year all_closed (λ e. omega (arith, h.not_all_closed)) in
    record { six = λ a. rw (h.sound, h.fit, m, s, y, o, a); seventeen = λ a n. rw (h.sound, h.fit, m, s, y, o, a, n) }

-- An edition that 17 lets pass: the rows read no more of it, so the verdict is that with edition 0.
module _ (t : Table) (b : Book) (f : Filing) (n : no_edition f.edition f.set f.year ≡ false) where
  abbrev ordinary : Call
  ordinary = Call.File (with_edition 0 f)

  same_verdict : first_refusal (rows_for t b (Call.File f)) ≡ first_refusal (rows_for t b ordinary)
  unfolding rows_for own_rows file_rows
  same_verdict = rw (n, (card_editions.ordinary (ordinary_for t f) f.set f.vehicle_use f.year).1)

  -- what reads of an accepted answer no part
  same_answer :
      {X : Type 0} (read : Answered → X) → read (done t b (Call.File f)).answer ≡ read (done t b ordinary).answer
      → read (posted t b (Call.File f)).answer ≡ read (posted t b ordinary).answer
  unfolding posted
  same_answer read e =
      ap (λ (v : Verdict). read (outcome v b (done t b (Call.File f))).answer) same_verdict
      ∙ alike (λ p q. read p.answer ≡ read q.answer) (first_refusal (rows_for t b ordinary)) _ _ _ _ (λ r. refl) e

pub else_the_same : (t : Table) (b : Book) (f : Filing) → ElseTheSame t b f
unfolding done stored refusal_in values_in
else_the_same t b f n =
    record {
      refusal = same_answer t b f n refusal_in refl;
      count = same_answer t b f n (λ a. result_in a 1) refl;
    }
