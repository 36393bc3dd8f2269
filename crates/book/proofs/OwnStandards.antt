-- Card 7 in the book: where 20 comes, that no other call reads a table, and that with the built-in one all is as before.
use mathlib.Core.Bool.{true, not}
use mathlib.Core.List.{[], ◌∷◌}
use mathlib.Core.Path.{◌≡◌, refl}
use native.Mathlib.Omega.{arith}
use Rattle.figuring.specs.Tables.{Table, accepted_table}
use Rattle.figuring.proofs.TableLaws.{built_in_accepted, as_printed}
use Rattle.book.specs.Soundness.{sound}
use Rattle.book.specs.Refusals.{◌⇒◌, refusal_in}
use Rattle.book.specs.Rules.{posted, rows_for, head_rows, own_rows, file_rows, done}
use Rattle.book.specs.OwnStandards.{Twenty, ReadNoTable, WithinBound, posted_before, AsBefore}
use Rattle.book.specs.declared.ledger.Book.{Book}
use Rattle.book.specs.declared.kinds.Call.{Call}
use Rattle.book.specs.declared.kinds.Filing.{Filing}
use Rattle.book.specs.declared.answers.Refusal.TheVariants.{UnsoundBook}
use Rattle.book.proofs.TableLaws.{by_rows}
use Rattle.book.proofs.RefusalLaws.{accepted_number}
use Rattle.book.proofs.FileFacts.{accepted_filing}
use Rattle.book.proofs.FilingLaws.{filed_part}
use Rattle.book.proofs.CallLaws.{lawful, filed_gives_not}
use Rattle.book.proofs.NeverUnsound.{refuses_not}

-- ---- 20
-- with an accepted table no row of a filing gives it
twenty_never : (t : Table) (b : Book) (f : Filing) → accepted_table t ≡ true → refusal_in (posted t b (Call.File f)).answer ≡ 20 → ⊥
unfolding head_rows own_rows file_rows refusal_in
twenty_never t b f a =
    by_rows t b (Call.File f) (λ p. refusal_in p.answer ≡ 20 → ⊥)
    (λ r e. refuses_not 20 ((not (sound b) ⇒ UnsoundBook) ∷ []) r refl (rw a at e))
    (λ r. refuses_not 20 (own_rows t b (Call.File f)) r (filed_gives_not 20 refl refl b f))
    (λ h e n. omega (arith, accepted_number (done t b (Call.File f)).answer (lawful t b (Call.File f) h e).answered))

pub twenty : (t : Table) (b : Book) (f : Filing) → Twenty t b f
unfolding posted rows_for head_rows own_rows file_rows refusal_in
twenty t b f =
    record {
      two_first = λ s. rw s;
      then_twenty = λ s a. rw (s, a);
      else_never = twenty_never t b f;
    }

pub reads_none : (t u : Table) (b : Book) → ReadNoTable t u b
unfolding posted rows_for own_rows done
reads_none t u b =
    record { close = λ y. refl; trade = λ x. refl; apply = λ p. refl; retire = λ p. refl; cover = λ c. refl }

-- ---- the bound
pub within_bound : (t : Table) (b : Book) (f : Filing) → WithinBound t b f
within_bound t b f a = filed_part t b f (accepted_filing t b f a)

-- ---- the built-in table
pub as_before : (b : Book) (c : Call) → AsBefore b c
unfolding posted rows_for head_rows own_rows file_rows done posted_before
as_before b (Call.File f) = rw (built_in_accepted, as_printed f.set f.vehicle_use f.year)
as_before b (Call.Close y) = refl
as_before b (Call.Trade x) = refl
as_before b (Call.Apply p) = refl
as_before b (Call.Retire p) = refl
as_before b (Call.Cover c) = refl
