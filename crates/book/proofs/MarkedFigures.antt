-- The marked figures, P1 to P12: by computing, but for the soundness of the books, which the laws give.
use mathlib.Core.Bool.{true}
use mathlib.Core.Path.{◌≡◌, refl, ◌∙◌, ap}
use native.Mathlib.Omega.{arith}
use lib.IntN.{pos}
use Rattle.figuring.specs.Standards.{standard_for, tractor, printed_for}
use Rattle.figuring.specs.Tables.{built_in}
use Rattle.figuring.proofs.TableLaws.{built_in_accepted, as_printed}
use Rattle.figuring.specs.Editions.{no_edition}
use Rattle.figuring.specs.Parts.{within_limits, between}
use Rattle.figuring.specs.Netting.{earned_of}
use Rattle.figuring.proofs.MarkedLaws as Figuring
use Rattle.book.specs.Below.{sum_below_ℤ}
use Rattle.book.specs.Ledger.{key, figure_at, marked, cell_sum}
use Rattle.book.specs.Soundness.{sound}
use Rattle.book.specs.Refusals.{refusal_in}
use Rattle.book.specs.Postings.{fresh_book, stored, close_done, earned_by}
use Rattle.book.specs.Rules.{posted, rows_for, head_rows, own_rows, done, file_rows, close_rows}
use Rattle.book.specs.Demand3.{is_accepted}
use Rattle.book.specs.Companions.{Sized}
use Rattle.book.specs.Marked.{MarkedFigures, last_open, one_part, two_parts}
use Rattle.book.specs.declared.ledger.Book.{Book}
use Rattle.book.specs.declared.kinds.Call.{Call}
use Rattle.book.specs.declared.answers.Posted.{Posted}
use Rattle.book.proofs.LedgerLaws.{netted_in}
use Rattle.book.proofs.SoundnessLaws.{Sound, sound_is, is_sound}
use Rattle.book.proofs.FreshSound.{fresh_sound, fresh_sized, last_sound, last_sized}
use Rattle.book.proofs.FilingLaws.{stored_sized, stored_sound}
use Rattle.book.proofs.KeptSound.{keeps_sound}

-- ---- P7, of a close: the parts are added before figuring's P7 rounds them. The book is sound by the laws.
one_sized : Sized one_part
unfolding one_part
one_sized = stored_sized fresh_book 0 0 (pos 40000000) fresh_sized

two_sized : Sized two_parts
unfolding two_parts
two_sized = stored_sized one_part 0 1 (pos 40000000) one_sized

two_sound : Sound two_parts
unfolding two_parts one_part
two_sound =
    stored_sound one_part 0 1 (pos 40000000) one_sized (omega arith) (omega arith)
    (stored_sound fresh_book 0 0 (pos 40000000) fresh_sized (omega arith) (omega arith) (sound_is fresh_book fresh_sound) (omega arith))
    (omega arith)

two_earned : earned_by two_parts 0 ≡ 1
unfolding two_parts one_part stored fresh_book cell_sum sum_below_ℤ earned_of
two_earned = ap earned_of (Figuring.marked_figures).P7

close_two : posted built_in two_parts (Call.Close 2014) ≡ close_done two_parts
unfolding posted rows_for head_rows own_rows close_rows done two_parts one_part stored fresh_book
close_two = rw (is_sound two_parts two_sound)

two_taken : is_accepted (posted built_in two_parts (Call.Close 2014)).answer ≡ true
unfolding close_done is_accepted
two_taken = ap (λ (p : Posted). is_accepted p.answer) close_two

two_lot : figure_at (posted built_in two_parts (Call.Close 2014)).book.lots (key 0 0 2014) ≡ 1
unfolding close_done two_parts one_part stored fresh_book
two_lot =
    ap (λ (p : Posted). figure_at p.book.lots (key 0 0 2014)) close_two
    ∙ netted_in 2014 (earned_by two_parts) two_parts.lots (key 0 0 2014) two_sized.lots (omega arith) refl ∙ two_earned

-- ---- P12: the book after the last close is sound by the laws, and its open year is 2038
close_last : posted built_in last_open (Call.Close 2037) ≡ close_done last_open
unfolding posted rows_for head_rows own_rows close_rows done last_open
close_last = rw last_sound

close_taken : is_accepted (posted built_in last_open (Call.Close 2037)).answer ≡ true
unfolding close_done is_accepted
close_taken = ap (λ (p : Posted). is_accepted p.answer) close_last

all_closed : (posted built_in last_open (Call.Close 2037)).book.open_year ≡ 2038
unfolding close_done last_open
all_closed = ap (λ (p : Posted). p.book.open_year) close_last

refused_by_5 :
    (b : Book) → sound b ≡ true → b.open_year ≡ 2038 → refusal_in (posted built_in b (Call.Close 2038)).answer ≡ 5
unfolding posted rows_for head_rows own_rows close_rows refusal_in
refused_by_5 b s y = rw (s, y)

close_refused : refusal_in (posted built_in (posted built_in last_open (Call.Close 2037)).book (Call.Close 2038)).answer ≡ 5
close_refused =
    refused_by_5 (posted built_in last_open (Call.Close 2037)).book
    (keeps_sound built_in last_open (Call.Close 2037) last_sized last_sound) all_closed

-- ---- all of them
pub marked_figures : MarkedFigures
unfolding posted rows_for head_rows own_rows file_rows done stored fresh_book is_accepted refusal_in marked standard_for tractor printed_for no_edition within_limits between
marked_figures =
    record {
      figuring = Figuring.marked_figures;
      P7 = (two_taken, two_lot);
      P10 = (
        rw (fresh_sound, built_in_accepted, as_printed 3 1 2014),
        rw (fresh_sound, built_in_accepted, as_printed 3 1 2014),
        rw (fresh_sound, built_in_accepted, as_printed 3 1 2014),
      );
      P11 = (rw (fresh_sound, built_in_accepted, as_printed 3 1 2014), rw (fresh_sound, built_in_accepted, as_printed 3 1 2014));
      P12 = (close_taken, close_refused);
    }
