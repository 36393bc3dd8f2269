-- The terminal's book as text: written out, moved to a new terminal, and read in.
use Prim.Native.Nat.{ℕ}
use mathlib.Core.Bool.{true}
use mathlib.Core.List.{List, [], ◌∷◌, ◌++◌}
use mathlib.Core.Path.{◌≡◌, sym, subst}
use Rattle.figuring.specs.Tables.{Table}
use Rattle.book.specs.Soundness.{sound}
use Rattle.book.specs.Companions.{Sized}
use Rattle.book.specs.Postings.{fresh_book}
use Rattle.book.specs.declared.ledger.Book.{Book}
use Rattle.book.proofs.FreshSound.{fresh_sound, fresh_sized}
use Rattle.text.specs.Desk.{line_feed}
use Rattle.text.specs.Loads.{Read, accepted}
use Rattle.text.specs.BookReading.{read_book}
use Rattle.text.specs.RoundTrip.{Marks64}
use Rattle.text.proofs.RoundTripLaws.{round_trip}
use Rattle.shown.specs.Calls.{calls}
use Rattle.shown.specs.Moving.{GoesOn, WrittenOut, MovedAsText, FromText}
use Rattle.shown.proofs.ShownLaws.{by_calls, demands, on_screen}
use Rattle.shown.proofs.MovingLaws.{moves_on}
use Rattle.shown.proofs.KeptMarks.{marks_after, fresh_marks}

pub written_out :
    (t : Table) (b : Book) (input : List ℕ) → Sized b → Marks64 b → sound b ≡ true → WrittenOut t b input
written_out t b input z w s =
    let d = demands t b input z s in
    let m = subst Marks64 (sym (by_calls t b input).book) (marks_after b (calls t input) z w) in
    record { marks = m; same_book = round_trip.same_book _ d.stays_sized m d.stays_sound }

pub fresh_written : (t : Table) (input : List ℕ) → WrittenOut t fresh_book input
fresh_written t input = written_out t fresh_book input fresh_sized fresh_marks fresh_sound

-- a text is read as one book
one_book : {b c : Book} {r : Read Book} → r ≡ accepted b → r ≡ accepted c → b ≡ c
one_book e d = cc

pub moved_as_text :
    (t : Table) (b : Book) (p q : List ℕ) → Sized b → Marks64 b → sound b ≡ true → MovedAsText t b (p ++ line_feed ∷ []) q
moved_as_text t b p q z w s =
    let first : List ℕ = p ++ line_feed ∷ [] in
    let h = (written_out t b first z w s).same_book in
    record {
      same_book = h;
      goes_on = λ c e. subst (λ (d : Book). GoesOn t b first d q) (one_book h e) (moves_on t b p q);
    }

pub from_text :
    (t : Table) (s : List ℕ) (b : Book) (input : List ℕ) → read_book s ≡ accepted b → FromText t b input
from_text t s b input e =
    let h = round_trip.read_sound s b e in
    record {
      begins = h;
      demands = demands t b input h.sized h.is_sound;
      on_screen = on_screen t b input h.sized h.is_sound;
      written_out = written_out t b input h.sized h.bits h.is_sound;
    }
