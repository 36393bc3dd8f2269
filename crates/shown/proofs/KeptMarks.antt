-- Marks of 64 bits stay such: a filing stores its family as an entry of a book's text is stored, a close clears the marks,
-- and no other call writes them.
use mathlib.Core.Bool.{true}
use mathlib.Core.List.{List, [], ◌∷◌}
use mathlib.Core.Path.{◌≡◌}
use Rattle.std.specs.Prelude.{Ok}
use Rattle.figuring.specs.Tables.{Table}
use Rattle.figuring.specs.Years.{first_year}
use Rattle.book.specs.Soundness.{sound}
use Rattle.book.specs.Refusals.{first_refusal}
use Rattle.book.specs.Postings.{fresh_book, close_done, trade_done, application_done, retirement_done, part_for}
use Rattle.book.specs.Covering.{cover_done}
use Rattle.book.specs.Rules.{Request, own_rows, done, posted, posted_to}
use Rattle.book.specs.Companions.{Sized}
use Rattle.book.specs.Demand3.{book_after}
use Rattle.book.specs.declared.ledger.Book.{Book}
use Rattle.book.specs.declared.kinds.Call.{Call}
use Rattle.book.proofs.TableLaws.{by_verdict}
use Rattle.book.proofs.FileFacts.{fileable}
use Rattle.book.proofs.SoundnessLaws.{sound_is}
use Rattle.book.proofs.KeptSound.{keeps_sized}
use Rattle.text.specs.declared.entries.Entry.{Entry}
use Rattle.text.specs.Entries.{enter, empty_at}
use Rattle.text.specs.RoundTrip.{Marks64}
use Rattle.text.proofs.WritableLaws.{sound_writable}
use Rattle.text.proofs.EntryLaws.{Neat, empty_neat, stores}

sound_neat : (b : Book) → Sized b → Marks64 b → sound b ≡ true → Neat b
sound_neat b z w s =
    let v = sound_writable b z w (sound_is b s) in
    record { sized = z; bits = w; unmarked = v.unmarked }

done_marks :
    (t : Table) (b : Book) (c : Call) → Sized b → Marks64 b → sound b ≡ true → first_refusal (own_rows t b c) ≡ Ok tt
    → Marks64 (done t b c).book
unfolding own_rows done enter empty_at close_done trade_done application_done retirement_done cover_done
done_marks t b (Call.File f) z w s e =
    let h = fileable t b f s e in
    (stores.keeps b (Entry.Family f.maker f.set f.family (part_for t f)) (sound_neat b z w s)
    (record { maker = h.maker; set = h.set; number = h.family })).bits
done_marks t b (Call.Close y) z w s e = (empty_neat y).bits
done_marks t b (Call.Trade x) z w s e = w
done_marks t b (Call.Apply p) z w s e = w
done_marks t b (Call.Retire p) z w s e = w
done_marks t b (Call.Cover c) z w s e = w

keeps_marks : (t : Table) (b : Book) (c : Call) → Sized b → Marks64 b → Marks64 (posted t b c).book
keeps_marks t b c z w = by_verdict t b c (λ p. Marks64 p.book) (λ r. w) (done_marks t b c z w)

pub marks_after : (b : Book) (rs : List Request) → Sized b → Marks64 b → Marks64 (book_after b rs)
unfolding book_after
marks_after b [] z w = w
marks_after b (r ∷ rs) z w =
    marks_after (posted_to b r).book rs (keeps_sized r.table b r.call z) (keeps_marks r.table b r.call z w)

pub fresh_marks : Marks64 fresh_book
unfolding fresh_book empty_at
fresh_marks = (empty_neat first_year).bits
