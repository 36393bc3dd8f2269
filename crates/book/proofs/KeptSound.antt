-- A call keeps a sound book sound and its lists as long as they were: refused, the book is the same; accepted, by its record.
use mathlib.Core.Bool.{true}
use mathlib.Core.List.{List, [], ◌∷◌}
use mathlib.Core.Path.{◌≡◌}
use Rattle.figuring.specs.Tables.{Table}
use Rattle.book.specs.Soundness.{sound}
use Rattle.book.specs.Rules.{Request, posted, posted_to, done}
use Rattle.book.specs.Demand3.{book_after}
use Rattle.book.specs.Companions.{Sized, KeepsSound}
use Rattle.book.specs.declared.ledger.Book.{Book}
use Rattle.book.specs.declared.kinds.Call.{Call}
use Rattle.book.proofs.TableLaws.{by_verdict}
use Rattle.book.proofs.SoundnessLaws.{is_sound}
use Rattle.book.proofs.CallLaws.{lawful}

pub keeps_sized : (t : Table) (b : Book) (c : Call) → Sized b → Sized (posted t b c).book
keeps_sized t b c z = by_verdict t b c (λ p. Sized p.book) (λ r. z) (λ s e. (lawful t b c s e).sized z)

pub sized_after : (b : Book) (rs : List Request) → Sized b → Sized (book_after b rs)
unfolding book_after
sized_after b [] z = z
sized_after b (r ∷ rs) z = sized_after (posted_to b r).book rs (keeps_sized r.table b r.call z)

pub keeps_sound : (t : Table) (b : Book) (c : Call) → Sized b → sound b ≡ true → sound (posted t b c).book ≡ true
keeps_sound t b c z s =
    by_verdict t b c (λ p. sound p.book ≡ true) (λ r. s)
    (λ h e. is_sound (done t b c).book ((lawful t b c h e).sound z))

pub sound_after : (b : Book) (rs : List Request) → Sized b → sound b ≡ true → sound (book_after b rs) ≡ true
unfolding book_after
sound_after b [] z s = s
sound_after b (r ∷ rs) z s =
    sound_after (posted_to b r).book rs (keeps_sized r.table b r.call z) (keeps_sound r.table b r.call z s)

pub keeps : (t : Table) (b : Book) (c : Call) → KeepsSound t b c
keeps t b c z s = (keeps_sized t b c z, keeps_sound t b c z s)
