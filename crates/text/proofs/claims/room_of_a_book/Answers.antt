use mathlib.Core.Path.{refl}
use Rattle.text.proofs.BookRoomLaws as laws
use Rattle.text.proofs.claims.room_of_a_book.Goals as goal

-- The theorem, cited.

pub returns : goal.returns
returns c = (refl, laws.room)
