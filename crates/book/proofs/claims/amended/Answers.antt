-- The theorems, cited.
use mathlib.Core.Path.{refl}
use Rattle.book.proofs.Amendments as laws
use Rattle.book.proofs.claims.amended.Goals as goal

pub returns : goal.returns
returns c = (refl, laws.replaces, laws.stands_in_place)
