-- The theorems, cited.
use mathlib.Core.Path.{refl}
use Rattle.book.proofs.BegunAnew as laws
use Rattle.book.proofs.claims.begins_anew.Goals as goal

pub returns : goal.returns
returns c = (refl, laws.opening_stays, laws.fresh_begins, laws.begun_fresh)
